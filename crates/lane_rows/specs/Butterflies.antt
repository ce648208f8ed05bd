use Rattle.std.specs.Prelude.{ℕ, ◌≡◌, ◌+◌, ◌*◌, ◌/◌, ◌%◌, ◌^◌, ◌<◌, List, slice_index}
use Rattle.lane_rows.specs.declared.two_layers.Root.{Root}

-- The words x and y became sum and difference, congruent modulo q to x + w * y and to x - w * y:
-- the step of the transform of Cooley and Tukey (1965).
pub record IsButterfly (q w x y sum difference : ℕ) : Type 0 where
  pub adds : sum % q ≡ (x + w * y) % q
  pub subtracts : (difference + w * y) % q ≡ x % q

-- The words x and y became sum and difference, congruent modulo q to x + y and to w * (x - y):
-- the step of the transform of Gentleman and Sande (1966).
pub record IsButterflyBack (q w x y sum difference : ℕ) : Type 0 where
  pub adds : sum % q ≡ (x + y) % q
  pub subtracts : (difference + w * y) % q ≡ (w * x) % q

-- The same step, with both results multiplied by a factor s: w is that of the difference with s in it.
pub record IsScaledButterflyBack (q s w x y sum difference : ℕ) : Type 0 where
  pub adds : sum % q ≡ (s * (x + y)) % q
  pub subtracts : (difference + w * y) % q ≡ (w * x) % q

-- a root has its quotient modulo q
abbrev pub HasQuotient : ℕ → Root → Type 0
HasQuotient q root = root.shoup ≡ root.w * 2 ^ 64 / q

-- The words a, b, c and d went through two layers: by way of middle words, the pairs (a, c) and (b, d) by the outer step, and
-- then the two words of each half by the step of that half.
pub record TwoLayers (outer first second : ℕ → ℕ → ℕ → ℕ → Type 0) (a b c d new_a new_b new_c new_d : ℕ) : Type 0 where
  pub middle_a : ℕ
  pub middle_b : ℕ
  pub middle_c : ℕ
  pub middle_d : ℕ
  pub outer_a : outer a c middle_a middle_c
  pub outer_b : outer b d middle_b middle_d
  pub first_half : first middle_a middle_b new_a new_b
  pub second_half : second middle_c middle_d new_c new_d

-- The same on the way back: the two words of each half first, and then the pairs.
pub record TwoLayersBack (outer first second : ℕ → ℕ → ℕ → ℕ → Type 0) (a b c d new_a new_b new_c new_d : ℕ) : Type 0 where
  pub middle_a : ℕ
  pub middle_b : ℕ
  pub middle_c : ℕ
  pub middle_d : ℕ
  pub first_half : first a b middle_a middle_b
  pub second_half : second c d middle_c middle_d
  pub outer_a : outer middle_a middle_c new_a new_c
  pub outer_b : outer middle_b middle_d new_b new_d

-- P holds of the words at place i of the four quarters of a block, and of what became of them
abbrev pub FourAt : (ℕ → ℕ → ℕ → ℕ → ℕ → ℕ → ℕ → ℕ → Type 0) → ℕ → ℕ → List ℕ → List ℕ → Type 0
FourAt P quarter i old new =
    P (slice_index old i) (slice_index old (quarter + i)) (slice_index old (2 * quarter + i)) (slice_index old (3 * quarter + i))
    (slice_index new i) (slice_index new (quarter + i)) (slice_index new (2 * quarter + i)) (slice_index new (3 * quarter + i))

-- and of those at each place
abbrev pub EachFour : (ℕ → ℕ → ℕ → ℕ → ℕ → ℕ → ℕ → ℕ → Type 0) → ℕ → List ℕ → List ℕ → Type 0
EachFour P quarter old new = (i : ℕ) → i < quarter → FourAt P quarter i old new

-- the words at place i of the quarters are below a bound
pub record FourBelow (bound quarter i : ℕ) (block : List ℕ) : Type 0 where
  pub a : slice_index block i < bound
  pub b : slice_index block (quarter + i) < bound
  pub c : slice_index block (2 * quarter + i) < bound
  pub d : slice_index block (3 * quarter + i) < bound
