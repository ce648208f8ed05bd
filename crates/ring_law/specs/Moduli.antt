-- Lists of moduli, their products, and fast base conversion (Bajard, Eynard, Hasan and Zucca 2016).
use Rattle.std.specs.Prelude.{◌≡◌, ℕ, zero, suc, ◌*◌, ◌<◌, ℤ, pos, ◌+ℤ◌, ◌*ℤ◌, List, [], ◌∷◌, length, slice_index, AllPairs, EachIndex, ◌==◌, if◌then◌else◌}
use Rattle.std.specs.Int.{IsGcd}
use Rattle.ring_law.specs.Sums.{sum_below}
use Rattle.ring_law.specs.Residues.{residue}

-- no two of the moduli have a common divisor but 1
abbrev pub PairwiseCoprime : List ℕ → Type 0
PairwiseCoprime moduli = AllPairs (λ p q. IsGcd p q 1) moduli

-- each modulus is at least 2
abbrev pub AllAboveOne : List ℕ → Type 0
AllAboveOne moduli = EachIndex moduli (λ i. 1 < slice_index moduli i)

-- the product of all numbers of a list
unfoldable pub product : List ℕ → ℕ
product [] = 1
product (q ∷ qs) = q * product qs

-- the product of all numbers of a list but the one at place i
unfoldable pub product_of_others : List ℕ → ℕ → ℕ
product_of_others [] i = 1
product_of_others (q ∷ qs) zero = product qs
product_of_others (q ∷ qs) (suc i) = q * product_of_others qs i

-- g is 1 modulo modulus i and 0 modulo the others
abbrev pub Selects : List ℕ → ℕ → ℤ → Type 0
Selects moduli i g = EachIndex moduli (λ j. residue (slice_index moduli j) g ≡ (if j == i then 1 else 0))

-- the fast conversion of one word for each modulus: the sum over i of word i times the product of the other moduli
unfoldable pub fast_conversion : List ℕ → (ℕ → ℕ) → ℤ
fast_conversion moduli word = sum_below (length moduli) (λ i. pos (word i) *ℤ pos (product_of_others moduli i))

-- y is what a fast conversion may give for x: its residue modulo q and fewer than `count` times q more
pub record IsFastConversion (q count : ℕ) (x y : ℤ) : Type 0 where
  pub overflow : ℕ
  pub few : overflow < count
  pub equation : y ≡ pos (residue q x) +ℤ pos overflow *ℤ pos q
