-- The constants of a converter, row by row.
use Rattle.std.specs.Int.{IsGcd}
use Rattle.std.specs.Prelude.{◌≡◌, ℕ, ◌+◌, ◌-◌, ◌*◌, ◌/◌, ◌%◌, ◌^◌, ◌<◌, ◌≤◌, ℤ, pos, neg_ℤ, ◌+ℤ◌, ◌*ℤ◌, List, [], length, map, slice_index, slice_index_or, All, EachIndex}
use Rattle.set_table.specs.Sets.{m_tilde}
use Rattle.word_mod.specs.Moduli.{IsModulus}
use Rattle.ring_law.specs.Sums.{sum_below}
use Rattle.ring_law.specs.Residues.{residue}
use Rattle.ring_law.specs.Moduli.{product, product_of_others}
use Rattle.res_base.specs.Bases.{IsBase}
use Rattle.fast_conv.specs.declared.outputs.RowConstants.{RowConstants}

-- ---- rows that are read
-- a modulus, and the factor that makes the word of a fast conversion from a residue
pub record Input : Type 0 where
  pub modulus : ℕ
  pub factor : ℕ

-- the row that isn't there
abbrev pub no_input : Input
no_input = record { modulus = 0; factor = 0 }

abbrev pub input_moduli : List Input → List ℕ
input_moduli inputs = map (λ r. r.modulus) inputs

-- the word of input i for the residue x
abbrev pub input_word : List Input → ℕ → ℕ → ℕ
input_word inputs i x = x * (slice_index_or inputs i no_input).factor % (slice_index_or inputs i no_input).modulus

-- factor i is `scale` divided by the product of the other moduli, modulo modulus i
abbrev pub HasInputFactor : List ℕ → ℕ → List Input → ℕ → Type 0
HasInputFactor qs scale inputs i =
    (slice_index_or inputs i no_input).factor * product_of_others qs i % slice_index qs i ≡ scale % slice_index qs i

-- the inputs of conversions from the base qs, of `scale` times the number that its rows stand for
pub record AreInputs (qs : List ℕ) (scale : ℕ) (inputs : List Input) : Type 0 where
  pub base : IsBase qs
  pub moduli : input_moduli inputs ≡ qs
  pub factors : EachIndex qs (HasInputFactor qs scale inputs)

-- ---- rows that are written
-- a modulus, the factors of the words, that of one word more, and what is added
pub record Output : Type 0 where
  pub modulus : ℕ
  pub factors : List ℕ
  pub last_factor : ℕ
  pub added : ℕ

abbrev pub output_moduli : List Output → List ℕ
output_moduli outputs = map (λ r. r.modulus) outputs

-- the constants are so small that a sum of products with 33 words fits in 128 bits
pub record IsOutput (r : Output) : Type 0 where
  pub modulus : IsModulus r.modulus
  pub few : length r.factors ≤ 32
  pub factors : All (λ f. f < 2 ^ 61) r.factors
  pub last_factor : r.last_factor < 2 ^ 61
  pub added : r.added < 2 ^ 61

-- the row of these constants, whose factors are their scale times the products of the others of qs
pub record IsRowOf (qs : List ℕ) (modulus : ℕ) (c : RowConstants) (r : Output) : Type 0 where
  pub is_modulus : IsModulus modulus
  pub same : r.modulus ≡ modulus
  pub count : length r.factors ≡ length qs
  pub factors : EachIndex qs (λ i. slice_index r.factors i ≡ c.scale * product_of_others qs i % modulus)
  pub last : r.last_factor ≡ c.last_factor
  pub constant : r.added ≡ c.added

-- the sum of the words, each times its factor, the last word times its own, and what is added
unfoldable pub combination : Output → (ℕ → ℕ) → ℕ → ℤ
combination r word last =
    sum_below (length r.factors) (λ i. pos (word i) *ℤ pos (slice_index r.factors i))
    +ℤ pos last *ℤ pos r.last_factor +ℤ pos r.added

-- modulo its own modulus, `divisor` times the sum of an output is `sign` times the fast conversion from qs, and `by_last` times the
-- last word, and `by_all`
pub record IsOutputOf (qs : List ℕ) (divisor : ℕ) (sign by_last by_all : ℤ) (r : Output) : Type 0 where
  pub modulus : IsModulus r.modulus
  pub count : length r.factors ≡ length qs
  pub factors : EachIndex qs (λ i. residue r.modulus (pos divisor *ℤ pos (slice_index r.factors i))
      ≡ residue r.modulus (sign *ℤ pos (product_of_others qs i)))
  pub last_factor : residue r.modulus (pos divisor *ℤ pos r.last_factor) ≡ residue r.modulus by_last
  pub added : residue r.modulus (pos divisor *ℤ pos r.added) ≡ residue r.modulus by_all

-- the row that isn't there
abbrev pub no_output : Output
no_output = record { modulus = 0; factors = []; last_factor = 0; added = 0 }

-- the outputs into the moduli ps
pub record AreOutputs (qs ps : List ℕ) (divisor : ℕ) (sign last added : ℤ) (outputs : List Output) : Type 0 where
  pub moduli : output_moduli outputs ≡ ps
  pub each : All (IsOutputOf qs divisor sign last added) outputs

-- ---- the lift
-- word i is the negative of the inverse of modulus i modulo `m_tilde`
pub record AreCorrections (qs : List ℕ) (words : List ℕ) : Type 0 where
  pub count : length words ≡ length qs
  pub each : EachIndex qs (λ i. (slice_index words i * slice_index qs i + 1) % m_tilde ≡ 0)
  pub below : All (λ word. word < 2 ^ 61) words

-- the sum of the words, each times its correction, and half of `m_tilde`, modulo it
abbrev pub correction_word : List ℕ → (ℕ → ℕ) → ℕ
correction_word corrections word =
    residue m_tilde (sum_below (length corrections) (λ i. pos (word i) *ℤ pos (slice_index corrections i)) +ℤ pos (m_tilde / 2))

-- ---- the way back
-- the rows of a way back from the base qs and one modulus more, that of the overflow
pub record IsWayBack (qs ps : List ℕ) (inputs : List Input) (overflow : Output) (outputs : List Output) : Type 0 where
  pub read : AreInputs qs 1 inputs
  pub told : IsOutputOf qs (product qs) (pos 1) (neg_ℤ (pos 1)) (pos (product qs) *ℤ pos ((overflow.modulus - 1) / 2)) overflow
  pub written : AreOutputs qs ps 1 (pos 1) (neg_ℤ (pos (product qs))) (pos (product qs) *ℤ pos ((overflow.modulus - 1) / 2)) outputs
  pub room : length qs + overflow.modulus / 4 ≤ (overflow.modulus - 1) / 2
  pub coprime : IsGcd (product qs) overflow.modulus 1

-- ---- dropping a modulus
-- a modulus, and what the word of its row, that of the centred residue and one half of the dropped modulus are multiplied by
pub record Kept : Type 0 where
  pub modulus : ℕ
  pub inverse : ℕ
  pub negative : ℕ
  pub added : ℕ

-- the row that isn't there
abbrev pub no_kept : Kept
no_kept = record { modulus = 0; inverse = 0; negative = 0; added = 0 }

abbrev pub kept_moduli : List Kept → List ℕ
kept_moduli kept = map (λ r. r.modulus) kept

-- the constants are so small that the sum fits in 128 bits
pub record IsKept (r : Kept) : Type 0 where
  pub modulus : IsModulus r.modulus
  pub inverse : r.inverse < r.modulus
  pub negative : r.negative < r.modulus
  pub added : r.added < r.modulus

-- the word for the word x of the row and the word of the centred residue, to which one half of the dropped modulus is added
abbrev pub kept_word : Kept → ℕ → ℕ → ℕ
kept_word r x shifted = (x * r.inverse + shifted * r.negative + r.added) % r.modulus

-- the constants divide by P
pub record IsKeptAt (P : ℕ) (r : Kept) : Type 0 where
  pub is : IsKept r
  pub inverse : r.inverse * P % r.modulus ≡ 1
  pub negative : r.negative ≡ (r.modulus - r.inverse) % r.modulus
  pub added : r.added ≡ (P - 1) / 2 % r.modulus * r.inverse % r.modulus

-- the residue modulo P with one half of P added
abbrev pub shifted_word : ℕ → ℕ → ℕ
shifted_word P x = (x + (P - 1) / 2) % P
