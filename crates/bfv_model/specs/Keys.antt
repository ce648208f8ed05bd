-- What keys are to the secret that they were made for. P is the special modulus, and no error is greater than `error`.
use Rattle.std.specs.Prelude.{◌≡◌, ℕ, ◌+◌, ◌*◌, ◌^◌, ◌<◌, ℤ, pos, neg_ℤ, ◌+ℤ◌, ◌-ℤ◌, ◌*ℤ◌, List, [], ◌∷◌, ◌++◌, length, slice_index}
use Rattle.ring_law.specs.Sums.{sum_below}
use Rattle.ring_law.specs.Residues.{Congruent, HasInverse, residue, centred_residue, floor_quotient}
use Rattle.ring_law.specs.Moduli.{product, Selects}
use Rattle.ring_law.specs.Polynomials.{ring_product, AllWithin}
use Rattle.ring_law.specs.Rows.{WordsRepresent}
use Rattle.ring_law.specs.Transform.{transform_entry}

-- p0 + p1*s is small modulo q
abbrev pub IsPublicKeyOf : ℕ → ℕ → ℕ → (ℕ → ℤ) → (ℕ → ℤ) → (ℕ → ℤ) → Type 0
IsPublicKeyOf n q error p0 p1 s = AllWithin n error (λ k. centred_residue q (p0 k +ℤ ring_product n p1 s k))

-- for each digit i, key0_i + key1_i*s is P*g_i*source up to a small error, modulo q*P (Bajard, Eynard, Hasan and Zucca 2016, with
-- a special modulus)
abbrev pub IsSwitchKeyOf : ℕ → List ℕ → ℕ → ℕ → (ℕ → ℕ → ℤ) → (ℕ → ℕ → ℤ) → (ℕ → ℤ) → (ℕ → ℤ) → Type 0
IsSwitchKeyOf n moduli P error key0 key1 source s =
    (i : ℕ) → i < length moduli → (g : ℤ) → Selects moduli i g
    → AllWithin n error (λ k. centred_residue (product moduli * P) (key0 i k +ℤ ring_product n (key1 i) s k -ℤ (pos P *ℤ g) *ℤ source k))

-- the transform modulo p of degree 2^log, which is n, has this root: its n-th power is -1, and n has an inverse
pub record IsTransformRoot (log p root : ℕ) : Type 0 where
  pub positive : 0 < p
  pub minus_one : Congruent p (pos (root ^ (2 ^ log))) (neg_ℤ (pos 1))
  pub unit : HasInverse p (2 ^ log)

-- The words of a public key, by part, row and place: their rows represent polynomials with the relation.
pub record WordsArePublicKeyOf (n : ℕ) (moduli : List ℕ) (error : ℕ) (word : ℕ → ℕ → ℕ → ℕ) (s : ℕ → ℤ) : Type 0 where
  pub part : ℕ → ℕ → ℤ
  pub represents : (j : ℕ) → j < 2 → WordsRepresent n moduli (word j) (part j)
  pub relation : IsPublicKeyOf n (product moduli) error (part 0) (part 1) s

-- The words of a switching key, by digit, part, row and place, with a row for each data modulus and one for P: they are the
-- transforms of polynomials with the relation, each row having its root. The degree is 2^log.
pub record WordsAreSwitchKeyOf (log : ℕ) (moduli : List ℕ) (P : ℕ) (roots : List ℕ) (error : ℕ) (word : ℕ → ℕ → ℕ → ℕ → ℕ) (source s : ℕ → ℤ) : Type 0 where
  pub part : ℕ → ℕ → ℕ → ℤ
  pub transforms : (i j r k : ℕ) → i < length moduli → j < 2 → r < length moduli + 1 → k < 2 ^ log
      → word i j r k ≡ transform_entry (slice_index (moduli ++ P ∷ []) r) log (slice_index roots r) (part j i) k
  pub relation : IsSwitchKeyOf (2 ^ log) moduli P error (part 0) (part 1) source s

-- the words of a switching key whose words are listed: for each digit the rows of its two parts, each of n words
abbrev pub stored_key_word : ℕ → ℕ → List ℕ → ℕ → ℕ → ℕ → ℕ → ℕ
stored_key_word n rows words i j r k = slice_index words (((i * 2 + j) * rows + r) * n + k)

-- digit i of c: its residues modulo modulus i as whole numbers
abbrev pub gadget_digit : List ℕ → (ℕ → ℤ) → ℕ → ℕ → ℤ
gadget_digit moduli c i k = pos (residue (slice_index moduli i) (c k))

-- the sum of the digits of c, each times the polynomial of its number
abbrev pub digit_sum : ℕ → List ℕ → (ℕ → ℤ) → (ℕ → ℕ → ℤ) → ℕ → ℤ
digit_sum n moduli c key k = sum_below (length moduli) (λ i. ring_product n (gadget_digit moduli c i) (key i) k)

-- x less its centred residue modulo P, divided by P: the whole number nearest to x / P
abbrev pub dropped_quotient : ℕ → ℤ → ℤ
dropped_quotient P x = floor_quotient P (x -ℤ centred_residue P x)

-- a part of the pair that switching c gives: this sum divided by P
abbrev pub switched_part : ℕ → List ℕ → ℕ → (ℕ → ℤ) → (ℕ → ℕ → ℤ) → ℕ → ℤ
switched_part n moduli P c key k = dropped_quotient P (digit_sum n moduli c key k)

-- the pair y0, y1 stands for c*source under s, up to `bound` modulo q
abbrev pub StandsForProduct : ℕ → ℕ → ℕ → (ℕ → ℤ) → (ℕ → ℤ) → (ℕ → ℤ) → (ℕ → ℤ) → (ℕ → ℤ) → Type 0
StandsForProduct n q bound y0 y1 c source s = AllWithin n bound (λ k. centred_residue q (y0 k +ℤ ring_product n y1 s k -ℤ ring_product n c source k))
