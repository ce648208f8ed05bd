-- The drawn digits of a switching key make a key from its source to its secret.
use Rattle.std.proofs.Common.{Bool, List, [], ap, arith, false, if◌then◌else◌, length, ne_eqb, pos, pow_pos, refl, slice_index, subst, sym, true, ℕ, ℤ, ◌*ℤ◌, ◌*◌, ◌++◌, ◌+ℤ◌, ◌+◌, ◌-ℤ◌, ◌<◌, ◌==◌, ◌^◌, ◌∙◌, ◌∷◌, ◌≡◌}
use Rattle.std.proofs.Math.Seq.{get_or-append_seam}
use Rattle.std.proofs.lemmas.Int.{ints}
use Rattle.std.proofs.lemmas.List.{get_or_append_left}
use Rattle.ring_law.specs.Moduli.{AllAboveOne, product}
use Rattle.ring_law.specs.Polynomials.{CongruentPolynomials, ring_product, ring_sum}
use Rattle.ring_law.specs.Residues.{Congruent, residue}
use Rattle.ring_law.specs.Transform.{bit_reversal, evaluation, transform_entry}
use Rattle.ring_law.proofs.Congruence.{Congruent-add, Congruent-equal, Congruent-mul, Congruent-neg, Congruent-refl, Congruent-sym, Congruent-trans}
use Rattle.ring_law.proofs.Evaluation.{evaluation_add, evaluation_product, evaluation_scale}
use Rattle.ring_law.proofs.Moduli.{PairwiseInvertible, product_positive}
use Rattle.ring_law.proofs.Residues.{Congruent-residue, residue_equal}
use Rattle.ring_law.proofs.TransformEntries.{transform_determines}
use Rattle.ring_law.proofs.WholeNumbers.{int_zero_mul}
use Rattle.bfv_model.specs.Drawn.{digit_place, drawn_digit, drawn_digit_mask, drawn_error, greatest_error}
use Rattle.bfv_model.specs.Keys.{IsSwitchKeyOf, IsTransformRoot}
use Rattle.bfv_model.proofs.DrawnSamples.{drawn_error_within}
use Rattle.bfv_model.proofs.KeySwitching.{IsSwitchKeyOf-digit}
use Rattle.bfv_model.proofs.Noise.{mul_positive}

-- ---- one row: from its entries to its coefficients
module _ (log p root : ℕ) (transforms : IsTransformRoot log p root) (k0 k1 source s e : ℕ → ℤ) (mask : ℕ → ℕ) (c : ℤ) where
  n : ℕ
  n = 2 ^ log

  value : (ℕ → ℤ) → ℕ → ℤ
  value a j = evaluation (2 ^ log) root (2 * bit_reversal log j + 1) a

  entry_is : (a : ℕ → ℤ) (j : ℕ) → Congruent p (pos (transform_entry p log root a j)) (value a j)
  unfolding value
  entry_is a j = Congruent-sym p (Congruent-residue p (evaluation (2 ^ log) root (2 * bit_reversal log j + 1) a) transforms.positive)

  -- k0 + k1*s is e + c*source
  pub row_relation : ((j : ℕ) → j < 2 ^ log → mask j ≡ transform_entry p log root k1 j)
      → ((j : ℕ) → j < 2 ^ log
      → residue p (pos (transform_entry p log root e j) -ℤ pos (mask j) *ℤ pos (transform_entry p log root s j) +ℤ c *ℤ pos
      (transform_entry p log root source j)) ≡ transform_entry p log root k0 j) → CongruentPolynomials p (2 ^ log)
      (ring_sum k0 (ring_product (2 ^ log) k1 s)) (ring_sum e (λ z. c *ℤ source z))
  unfolding value
  row_relation masks entries = transform_determines p log root transforms.positive transforms.minus_one transforms.unit
      (ring_sum k0 (ring_product (2 ^ log) k1 s)) (ring_sum e (λ z. c *ℤ source z)) (λ j below.
      residue_equal p (value (ring_sum k0 (ring_product (2 ^ log) k1 s)) j) (value (ring_sum e (λ z. c *ℤ source z)) j) transforms.positive
      (same j below))
    where
      first : (j : ℕ) → j < 2 ^ log → Congruent p (value k0 j) (value e j -ℤ value k1 j *ℤ value s j +ℤ c *ℤ value source j)
      first j below =
          Congruent-trans p (Congruent-sym p (entry_is k0 j))
          (Congruent-trans p (Congruent-equal p (ap pos (sym (entries j below))))
          (Congruent-trans p (Congruent-sym p (Congruent-residue p (pos (transform_entry p log root e j) -ℤ pos (mask j) *ℤ pos (transform_entry p log root s j) +ℤ c *ℤ pos (transform_entry p log root source j)) transforms.positive))
          (Congruent-add p
          (Congruent-add p (entry_is e j)
          (Congruent-neg p (Congruent-mul p (Congruent-trans p (Congruent-equal p (ap pos (masks j below))) (entry_is k1 j)) (entry_is s j))))
          (Congruent-mul p (Congruent-refl p c) (entry_is source j)))))

      same : (j : ℕ) → j < 2 ^ log
          → Congruent p (value (ring_sum k0 (ring_product (2 ^ log) k1 s)) j) (value (ring_sum e (λ z. c *ℤ source z)) j)
      same j below =
          Congruent-trans p (Congruent-equal p (evaluation_add (2 ^ log) root (2 * bit_reversal log j + 1) k0 (ring_product (2 ^ log) k1 s)))
          (Congruent-trans p (Congruent-add p (first j below) (evaluation_product p (2 ^ log) root transforms.minus_one (pow_pos log) (bit_reversal log j) k1 s))
          (Congruent-equal p (cancel (value e j) (value k1 j *ℤ value s j) (c *ℤ value source j)
          ∙ ap (λ y. value e j +ℤ y) (sym (evaluation_scale (2 ^ log) root (2 * bit_reversal log j + 1) c source))
          ∙ sym (evaluation_add (2 ^ log) root (2 * bit_reversal log j + 1) e (λ z. c *ℤ source z)))))
        where
          cancel : (a b d : ℤ) → a -ℤ b +ℤ d +ℤ b ≡ a +ℤ d
          cancel a b d = omega (arith, ints)

chosen_factor : (b : Bool) (x y : ℤ) → (if b then (x *ℤ y) else pos 0) ≡ (if b then x else pos 0) *ℤ y
chosen_factor true x y = refl
chosen_factor false x y = sym (int_zero_mul y)

-- the drawn digits, as whatever polynomials their rows are the transforms of
pub drawn_digit-IsSwitchKeyOf : (log P : ℕ) (moduli roots : List ℕ) (source s : ℕ → ℤ) (words : ℕ → ℕ) (key0 key1 : ℕ → ℕ → ℤ)
    → PairwiseInvertible (P ∷ moduli) → AllAboveOne moduli → 0 < P
    → ((r : ℕ) → r < length moduli + 1 → IsTransformRoot log (slice_index (moduli ++ P ∷ []) r) (slice_index roots r))
    → ((i r k : ℕ) → i < length moduli → r < length moduli + 1 → k < 2 ^ log
    → drawn_digit log moduli P roots source s words i r k ≡ transform_entry (slice_index (moduli ++ P ∷ []) r) log (slice_index roots r)
    (key0 i) k) → ((i r k : ℕ) → i < length moduli → r < length moduli + 1 → k < 2 ^ log → drawn_digit_mask (2 ^ log) moduli P words i r k ≡ transform_entry (slice_index (moduli ++ P ∷ []) r) log (slice_index roots r) (key1 i) k) → IsSwitchKeyOf (2 ^ log) moduli P greatest_error key0 key1 source s
drawn_digit-IsSwitchKeyOf log P moduli roots source s words key0 key1 coprime big pos_P back first second i digit =
    IsSwitchKeyOf-digit (2 ^ log) P greatest_error i moduli (key0 i) (key1 i) source s e coprime big whole
    (drawn_error_within (2 ^ log) words (digit_place (2 ^ log) moduli i))
    (λ j k row place. data_row j k row place)
    (λ k place. special_row k place)
  where
    e : ℕ → ℤ
    e = drawn_error words (digit_place (2 ^ log) moduli i)

    whole : 0 < product moduli * P
    whole = mul_positive (product moduli) P (product_positive moduli big) pos_P

    factor : ℕ → ℤ
    factor r = if r == i then pos P else pos 0

    row : (r : ℕ) → r < length moduli + 1
        → CongruentPolynomials (slice_index (moduli ++ P ∷ []) r) (2 ^ log) (ring_sum (key0 i) (ring_product (2 ^ log) (key1 i) s))
        (ring_sum e (λ z. factor r *ℤ source z))
    row r below = row_relation log (slice_index (moduli ++ P ∷ []) r) (slice_index roots r) (back r below) (key0 i) (key1 i) source s e
        (drawn_digit_mask (2 ^ log) moduli P words i r) (factor r)
        (λ j place. second i r j digit below place)
        (λ j place.
        ap (λ y. residue (slice_index (moduli ++ P ∷ []) r)
        (pos (transform_entry (slice_index (moduli ++ P ∷ []) r) log (slice_index roots r) e j) -ℤ pos
        (drawn_digit_mask (2 ^ log) moduli P words i r j) *ℤ pos
        (transform_entry (slice_index (moduli ++ P ∷ []) r) log (slice_index roots r) s j) +ℤ y))
        (sym (chosen_factor (r == i) (pos P) (pos (transform_entry (slice_index (moduli ++ P ∷ []) r) log (slice_index roots r) source j))))
        ∙ first i r j digit below place)

    data_row : (j k : ℕ) → j < length moduli → k < 2 ^ log → Congruent (slice_index moduli j)
        (key0 i k +ℤ ring_product (2 ^ log) (key1 i) s k) (e k +ℤ (if j == i then (pos P *ℤ source k) else pos 0))
    data_row j k below place =
        subst (λ q. Congruent q (key0 i k +ℤ ring_product (2 ^ log) (key1 i) s k) (e k +ℤ (if j == i then (pos P *ℤ source k) else pos 0)))
        (get_or_append_left moduli (P ∷ []) 0 j below)
        (subst (λ y. Congruent (slice_index (moduli ++ P ∷ []) j) (key0 i k +ℤ ring_product (2 ^ log) (key1 i) s k) (e k +ℤ y))
        (sym (chosen_factor (j == i) (pos P) (source k))) ((row j (omega arith)).at k place))

    special_row : (k : ℕ) → k < 2 ^ log → Congruent P (key0 i k +ℤ ring_product (2 ^ log) (key1 i) s k) (e k)
    special_row k place =
        subst (λ q. Congruent q (key0 i k +ℤ ring_product (2 ^ log) (key1 i) s k) (e k)) (get_or-append_seam moduli P [] 0)
        (subst (λ y. Congruent (slice_index (moduli ++ P ∷ []) (length moduli)) (key0 i k +ℤ ring_product (2 ^ log) (key1 i) s k) y)
        (none (length moduli == i) (ne_eqb (length moduli) i (λ same. absurd (omega arith))))
        ((row (length moduli) (omega arith)).at k place))
      where
        none : (b : Bool) → b ≡ false → e k +ℤ (if b then pos P else pos 0) *ℤ source k ≡ e k
        none true is = absurd (cc)
        none false is = nothing (e k) (source k)
          where
            nothing : (a b : ℤ) → a +ℤ pos 0 *ℤ b ≡ a
            nothing a b = omega (arith, ints)
