-- The sums over the digits of a part, each times the digit of a key: they are the transforms of the sum of the products.
use Rattle.std.proofs.Common.{◌≡◌, ℕ, zero, suc, ◌+◌, ◌*◌, ◌%◌, ◌^◌, ◌<◌, ◌∙◌, sym, ap, ap₂, subst, ℤ, pos, neg_ℤ, ◌*ℤ◌, List, [], length, slice_index_or}
use Rattle.ring_law.specs.Sums.{sum_below}
use Rattle.ring_law.specs.Residues.{Congruent, residue}
use Rattle.ring_law.specs.Polynomials.{ring_product}
use Rattle.ring_law.specs.Rows.{Represents, row_polynomial}
use Rattle.ring_law.specs.Transform.{bit_reversal, evaluation, transform_entry}
use Rattle.ring_law.proofs.Congruence.{Congruent-equal}
use Rattle.ring_law.proofs.Evaluation.{evaluation_scale}
use Rattle.ring_law.proofs.Residues.{residue-add}
use Rattle.ring_law.proofs.Sums.{sum_below_ext}
use Rattle.ring_law.proofs.TransformEntries.{transform_entry-ring_product, transform_entry-ring_sum, transform_entry_congruent}
use Rattle.ring_law.proofs.WholeNumbers.{int_zero_mul}
use Rattle.bfv_model.specs.Keys.{digit_sum, gadget_digit}

module _ (p log root : ℕ) (positive : 0 < p) (minus_one : Congruent p (pos (root ^ (2 ^ log))) (neg_ℤ (pos 1))) (a b : ℕ → ℕ → ℤ) (k : ℕ) where
  -- the product of the entries of the transforms of a_i and b_i
  abbrev term : ℕ → ℤ
  term i = pos (transform_entry p log root (a i) k) *ℤ pos (transform_entry p log root (b i) k)

  -- the entry of the transform of the first products' sum
  abbrev entry : ℕ → ℕ
  entry m = transform_entry p log root (λ z. sum_below m (λ i. ring_product (2 ^ log) (a i) (b i) z)) k

  pub entry_of_products : (m : ℕ) → entry m ≡ residue p (sum_below m term)
  unfolding sum_below
  entry_of_products zero =
      ap (residue p) (evaluation_scale (2 ^ log) root (2 * bit_reversal log k + 1) (pos 0) (λ z. pos 0)
      ∙ int_zero_mul (evaluation (2 ^ log) root (2 * bit_reversal log k + 1) (λ z. pos 0)))
  entry_of_products (suc m) =
      transform_entry-ring_sum p log root (λ z. sum_below m (λ i. ring_product (2 ^ log) (a i) (b i) z)) (ring_product (2 ^ log) (a m) (b m)) k positive
      ∙ ap₂ (λ x y. (x + y) % p) (entry_of_products m) (transform_entry-ring_product p log root positive minus_one (a m) (b m) k)
      ∙ sym (residue-add p (sum_below m term) (term m) positive)

-- the entries of the digits of c are those of the rows that represent it
pub entry_of_digit : (n p log root : ℕ) (moduli : List ℕ) (rows : List (List ℕ)) (c : ℕ → ℤ) (i k : ℕ) → n ≡ 2 ^ log → 0 < p → Represents n moduli rows c → i < length moduli
    → transform_entry p log root (row_polynomial (slice_index_or rows i [])) k ≡ transform_entry p log root (gadget_digit moduli c i) k
entry_of_digit n p log root moduli rows c i k power positive represents within =
    transform_entry_congruent p log root (row_polynomial (slice_index_or rows i [])) (gadget_digit moduli c i) k positive
    (record { at = λ z below. Congruent-equal p (ap pos (represents i z within (subst (λ m. z < m) (sym power) below))) })

-- the sum of the products of the entries of the rows and the words of a key's row is the entry of the digits' sum
pub entry_of_digit_sum : (n p log root : ℕ) (moduli : List ℕ) (rows : List (List ℕ)) (c : ℕ → ℤ) (key : ℕ → ℕ → ℤ) (word : ℕ → ℕ) (k sum : ℕ) → n ≡ 2 ^ log → 0 < p
    → Congruent p (pos (root ^ (2 ^ log))) (neg_ℤ (pos 1)) → Represents n moduli rows c
    → ((i : ℕ) → i < length moduli → word i ≡ transform_entry p log root (key i) k)
    → pos sum ≡ sum_below (length moduli) (λ i. pos (transform_entry p log root (row_polynomial (slice_index_or rows i [])) k) *ℤ pos (word i))
    → sum % p ≡ transform_entry p log root (digit_sum n moduli c key) k
entry_of_digit_sum n p log root moduli rows c key word k sum power positive minus_one represents words is =
    ap (residue p) (is ∙ sum_below_ext (length moduli)
    (λ i. pos (transform_entry p log root (row_polynomial (slice_index_or rows i [])) k) *ℤ pos (word i))
    (term p log root positive minus_one (gadget_digit moduli c) key k)
    (λ i within. ap₂ (λ x y. pos x *ℤ pos y) (entry_of_digit n p log root moduli rows c i k power positive represents within) (words i within)))
    ∙ sym (entry_of_products p log root positive minus_one (gadget_digit moduli c) key k (length moduli))
    ∙ ap (λ m. transform_entry p log root (λ z. sum_below (length moduli) (λ i. ring_product m (gadget_digit moduli c i) (key i) z)) k) (sym power)
