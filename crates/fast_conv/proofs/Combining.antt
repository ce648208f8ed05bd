-- What the sums of a converter are modulo the modulus of their row.
use Rattle.std.proofs.Common.{◌≡◌, ℕ, refl, ◌<◌, List, length, slice_index, arith, sym, ap, ◌∙◌, ℤ, pos, ◌+ℤ◌, ◌*ℤ◌}
use Rattle.ring_law.specs.Sums.{sum_below}
use Rattle.ring_law.specs.Residues.{Congruent}
use Rattle.ring_law.specs.Moduli.{fast_conversion, product_of_others}
use Rattle.ring_law.proofs.Congruence.{Congruent-add, Congruent-equal, Congruent-mul, Congruent-refl, Congruent-sum_below, Congruent-trans}
use Rattle.ring_law.proofs.Residues.{Congruent-from_residues}
use Rattle.ring_law.proofs.RingSolver.{identity3, identity6, ◌⊕◌, ◌⊗◌}
use Rattle.ring_law.proofs.Sums.{sum_below_ext, sum_below_scale}
use Rattle.fast_conv.specs.Rows.{IsOutputOf, Output, combination}

-- only the words that have a factor count
pub combination_ext : (row : Output) (word other : ℕ → ℕ) (last : ℕ) → ((i : ℕ) → i < length row.factors → word i ≡ other i) → combination row word last ≡ combination row other last
unfolding combination
combination_ext row word other last same =
    ap (λ z. z +ℤ pos last *ℤ pos row.last_factor +ℤ pos row.added)
    (sum_below_ext (length row.factors) (λ i. pos (word i) *ℤ pos (slice_index row.factors i)) (λ i. pos (other i) *ℤ pos (slice_index row.factors i))
    (λ i l. ap (λ w. pos w *ℤ pos (slice_index row.factors i)) (same i l)))

-- the divisor times the sum of an output is that of its parts
pub combination_congruent : (qs : List ℕ) (divisor : ℕ) (sign by_last added : ℤ) (row : Output) (word : ℕ → ℕ) (last : ℕ)
    → IsOutputOf qs divisor sign by_last added row
    → Congruent row.modulus (pos divisor *ℤ combination row word last) (sign *ℤ fast_conversion qs word +ℤ pos last *ℤ by_last +ℤ added)
unfolding combination fast_conversion
combination_congruent qs divisor sign by_last added row word last is =
    Congruent-trans m (Congruent-equal m (identity6 (λ d s w f a z. d ⊗ (s ⊕ w ⊗ f ⊕ a)) (λ d s w f a z. d ⊗ s ⊕ w ⊗ (d ⊗ f) ⊕ d ⊗ a) refl
    (pos divisor) (sum_below (length row.factors) (λ i. pos (word i) *ℤ pos (slice_index row.factors i))) (pos last) (pos row.last_factor) (pos row.added) (pos 0)))
    (Congruent-add m (Congruent-add m sums
    (Congruent-mul m (Congruent-refl m (pos last)) (Congruent-from_residues m (pos divisor *ℤ pos row.last_factor) by_last positive is.last_factor)))
    (Congruent-from_residues m (pos divisor *ℤ pos row.added) added positive is.added))
  where
    m : ℕ
    m = row.modulus

    positive : 0 < m
    positive = let three = is.modulus.from_three in omega arith

    sums : Congruent m (pos divisor *ℤ sum_below (length row.factors) (λ i. pos (word i) *ℤ pos (slice_index row.factors i)))
        (sign *ℤ sum_below (length qs) (λ i. pos (word i) *ℤ pos (product_of_others qs i)))
    sums =
        Congruent-trans m (Congruent-equal m (ap (λ n. pos divisor *ℤ sum_below n (λ i. pos (word i) *ℤ pos (slice_index row.factors i))) is.count
        ∙ sym (sum_below_scale (length qs) (pos divisor) (λ i. pos (word i) *ℤ pos (slice_index row.factors i)))))
        (Congruent-trans m (Congruent-sum_below m (length qs) (λ i. pos divisor *ℤ (pos (word i) *ℤ pos (slice_index row.factors i))) (λ i. sign *ℤ (pos (word i) *ℤ pos (product_of_others qs i)))
        (λ i l. Congruent-trans m (Congruent-equal m (identity3 (λ d w f. d ⊗ (w ⊗ f)) (λ d w f. w ⊗ (d ⊗ f)) refl (pos divisor) (pos (word i)) (pos (slice_index row.factors i))))
        (Congruent-trans m (Congruent-mul m (Congruent-refl m (pos (word i))) (Congruent-from_residues m (pos divisor *ℤ pos (slice_index row.factors i)) (sign *ℤ pos (product_of_others qs i)) positive (is.factors i l)))
        (Congruent-equal m (identity3 (λ w s o. w ⊗ (s ⊗ o)) (λ w s o. s ⊗ (w ⊗ o)) refl (pos (word i)) sign (pos (product_of_others qs i)))))))
        (Congruent-equal m (sum_below_scale (length qs) sign (λ i. pos (word i) *ℤ pos (product_of_others qs i)))))
