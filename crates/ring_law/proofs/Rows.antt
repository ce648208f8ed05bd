-- What rows of residues represent.
use Rattle.std.proofs.Common.{ℕ, ◌<◌, sym, ◌∙◌, ℤ, pos, ◌*ℤ◌, List, length, slice_index}
use Rattle.std.proofs.lemmas.List.Elements.{All-from_get_or}
use Rattle.ring_law.specs.Sums.{sum_below}
use Rattle.ring_law.specs.Residues.{Congruent, residue}
use Rattle.ring_law.specs.Moduli.{AllAboveOne, Selects, product}
use Rattle.ring_law.specs.Polynomials.{CongruentPolynomials}
use Rattle.ring_law.specs.Rows.{WordsRepresent, natural_polynomial}
use Rattle.ring_law.proofs.Congruence.{Congruent-sym, Congruent-trans}
use Rattle.ring_law.proofs.Residues.{Congruent-from_residues, Congruent-residue, residue_equal, residue_lt, residue_unique}
use Rattle.ring_law.proofs.Moduli.{PairwiseInvertible, positive_from_above_one}
use Rattle.ring_law.proofs.ChineseRemainder.{Congruent-each_modulus, chinese_remainder_unique, selected_sum, selector}
use Rattle.ring_law.proofs.Choice.{choose}

-- ---- uniqueness
-- rows represent one polynomial modulo the product of their moduli
pub WordsRepresent-unique : (n : ℕ) (qs : List ℕ) (row : ℕ → ℕ → ℕ) (x y : ℕ → ℤ) → PairwiseInvertible qs → AllAboveOne qs →
    WordsRepresent n qs row x → WordsRepresent n qs row y → CongruentPolynomials (product qs) n x y
WordsRepresent-unique n qs row x y cop big hx hy =
    record {
      at = λ k l. chinese_remainder_unique qs cop (x k) (y k)
          (All-from_get_or (λ q. Congruent q (x k) (y k)) qs 0
          (λ i b. Congruent-from_residues (slice_index qs i) (x k) (y k) (positive_from_above_one (slice_index qs i) (big i b))
          (sym (hx i k b l) ∙ hy i k b l)));
    }

-- and all that are congruent to it
pub WordsRepresent-congruent : (n : ℕ) (qs : List ℕ) (row : ℕ → ℕ → ℕ) (x y : ℕ → ℤ) → AllAboveOne qs → CongruentPolynomials (product qs) n x y →
    WordsRepresent n qs row x → WordsRepresent n qs row y
WordsRepresent-congruent n qs row x y big h hx i k b l =
    hx i k b l ∙ residue_equal (slice_index qs i) (x k) (y k) (positive_from_above_one (slice_index qs i) (big i b))
    (Congruent-each_modulus qs (x k) (y k) (h.at k l) i 0 b)

-- rows of reduced words stand for a polynomial with coefficients from 0 to q - 1
pub represented_polynomial : (n : ℕ) (qs : List ℕ) → PairwiseInvertible qs → AllAboveOne qs → 0 < product qs → (row : ℕ → ℕ → ℕ) →
    ((i k : ℕ) → i < length qs → k < n → row i k < slice_index qs i) →
    (x : ℕ → ℕ) × ((k : ℕ) → x k < product qs) × WordsRepresent n qs row (natural_polynomial x)
represented_polynomial n qs cop big pos_q row red = from (choose (length qs) (λ i g. Selects qs i g) (pos 0) (λ i l. selector qs cop big i l))
  where
    from : (g : ℕ → ℤ) × ((i : ℕ) → i < length qs → Selects qs i (g i)) →
        (x : ℕ → ℕ) × ((k : ℕ) → x k < product qs) × WordsRepresent n qs row (natural_polynomial x)
    from (g, sel) = (
      λ k. residue (product qs) (sum_below (length qs) (λ i. g i *ℤ pos (row i k))),
      λ k. residue_lt (product qs) (sum_below (length qs) (λ i. g i *ℤ pos (row i k))) pos_q,
      λ j k b l. residue_unique (slice_index qs j) (pos (residue (product qs) (sum_below (length qs) (λ i. g i *ℤ pos (row i k))))) (row j k) (red j k b l)
          (Congruent-trans (slice_index qs j) (Congruent-sym (slice_index qs j) (selected_sum qs g (λ i. pos (row i k)) big sel j b))
          (Congruent-each_modulus qs (sum_below (length qs) (λ i. g i *ℤ pos (row i k)))
          (pos (residue (product qs) (sum_below (length qs) (λ i. g i *ℤ pos (row i k)))))
          (Congruent-residue (product qs) (sum_below (length qs) (λ i. g i *ℤ pos (row i k))) pos_q) j 0 b)),
    )
