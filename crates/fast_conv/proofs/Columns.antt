-- Coefficient after coefficient of what a converter writes.
use Rattle.std.proofs.Common.{◌≡◌, ◌≢◌, ℕ, ◌+◌, ◌<◌, ◌≤◌, List, length, slice_index, slice_index_or, arith, ap, ◌∙◌, subst, ⊎_elim, ℤ, pos, ◌+ℤ◌, ◌*ℤ◌, ◌^◌}
use Rattle.std.proofs.lemmas.Bool.{cases_lt}
use Rattle.std.proofs.lemmas.List.{length-map}
use Rattle.ring_law.specs.Residues.{residue}
use Rattle.ring_law.specs.Rows.{word_at}
use Rattle.ring_law.proofs.Sums.{sum_below_ext}
use Rattle.fast_conv.specs.Rows.{AreOutputs, Input, Output, combination, correction_word, input_moduli, input_word, no_output}
use Rattle.fast_conv.proofs.Combining.{combination_ext}
use Rattle.fast_conv.proofs.Conversions.{words_of, written}

-- a sum over the words that were set is that over the words of the coefficient
pub combination_of : (inputs : List Input) (from : List (List ℕ)) (words : List ℕ) (k last : ℕ) (row : Output)
    → ((i : ℕ) → i < length inputs → slice_index words i ≡ input_word inputs i (word_at from i k)) → length row.factors ≡ length (input_moduli inputs)
    → combination row (slice_index words) last ≡ combination row (words_of inputs from k) last
combination_of inputs from words k last row set count =
    combination_ext row (slice_index words) (words_of inputs from k) last
    (λ i l. set i (subst (λ n. i < n) (count ∙ length-map inputs (λ r. r.modulus)) l))

-- one coefficient more
pub columns_more : (inputs : List Input) (outputs : List Output) (ps : List ℕ) (divisor : ℕ) (sign by_last by_all : ℤ) (from before after : List (List ℕ)) (words : List ℕ) (last : ℕ → ℕ → ℕ) (k : ℕ)
    → AreOutputs (input_moduli inputs) ps divisor sign by_last by_all outputs
    → ((i : ℕ) → i < length inputs → slice_index words i ≡ input_word inputs i (word_at from i k))
    → ((j : ℕ) → j < length outputs → word_at after j k ≡ residue (slice_index_or outputs j no_output).modulus (combination (slice_index_or outputs j no_output) (slice_index words) (last j k)))
    → ((j m : ℕ) → m ≢ k → word_at after j m ≡ word_at before j m)
    → ((j m : ℕ) → j < length outputs → m < k → word_at before j m ≡ written inputs outputs from last j m)
    → (j m : ℕ) → j < length outputs → m < k + 1 → word_at after j m ≡ written inputs outputs from last j m
columns_more inputs outputs ps divisor sign by_last by_all from before after words last k are set column rest so_far j m within next = ⊎_elim
    (λ (l : m < k). rest j m (omega arith) ∙ so_far j m within l)
    (λ (l : k ≤ m). let here : k ≡ m = omega arith in subst (λ m. word_at after j m ≡ written inputs outputs from last j m) here
    (column j within ∙ ap (residue (slice_index_or outputs j no_output).modulus)
    (combination_of inputs from words k (last j k) (slice_index_or outputs j no_output) set (are.each j no_output within).count)))
    (cases_lt m k)

-- the correction of a coefficient
pub correction_of : (inputs : List Input) (corrections : List ℕ) (from : List (List ℕ)) (words : List ℕ) (k : ℕ)
    → ((i : ℕ) → i < length inputs → slice_index words i ≡ input_word inputs i (word_at from i k)) → length corrections ≡ length (input_moduli inputs)
    → correction_word corrections (slice_index words) ≡ correction_word corrections (words_of inputs from k)
correction_of inputs corrections from words k set count =
    ap (λ z. residue (2 ^ 32) (z +ℤ pos (2 ^ 31)))
    (sum_below_ext (length corrections) (λ i. pos (slice_index words i) *ℤ pos (slice_index corrections i)) (λ i. pos (words_of inputs from k i) *ℤ pos (slice_index corrections i))
    (λ i l. ap (λ w. pos w *ℤ pos (slice_index corrections i)) (set i (subst (λ n. i < n) (count ∙ length-map inputs (λ r. r.modulus)) l))))
