-- What the words of a converter are, from the numbers that its rows stand for.
use Rattle.std.proofs.Common.{◌≡◌, ℕ, refl, ◌*◌, ◌%◌, ◌<◌, List, length, slice_index, slice_index_or, arith, sym, ap, ◌∙◌, subst, ℤ, pos, ◌+ℤ◌, ◌*ℤ◌}
use Rattle.std.proofs.lemmas.Int.{ints}
use Rattle.std.proofs.lemmas.List.{get_or-map, length-map}
use Rattle.ring_law.specs.Residues.{Congruent, HasInverse, residue}
use Rattle.ring_law.specs.Moduli.{AllAboveOne, IsFastConversion, fast_conversion, product, product_of_others}
use Rattle.ring_law.specs.Rows.{Represents, word_at}
use Rattle.ring_law.proofs.Congruence.{Congruent-cancel, Congruent-equal, Congruent-refl, Congruent-trans}
use Rattle.ring_law.proofs.Residues.{Congruent-from_residues, residue_equal}
use Rattle.ring_law.proofs.Moduli.{PairwiseInvertible-from_coprime, product_positive}
use Rattle.ring_law.proofs.FastConversion.{IsFastConversion-from_words, conversion_words}
use Rattle.ring_law.proofs.RingSolver.{identity1, literal, ◌⊕◌, ◌⊗◌}
use Rattle.res_base.proofs.Bases.{AllAboveOne-from_IsBase}
use Rattle.fast_conv.specs.Converters.{AreFastConversions}
use Rattle.fast_conv.specs.Rows.{AreInputs, AreOutputs, Input, IsOutputOf, Output, combination, input_word, no_input, no_output, output_moduli}
use Rattle.fast_conv.proofs.Combining.{combination_congruent}

-- the words that a converter makes of coefficient k
abbrev pub words_of : List Input → List (List ℕ) → ℕ → ℕ → ℕ
words_of inputs from k i = input_word inputs i (word_at from i k)

-- word k of row j of what it writes, with one word more
abbrev pub written : List Input → List Output → List (List ℕ) → (ℕ → ℕ → ℕ) → ℕ → ℕ → ℕ
written inputs outputs from last j k =
    residue (slice_index_or outputs j no_output).modulus (combination (slice_index_or outputs j no_output) (words_of inputs from k) (last j k))

input_modulus : (qs : List ℕ) (scale : ℕ) (inputs : List Input) → AreInputs qs scale inputs → (i : ℕ) → i < length qs → (slice_index_or inputs i no_input).modulus ≡ slice_index qs i
input_modulus qs scale inputs are i within =
    let inside : i < length inputs = subst (λ n. i < n) (ap length (sym are.moduli) ∙ length-map inputs (λ r. r.modulus)) within in
    sym (get_or-map (λ r. r.modulus) inputs i no_input 0 inside) ∙ ap (λ ms. slice_index ms i) are.moduli

-- the words are those of the fast conversion of `scale` times the number that the rows stand for
pub words_convert : (qs : List ℕ) (scale : ℕ) (inputs : List Input) (from : List (List ℕ)) (k : ℕ) (x : ℤ) → AreInputs qs scale inputs
    → ((i : ℕ) → i < length qs → word_at from i k ≡ residue (slice_index qs i) x)
    → IsFastConversion (product qs) (length qs) (pos scale *ℤ x) (fast_conversion qs (words_of inputs from k))
words_convert qs scale inputs from k x are represents =
    IsFastConversion-from_words qs (PairwiseInvertible-from_coprime qs are.base.coprime) are.base.not_empty (product_positive qs big) (words_of inputs from k) (pos scale *ℤ x)
    (conversion_words qs big (λ i. word_at from i k) (λ i. (slice_index_or inputs i no_input).factor) (words_of inputs from k) x (pos scale *ℤ x) (pos scale) represents factor
    (λ i l. ap (λ m. word_at from i k * (slice_index_or inputs i no_input).factor % m) (input_modulus qs scale inputs are i l)) refl)
  where
    big : AllAboveOne qs
    big = AllAboveOne-from_IsBase qs are.base

    factor : (i : ℕ) → i < length qs → Congruent (slice_index qs i) (pos (slice_index_or inputs i no_input).factor *ℤ pos (product_of_others qs i)) (pos scale)
    factor i l = let above = big i l in
        Congruent-from_residues (slice_index qs i) (pos ((slice_index_or inputs i no_input).factor * product_of_others qs i)) (pos scale) (omega arith) (are.factors i l)

pub output_within : (ps : List ℕ) (outputs : List Output) → output_moduli outputs ≡ ps → (j : ℕ) → j < length ps → j < length outputs
output_within ps outputs moduli j within = subst (λ n. j < n) (ap length (sym moduli) ∙ length-map outputs (λ r. r.modulus)) within

pub output_of : (qs ps : List ℕ) (divisor : ℕ) (sign by_last by_all : ℤ) (outputs : List Output) → AreOutputs qs ps divisor sign by_last by_all outputs
    → (j : ℕ) → j < length ps → (IsOutputOf qs divisor sign by_last by_all (slice_index_or outputs j no_output)) × ((slice_index_or outputs j no_output).modulus ≡ slice_index ps j)
output_of qs ps divisor sign by_last by_all outputs are j within =
    let inside : j < length outputs = output_within ps outputs are.moduli j within in
    (are.each j no_output inside, sym (get_or-map (λ r. r.modulus) outputs j no_output 0 inside) ∙ ap (λ ms. slice_index ms j) are.moduli)

-- a written word is the residue of z, where the sum stands for `divisor` times z
pub combination_is : (qs ps : List ℕ) (divisor : ℕ) (sign by_last by_all : ℤ) (outputs : List Output) → AreOutputs qs ps divisor sign by_last by_all outputs
    → (j : ℕ) → j < length ps → (word : ℕ → ℕ) (last : ℕ) (z : ℤ) → HasInverse (slice_index ps j) divisor
    → Congruent (slice_index ps j) (sign *ℤ fast_conversion qs word +ℤ pos last *ℤ by_last +ℤ by_all) (pos divisor *ℤ z)
    → residue (slice_index_or outputs j no_output).modulus (combination (slice_index_or outputs j no_output) word last) ≡ residue (slice_index ps j) z
combination_is qs ps divisor sign by_last by_all outputs are j within word last z unit stands = from (output_of qs ps divisor sign by_last by_all outputs are j within)
  where
    row : Output
    row = slice_index_or outputs j no_output

    from : (IsOutputOf qs divisor sign by_last by_all row) × (row.modulus ≡ slice_index ps j) → residue row.modulus (combination row word last) ≡ residue (slice_index ps j) z
    from (is, same) =
        let three = is.modulus.from_three in
        residue_equal row.modulus (combination row word last) z (omega arith)
        (Congruent-cancel row.modulus divisor (combination row word last) z (subst (λ p. HasInverse p divisor) (sym same) unit)
        (Congruent-trans row.modulus (Congruent-equal row.modulus (flip (combination row word last) (pos divisor)))
        (Congruent-trans row.modulus (combination_congruent qs divisor sign by_last by_all row word last is)
        (Congruent-trans row.modulus (subst (λ p. Congruent p (sign *ℤ fast_conversion qs word +ℤ pos last *ℤ by_last +ℤ by_all) (pos divisor *ℤ z)) (sym same) stands)
        (Congruent-equal row.modulus (flip (pos divisor) z))))))
        ∙ ap (λ p. residue p z) same
      where
        flip : (a b : ℤ) → a *ℤ b ≡ b *ℤ a
        flip a b = omega (arith, ints)

-- 1 has an inverse
pub HasInverse-one : (p : ℕ) → HasInverse p 1
HasInverse-one p = record { inverse = pos 1; is_one = Congruent-refl p (pos 1) }

-- ---- fast conversion
pub rows_convert : (n : ℕ) (qs ps : List ℕ) (inputs : List Input) (outputs : List Output) (from to : List (List ℕ))
    → AreInputs qs 1 inputs → AreOutputs qs ps 1 (pos 1) (pos 0) (pos 0) outputs
    → ((j k : ℕ) → j < length outputs → k < n → word_at to j k ≡ written inputs outputs from (λ j k. 0) j k)
    → (x : ℕ → ℤ) → Represents n qs from x → (y : ℕ → ℤ) × AreFastConversions n (product qs) (length qs) x y × Represents n ps to y
rows_convert n qs ps inputs outputs from to read are words x represents = (
  λ k. fast_conversion qs (words_of inputs from k),
  λ k l. subst (λ z. IsFastConversion (product qs) (length qs) z (fast_conversion qs (words_of inputs from k)))
      (identity1 (λ x. literal (pos 1) ⊗ x) (λ x. x) refl (x k)) (words_convert qs 1 inputs from k (x k) read (λ i within. represents i k within l)),
  λ j k within l. words j k (output_within ps outputs are.moduli j within) l
      ∙ combination_is qs ps 1 (pos 1) (pos 0) (pos 0) outputs are j within (words_of inputs from k) 0 (fast_conversion qs (words_of inputs from k)) (HasInverse-one (slice_index ps j))
      (Congruent-equal (slice_index ps j) (identity1 (λ y. literal (pos 1) ⊗ y ⊕ literal (pos 0) ⊗ literal (pos 0) ⊕ literal (pos 0)) (λ y. literal (pos 1) ⊗ y) refl (fast_conversion qs (words_of inputs from k)))),
)
