-- What the Montgomery lift of rows is.
use Rattle.std.proofs.Common.{◌≡◌, ℕ, refl, ◌+◌, ◌*◌, ◌%◌, ◌^◌, ◌<◌, ◌≤◌, List, length, slice_index, slice_index_or, arith, sym, ap, ◌∙◌, subst, ℤ, pos, neg_ℤ, nat_abs, ◌+ℤ◌, ◌-ℤ◌, ◌*ℤ◌}
use Rattle.std.proofs.lemmas.Int.{ints}
use Rattle.std.proofs.lemmas.List.Elements.{All-from_get_or}
use Rattle.ring_law.specs.Sums.{sum_below}
use Rattle.ring_law.specs.Residues.{Congruent, HasInverse, floor_quotient}
use Rattle.ring_law.specs.Moduli.{AllAboveOne, IsFastConversion, fast_conversion, product, product_of_others}
use Rattle.ring_law.specs.Rows.{Represents, word_at}
use Rattle.ring_law.proofs.Congruence.{Congruent-add, Congruent-equal, Congruent-mul, Congruent-refl, Congruent-sum_below, Congruent-sym, Congruent-trans}
use Rattle.ring_law.proofs.Residues.{Congruent-from_residues, Congruent-residue, residue_lt}
use Rattle.ring_law.proofs.Moduli.{HasInverse-product, product_positive}
use Rattle.ring_law.proofs.Inverses.{HasInverse-swap}
use Rattle.ring_law.proofs.ChineseRemainder.{mul-product_of_others}
use Rattle.ring_law.proofs.FloorQuotients.{floor_quotient_exact}
use Rattle.ring_law.proofs.RingSolver.{identity2, identity4, literal, minus, ◌⊕◌, ◌⊖◌, ◌⊗◌}
use Rattle.ring_law.proofs.Sums.{sum_below_neg, sum_below_scale}
use Rattle.res_base.proofs.Bases.{AllAboveOne-from_IsBase}
use Rattle.bfv_model.specs.Conversions.{IsMontgomeryLift}
use Rattle.bfv_model.proofs.MontgomeryLift.{IsMontgomeryLift-from, MontgomeryLift, montgomery_lift}
use Rattle.fast_conv.specs.Rows.{AreCorrections, AreInputs, AreOutputs, Input, Output, correction_word, no_output}
use Rattle.fast_conv.proofs.Conversions.{combination_is, output_of, output_within, words_convert, words_of, written}
use Rattle.fast_conv.proofs.Words.{HasInverse-power_of_two_odd}

-- a sum of words with their corrections, times the product, is the negative of the conversion modulo 2^32
corrected : (qs words : List ℕ) (word : ℕ → ℕ) → AreCorrections qs words
    → Congruent (2 ^ 32) (pos (product qs) *ℤ sum_below (length qs) (λ i. pos (word i) *ℤ pos (slice_index words i))) (neg_ℤ (fast_conversion qs word))
unfolding fast_conversion
corrected qs words word are =
    Congruent-trans (2 ^ 32) (Congruent-equal (2 ^ 32) (sym (sum_below_scale (length qs) (pos (product qs)) (λ i. pos (word i) *ℤ pos (slice_index words i)))))
    (Congruent-trans (2 ^ 32) (Congruent-sum_below (2 ^ 32) (length qs) (λ i. pos (product qs) *ℤ (pos (word i) *ℤ pos (slice_index words i))) (λ i. neg_ℤ (pos (word i) *ℤ pos (product_of_others qs i))) each)
    (Congruent-equal (2 ^ 32) (sum_below_neg (length qs) (λ i. pos (word i) *ℤ pos (product_of_others qs i)))))
  where
    none : (c q : ℕ) → (c * q + 1) % 2 ^ 32 ≡ 0 → Congruent (2 ^ 32) (pos (c * q)) (neg_ℤ (pos 1))
    none c q is = less (pos (c * q)) (Congruent-from_residues (2 ^ 32) (pos (c * q + 1)) (pos 0) (omega arith) is)
      where
        less : (a : ℤ) → Congruent (2 ^ 32) (a +ℤ pos 1) (pos 0) → Congruent (2 ^ 32) a (neg_ℤ (pos 1))
        less a h = record { quotient = h.quotient; equation = shifted a (h.quotient *ℤ pos (2 ^ 32)) h.equation }
          where
            shifted : (a t : ℤ) → a +ℤ pos 1 ≡ pos 0 +ℤ t → a ≡ neg_ℤ (pos 1) +ℤ t
            shifted a t e = omega (arith, ints)

    each : (i : ℕ) → i < length qs → Congruent (2 ^ 32) (pos (product qs) *ℤ (pos (word i) *ℤ pos (slice_index words i))) (neg_ℤ (pos (word i) *ℤ pos (product_of_others qs i)))
    each i l =
        Congruent-trans (2 ^ 32) (Congruent-equal (2 ^ 32) (ap (λ q. pos q *ℤ (pos (word i) *ℤ pos (slice_index words i))) (sym (mul-product_of_others qs i l))
        ∙ identity4 (λ q o y c. (q ⊗ o) ⊗ (y ⊗ c)) (λ q o y c. (y ⊗ o) ⊗ (c ⊗ q)) refl (pos (slice_index qs i)) (pos (product_of_others qs i)) (pos (word i)) (pos (slice_index words i))))
        (Congruent-trans (2 ^ 32) (Congruent-mul (2 ^ 32) (Congruent-refl (2 ^ 32) (pos (word i) *ℤ pos (product_of_others qs i))) (none (slice_index words i) (slice_index qs i) (are.each i l)))
        (Congruent-equal (2 ^ 32) (identity2 (λ y o. (y ⊗ o) ⊗ minus (literal (pos 1))) (λ y o. minus (y ⊗ o)) refl (pos (word i)) (pos (product_of_others qs i)))))

-- the correction, centred
abbrev correction : List ℕ → (ℕ → ℕ) → ℤ
correction words word = pos (correction_word words word) -ℤ pos (2 ^ 31)

correction_congruent : (qs words : List ℕ) (word : ℕ → ℕ) → AreCorrections qs words → Congruent (2 ^ 32) (pos (product qs) *ℤ correction words word) (neg_ℤ (fast_conversion qs word))
correction_congruent qs words word are =
    Congruent-trans (2 ^ 32) (Congruent-mul (2 ^ 32) (Congruent-refl (2 ^ 32) (pos (product qs)))
    (Congruent-trans (2 ^ 32) (Congruent-add (2 ^ 32) (Congruent-sym (2 ^ 32) (Congruent-residue (2 ^ 32) (sum (length words) +ℤ pos (2 ^ 31)) (omega arith))) (Congruent-refl (2 ^ 32) (neg_ℤ (pos (2 ^ 31)))))
    (Congruent-equal (2 ^ 32) (identity2 (λ s h. s ⊕ h ⊕ minus h) (λ s h. s) refl (sum (length words)) (pos (2 ^ 31)) ∙ ap sum are.count))))
    (corrected qs words word are)
  where
    sum : ℕ → ℤ
    sum n = sum_below n (λ i. pos (word i) *ℤ pos (slice_index words i))

correction_small : (words : List ℕ) (word : ℕ → ℕ) → 2 * nat_abs (correction words word) ≤ 2 ^ 32
correction_small words word = small (correction_word words word) (residue_lt (2 ^ 32) (sum_below (length words) (λ i. pos (word i) *ℤ pos (slice_index words i)) +ℤ pos (2 ^ 31)) (omega arith))
  where
    small : (s : ℕ) → s < 2 ^ 32 → 2 * nat_abs (pos s -ℤ pos (2 ^ 31)) ≤ 2 ^ 32
    small s l = omega (arith, ints)

pub rows_lift : (n : ℕ) (qs ps : List ℕ) (inputs : List Input) (corrections : List ℕ) (outputs : List Output) (from to : List (List ℕ))
    → AreInputs qs (2 ^ 32) inputs → AreCorrections qs corrections
    → AreOutputs qs ps (2 ^ 32) (pos 1) (pos (product qs)) (neg_ℤ (pos (2 ^ 31) *ℤ pos (product qs))) outputs
    → ((j k : ℕ) → j < length outputs → k < n → word_at to j k ≡ written inputs outputs from (λ j k. correction_word corrections (words_of inputs from k)) j k)
    → (x : ℕ → ℤ) → Represents n qs from x → (y : ℕ → ℤ) × IsMontgomeryLift n (product qs) (2 ^ 32) (length qs) x y × Represents n ps to y
rows_lift n qs ps inputs corrections outputs from to read correct are words x represents = (
  λ k. floor_quotient (2 ^ 32) (X k +ℤ pos (product qs) *ℤ r k),
  IsMontgomeryLift-from n (product qs) (2 ^ 32) (length qs) x X r positive (omega arith) unit converts (λ k l. correction_congruent qs corrections (words_of inputs from k) correct) (λ k l. correction_small corrections (words_of inputs from k)),
  λ j k within l. words j k (output_within ps outputs are.moduli j within) l
      ∙ combination_is qs ps (2 ^ 32) (pos 1) (pos (product qs)) (neg_ℤ (pos (2 ^ 31) *ℤ pos (product qs))) outputs are j within (words_of inputs from k)
      (correction_word corrections (words_of inputs from k)) (floor_quotient (2 ^ 32) (X k +ℤ pos (product qs) *ℤ r k)) (power_unit j within) (Congruent-equal (slice_index ps j) (stands k l)),
)
  where
    X : ℕ → ℤ
    X k = fast_conversion qs (words_of inputs from k)

    r : ℕ → ℤ
    r k = correction corrections (words_of inputs from k)

    big : AllAboveOne qs
    big = AllAboveOne-from_IsBase qs read.base

    positive : 0 < product qs
    positive = product_positive qs big

    unit : HasInverse (product qs) (2 ^ 32)
    unit = HasInverse-swap (2 ^ 32) (product qs) (HasInverse-product (2 ^ 32) qs (All-from_get_or (λ q. HasInverse (2 ^ 32) q) qs 0 (λ i l. HasInverse-power_of_two_odd (slice_index qs i) 32 (read.base.each i 0 l).odd)))

    power_unit : (j : ℕ) → j < length ps → HasInverse (slice_index ps j) (2 ^ 32)
    power_unit j within =
        let of = output_of qs ps (2 ^ 32) (pos 1) (pos (product qs)) (neg_ℤ (pos (2 ^ 31) *ℤ pos (product qs))) outputs are j within in
        subst (λ p. HasInverse p (2 ^ 32)) of.1 (HasInverse-swap (2 ^ 32) (slice_index_or outputs j no_output).modulus (HasInverse-power_of_two_odd (slice_index_or outputs j no_output).modulus 32 of.0.modulus.odd))

    converts : (k : ℕ) → k < n → IsFastConversion (product qs) (length qs) (pos (2 ^ 32) *ℤ x k) (X k)
    converts k l = words_convert qs (2 ^ 32) inputs from k (x k) read (λ i within. represents i k within l)

    stands : (k : ℕ) → k < n → pos 1 *ℤ X k +ℤ pos (correction_word corrections (words_of inputs from k)) *ℤ pos (product qs) +ℤ neg_ℤ (pos (2 ^ 31) *ℤ pos (product qs))
        ≡ pos (2 ^ 32) *ℤ floor_quotient (2 ^ 32) (X k +ℤ pos (product qs) *ℤ r k)
    stands k l =
        identity4 (λ x s q h. literal (pos 1) ⊗ x ⊕ s ⊗ q ⊕ minus (h ⊗ q)) (λ x s q h. x ⊕ q ⊗ (s ⊖ h)) refl (X k) (pos (correction_word corrections (words_of inputs from k))) (pos (product qs)) (pos (2 ^ 31))
        ∙ floor_quotient_exact (2 ^ 32) (X k +ℤ pos (product qs) *ℤ r k) lift.lift (omega arith) lift.exact
        ∙ flip (floor_quotient (2 ^ 32) (X k +ℤ pos (product qs) *ℤ r k)) (pos (2 ^ 32))
      where
        lift : MontgomeryLift (product qs) (2 ^ 32) (length qs) (x k) (X k) (r k)
        lift = montgomery_lift (product qs) (2 ^ 32) (length qs) (x k) (X k) (r k) positive unit (converts k l) (correction_congruent qs corrections (words_of inputs from k) correct) (correction_small corrections (words_of inputs from k))

        flip : (a b : ℤ) → a *ℤ b ≡ b *ℤ a
        flip a b = omega (arith, ints)
