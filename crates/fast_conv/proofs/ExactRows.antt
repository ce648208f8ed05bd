-- What the way back of rows is.
use Rattle.std.proofs.Common.{◌≡◌, ℕ, refl, ◌+◌, ◌-◌, ◌*◌, ◌/◌, ◌%◌, ◌<◌, ◌≤◌, List, [], ◌∷◌, ◌++◌, length, slice_index, arith, sym, ap, ◌∙◌, subst, ℤ, pos, neg_ℤ, nat_abs, ◌+ℤ◌, ◌-ℤ◌, ◌*ℤ◌}
use Rattle.std.specs.Int.{IsGcd}
use Rattle.std.proofs.lemmas.Int.{ints}
use Rattle.std.proofs.Math.ListN.{get_or-append}
use Rattle.std.proofs.Math.Seq.{get_or-append_seam}
use Rattle.std.proofs.lemmas.List.{length-append, length-map}
use Rattle.std.proofs.lemmas.Nat.Gcd.{IsGcd-swap}
use Rattle.ring_law.specs.Residues.{Congruent, HasInverse, residue}
use Rattle.ring_law.specs.Moduli.{IsFastConversion, fast_conversion, product}
use Rattle.ring_law.specs.Polynomials.{AllWithin}
use Rattle.ring_law.specs.Rows.{Represents, word_at}
use Rattle.ring_law.proofs.Congruence.{Congruent-add, Congruent-cancel, Congruent-equal, Congruent-mul, Congruent-refl, Congruent-sym, Congruent-trans}
use Rattle.ring_law.proofs.Residues.{Congruent-residue, residue_unique}
use Rattle.ring_law.proofs.Moduli.{product_positive}
use Rattle.ring_law.proofs.Inverses.{HasInverse-from_IsGcd}
use Rattle.ring_law.proofs.RingSolver.{identity1, identity3, identity4, literal, minus, ◌⊕◌, ◌⊖◌, ◌⊗◌}
use Rattle.res_base.proofs.Bases.{AllAboveOne-from_IsBase}
use Rattle.bfv_model.proofs.WayBack.{signed_overflow, signed_overflow_equation, signed_overflow_lt}
use Rattle.fast_conv.specs.Rows.{AreInputs, AreOutputs, Input, IsOutputOf, IsWayBack, Output, combination}
use Rattle.fast_conv.proofs.Combining.{combination_congruent}
use Rattle.fast_conv.proofs.Conversions.{HasInverse-one, combination_is, output_within, words_convert, words_of, written}

-- the word of the overflow, which is its residue with one half of the modulus added
abbrev pub overflow_word : List Input → Output → List (List ℕ) → ℕ → ℕ
overflow_word inputs overflow from k = residue overflow.modulus (combination overflow (words_of inputs from k) (word_at from (length inputs) k))

-- a word is that of an overflow o, where the product B times the sum is B times o and half
half_added : (sk B : ℕ) (sum o : ℤ) → sk % 2 ≡ 1 → HasInverse sk B → nat_abs o ≤ (sk - 1) / 2 → 0 < sk
    → Congruent sk (pos B *ℤ sum) (pos B *ℤ (o +ℤ pos ((sk - 1) / 2))) → pos (residue sk sum) ≡ o +ℤ pos ((sk - 1) / 2)
half_added sk B sum o odd unit small positive same =
    ap pos (sym (residue_unique sk sum (nat_abs (o +ℤ pos ((sk - 1) / 2))) less near)) ∙ natural
  where
    natural : pos (nat_abs (o +ℤ pos ((sk - 1) / 2))) ≡ o +ℤ pos ((sk - 1) / 2)
    natural = from ((sk - 1) / 2) o small
      where
        from : (h : ℕ) (o : ℤ) → nat_abs o ≤ h → pos (nat_abs (o +ℤ pos h)) ≡ o +ℤ pos h
        from h o l = omega (arith, ints)

    less : nat_abs (o +ℤ pos ((sk - 1) / 2)) < sk
    less = let twice : 2 * ((sk - 1) / 2) < sk = omega arith in from ((sk - 1) / 2) o small twice
      where
        from : (h : ℕ) (o : ℤ) → nat_abs o ≤ h → 2 * h < sk → nat_abs (o +ℤ pos h) < sk
        from h o l t = omega (arith, ints)

    flip : (a b : ℤ) → a *ℤ b ≡ b *ℤ a
    flip a b = omega (arith, ints)

    near : Congruent sk (pos (nat_abs (o +ℤ pos ((sk - 1) / 2)))) sum
    near = Congruent-trans sk (Congruent-equal sk natural)
        (Congruent-cancel sk B (o +ℤ pos ((sk - 1) / 2)) sum unit
        (Congruent-trans sk (Congruent-equal sk (flip (o +ℤ pos ((sk - 1) / 2)) (pos B)))
        (Congruent-trans sk (Congruent-sym sk same) (Congruent-equal sk (flip (pos B) sum)))))

-- the rows of a way back, from its modulus sk
pub IsWayBack-from : (qs ps : List ℕ) (sk : ℕ) (inputs : List Input) (overflow : Output) (outputs : List Output) → overflow.modulus ≡ sk → AreInputs qs 1 inputs
    → IsOutputOf qs (product qs) (pos 1) (neg_ℤ (pos 1)) (pos (product qs) *ℤ pos ((sk - 1) / 2)) overflow
    → AreOutputs qs ps 1 (pos 1) (neg_ℤ (pos (product qs))) (pos (product qs) *ℤ pos ((sk - 1) / 2)) outputs
    → length qs + sk / 4 ≤ (sk - 1) / 2 → IsGcd (product qs) sk 1 → IsWayBack qs ps inputs overflow outputs
IsWayBack-from qs ps sk inputs overflow outputs same read told written room coprime = record {
  read = read;
  told = subst (λ m. IsOutputOf qs (product qs) (pos 1) (neg_ℤ (pos 1)) (pos (product qs) *ℤ pos ((m - 1) / 2)) overflow) (sym same) told;
  written = subst (λ m. AreOutputs qs ps 1 (pos 1) (neg_ℤ (pos (product qs))) (pos (product qs) *ℤ pos ((m - 1) / 2)) outputs) (sym same) written;
  room = subst (λ m. length qs + m / 4 ≤ (m - 1) / 2) (sym same) room;
  coprime = subst (λ m. IsGcd (product qs) m 1) (sym same) coprime;
}

pub rows_back : (n : ℕ) (qs ps : List ℕ) (inputs : List Input) (overflow : Output) (outputs : List Output) (from to : List (List ℕ))
    → IsWayBack qs ps inputs overflow outputs
    → ((j k : ℕ) → j < length outputs → k < n → word_at to j k ≡ written inputs outputs from (λ j k. overflow_word inputs overflow from k) j k)
    → (x : ℕ → ℤ) → AllWithin n (product qs * (overflow.modulus / 4)) x → Represents n (qs ++ overflow.modulus ∷ []) from x → Represents n ps to x
rows_back n qs ps inputs overflow outputs from to way words x within represents j k inside l =
    words j k (output_within ps outputs way.written.moduli j inside) l
    ∙ combination_is qs ps 1 (pos 1) (neg_ℤ (pos B)) (pos B *ℤ pos half) outputs way.written j inside (words_of inputs from k) s (x k) (HasInverse-one (slice_index ps j))
    (Congruent-equal (slice_index ps j) stands)
  where
    B : ℕ
    B = product qs

    sk : ℕ
    sk = overflow.modulus

    half : ℕ
    half = (overflow.modulus - 1) / 2

    X : ℤ
    X = fast_conversion qs (words_of inputs from k)

    s : ℕ
    s = residue overflow.modulus (combination overflow (words_of inputs from k) (word_at from (length inputs) k))

    positive : 0 < product qs
    positive = product_positive qs (AllAboveOne-from_IsBase qs way.read.base)

    sk_positive : 0 < overflow.modulus
    sk_positive = let three = way.told.modulus.from_three in omega arith

    whole : length (qs ++ overflow.modulus ∷ []) ≡ length qs + 1
    whole = length-append qs (overflow.modulus ∷ [])

    residues : (i : ℕ) → i < length qs → word_at from i k ≡ residue (slice_index qs i) (x k)
    residues i here = represents i k (rw whole (omega arith)) l ∙ ap (λ q. residue q (x k)) (get_or-append qs (overflow.modulus ∷ []) 0 i here)

    last : word_at from (length inputs) k ≡ residue overflow.modulus (x k)
    last =
        let count : length inputs ≡ length qs = sym (length-map inputs (λ r. r.modulus)) ∙ ap length way.read.moduli in
        ap (λ i. word_at from i k) count ∙ represents (length qs) k (rw whole (omega arith)) l ∙ ap (λ q. residue q (x k)) (get_or-append_seam qs overflow.modulus [] 0)

    converts : IsFastConversion (product qs) (length qs) (x k) X
    converts = subst (λ z. IsFastConversion (product qs) (length qs) z X) (identity1 (λ x. literal (pos 1) ⊗ x) (λ x. x) refl (x k)) (words_convert qs 1 inputs from k (x k) way.read residues)

    o : ℤ
    o = signed_overflow converts

    gap : X -ℤ x k ≡ o *ℤ pos (product qs)
    gap = signed_overflow_equation converts positive

    small : nat_abs o ≤ (overflow.modulus - 1) / 2
    small = let less = signed_overflow_lt (overflow.modulus / 4) converts positive (within k l) in let room = way.room in omega arith

    sum : Congruent overflow.modulus (pos (product qs) *ℤ combination overflow (words_of inputs from k) (word_at from (length inputs) k)) (pos (product qs) *ℤ (o +ℤ pos ((overflow.modulus - 1) / 2)))
    sum =
        Congruent-trans sk (combination_congruent qs (product qs) (pos 1) (neg_ℤ (pos 1)) (pos B *ℤ pos half) overflow (words_of inputs from k) (word_at from (length inputs) k) way.told)
        (Congruent-trans sk (Congruent-add sk (Congruent-add sk (Congruent-refl sk (pos 1 *ℤ X)) (Congruent-mul sk word (Congruent-refl sk (neg_ℤ (pos 1))))) (Congruent-refl sk (pos B *ℤ pos half)))
        (Congruent-equal sk (identity4 (λ y x b h. literal (pos 1) ⊗ y ⊕ x ⊗ minus (literal (pos 1)) ⊕ b ⊗ h) (λ y x b h. (y ⊖ x) ⊕ b ⊗ h) refl X (x k) (pos B) (pos half)
        ∙ ap (λ z. z +ℤ pos B *ℤ pos half) gap ∙ identity3 (λ o b h. o ⊗ b ⊕ b ⊗ h) (λ o b h. b ⊗ (o ⊕ h)) refl o (pos B) (pos half))))
      where
        word : Congruent overflow.modulus (pos (word_at from (length inputs) k)) (x k)
        word = Congruent-trans sk (Congruent-equal sk (ap pos last)) (Congruent-sym sk (Congruent-residue sk (x k) sk_positive))

    found : pos s ≡ o +ℤ pos half
    found = half_added sk B (combination overflow (words_of inputs from k) (word_at from (length inputs) k)) o way.told.modulus.odd
        (HasInverse-from_IsGcd sk B (IsGcd-swap B sk 1 way.coprime)) small sk_positive sum

    stands : pos 1 *ℤ X +ℤ pos s *ℤ neg_ℤ (pos B) +ℤ pos B *ℤ pos half ≡ pos 1 *ℤ x k
    stands =
        ap (λ z. pos 1 *ℤ X +ℤ z *ℤ neg_ℤ (pos B) +ℤ pos B *ℤ pos half) found
        ∙ identity4 (λ y o b h. literal (pos 1) ⊗ y ⊕ (o ⊕ h) ⊗ minus b ⊕ b ⊗ h) (λ y o b h. y ⊖ o ⊗ b) refl X o (pos B) (pos half)
        ∙ ap (λ z. X -ℤ z) (sym gap) ∙ less X (x k)
      where
        less : (a b : ℤ) → a -ℤ (a -ℤ b) ≡ pos 1 *ℤ b
        less a b = omega (arith, ints)
