-- What the fast floor of rows is.
use Rattle.std.proofs.Common.{◌≡◌, ℕ, refl, ◌<◌, ◌≤◌, List, length, slice_index, EachIndex, arith, sym, ap, ◌∙◌, subst, ℤ, pos, neg_ℤ, ◌+ℤ◌, ◌-ℤ◌, ◌*ℤ◌}
use Rattle.std.specs.Int.{IsGcd}
use Rattle.std.proofs.lemmas.Int.{ints}
use Rattle.std.proofs.lemmas.Nat.Gcd.{IsGcd-swap}
use Rattle.ring_law.specs.Residues.{Congruent, floor_quotient}
use Rattle.ring_law.specs.Moduli.{IsFastConversion, fast_conversion, product}
use Rattle.ring_law.specs.Rows.{Represents, word_at}
use Rattle.ring_law.proofs.Congruence.{Congruent-add, Congruent-equal, Congruent-mul, Congruent-refl, Congruent-sym, Congruent-trans}
use Rattle.ring_law.proofs.Residues.{Congruent-residue}
use Rattle.ring_law.proofs.Moduli.{product_positive}
use Rattle.ring_law.proofs.Inverses.{HasInverse-from_IsGcd}
use Rattle.ring_law.proofs.FloorQuotients.{floor_quotient_unique}
use Rattle.ring_law.proofs.RingSolver.{identity3, literal, minus, ◌⊕◌, ◌⊖◌, ◌⊗◌}
use Rattle.res_base.proofs.Bases.{AllAboveOne-from_IsBase}
use Rattle.bfv_model.proofs.FastFloor.{fast_floor_equation}
use Rattle.fast_conv.specs.Converters.{AreFastFloors}
use Rattle.fast_conv.specs.Rows.{AreInputs, AreOutputs, Input, Output}
use Rattle.fast_conv.proofs.Conversions.{combination_is, output_of, output_within, words_convert, words_of, written}

pub rows_floor : (n : ℕ) (qs ps : List ℕ) (t : ℕ) (inputs : List Input) (outputs : List Output) (from before to : List (List ℕ))
    → AreInputs qs t inputs → AreOutputs qs ps (product qs) (neg_ℤ (pos 1)) (pos t) (pos 0) outputs
    → EachIndex ps (λ j. IsGcd (product qs) (slice_index ps j) 1)
    → ((j k : ℕ) → j < length outputs → k < n → word_at to j k ≡ written inputs outputs from (word_at before) j k)
    → (d : ℕ → ℤ) → Represents n qs from d → Represents n ps before d → (e : ℕ → ℤ) × AreFastFloors n (product qs) t (length qs) d e × Represents n ps to e
rows_floor n qs ps t inputs outputs from before to read are coprime words d represents holds = (
  e,
  λ k l. record { overflow = (converts k l).overflow; few = (converts k l).few; equation = is k l },
  λ j k within l. words j k (output_within ps outputs are.moduli j within) l
      ∙ combination_is qs ps (product qs) (neg_ℤ (pos 1)) (pos t) (pos 0) outputs are j within (words_of inputs from k) (word_at before j k) (e k)
      (HasInverse-from_IsGcd (slice_index ps j) (product qs) (IsGcd-swap (product qs) (slice_index ps j) 1 (coprime j within))) (stands j k within l),
)
  where
    X : ℕ → ℤ
    X k = fast_conversion qs (words_of inputs from k)

    e : ℕ → ℤ
    e k = floor_quotient (product qs) (pos t *ℤ d k -ℤ X k)

    positive : 0 < product qs
    positive = product_positive qs (AllAboveOne-from_IsBase qs read.base)

    converts : (k : ℕ) → k < n → IsFastConversion (product qs) (length qs) (pos t *ℤ d k) (X k)
    converts k l = words_convert qs t inputs from k (d k) read (λ i within. represents i k within l)

    is : (k : ℕ) (l : k < n) → e k ≡ floor_quotient (product qs) (pos t *ℤ d k) -ℤ pos (converts k l).overflow
    is k l = floor_quotient_unique (product qs) (pos t *ℤ d k -ℤ X k) (floor_quotient (product qs) (pos t *ℤ d k) -ℤ pos (converts k l).overflow) positive
        (fast_floor_equation (converts k l) positive)

    stands : (j k : ℕ) → j < length ps → k < n → Congruent (slice_index ps j) (neg_ℤ (pos 1) *ℤ X k +ℤ pos (word_at before j k) *ℤ pos t +ℤ pos 0) (pos (product qs) *ℤ e k)
    stands j k within l =
        let of = output_of qs ps (product qs) (neg_ℤ (pos 1)) (pos t) (pos 0) outputs are j within in
        let p : ℕ = slice_index ps j in
        let three : 3 ≤ p = subst (λ p. 3 ≤ p) of.1 of.0.modulus.from_three in
        let word : Congruent p (pos (word_at before j k)) (d k) =
        Congruent-trans p (Congruent-equal p (ap pos (holds j k within l))) (Congruent-sym p (Congruent-residue p (d k) (omega arith))) in
        Congruent-trans p (Congruent-add p (Congruent-add p (Congruent-refl p (neg_ℤ (pos 1) *ℤ X k)) (Congruent-mul p word (Congruent-refl p (pos t)))) (Congruent-refl p (pos 0)))
        (Congruent-equal p (identity3 (λ x d t. minus (literal (pos 1)) ⊗ x ⊕ d ⊗ t ⊕ literal (pos 0)) (λ x d t. t ⊗ d ⊖ x) refl (X k) (d k) (pos t)
        ∙ fast_floor_equation (converts k l) positive
        ∙ ap (λ y. y *ℤ pos (product qs)) (sym (is k l))
        ∙ flip (e k) (pos (product qs))))
      where
        flip : (a b : ℤ) → a *ℤ b ≡ b *ℤ a
        flip a b = omega (arith, ints)
