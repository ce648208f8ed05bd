-- The Montgomery lift.
use Rattle.std.proofs.Common.{ap, arith, mul-le-mul_left, nat_abs, neg_ℤ, pos, refl, subst, sym, ℕ, ℤ, ◌*ℤ◌, ◌*◌, ◌+ℤ◌, ◌+◌, ◌<◌, ◌∙◌, ◌≡◌, ◌≤◌}
use Rattle.std.proofs.lemmas.Int.{ints, unsigned_abs-mul}
use Rattle.ring_law.specs.Moduli.{IsFastConversion}
use Rattle.ring_law.specs.Residues.{Congruent, HasInverse, floor_quotient}
use Rattle.ring_law.proofs.Congruence.{Congruent-add, Congruent-cancel, Congruent-equal, Congruent-multiple, Congruent-trans}
use Rattle.ring_law.proofs.FastConversion.{IsFastConversion-congruent, IsFastConversion-lt}
use Rattle.ring_law.proofs.FloorQuotients.{floor_quotient_unique}
use Rattle.ring_law.proofs.RingSolver.{identity2, literal, minus, ◌⊕◌, ◌⊗◌}
use Rattle.bfv_model.specs.Conversions.{IsMontgomeryLift}

-- y is what the lift of x gives, from the conversion X of M * x and the correction r
pub record MontgomeryLift (q M L : ℕ) (x X r : ℤ) : Type 0 where
  pub lift : ℤ
  pub exact : X +ℤ pos q *ℤ r ≡ lift *ℤ pos M
  pub congruent : Congruent q lift x
  pub size : M * (2 * nat_abs lift) ≤ q * (M + 2 * L)

-- the lift is exact, congruent to x, and little more than half of q in size
pub montgomery_lift : (q M L : ℕ) (x X r : ℤ) → 0 < q → HasInverse q M → IsFastConversion q L (pos M *ℤ x) X
    → Congruent M (pos q *ℤ r) (neg_ℤ X) → 2 * nat_abs r ≤ M → MontgomeryLift q M L x X r
montgomery_lift q M L x X r pos_q inv c h small = record { lift = h.quotient; exact = exact; congruent = same; size = size }
  where
    exact : X +ℤ pos q *ℤ r ≡ h.quotient *ℤ pos M
    exact = ap (λ z. X +ℤ z) h.equation ∙ identity2 (λ x t. x ⊕ (minus x ⊕ t)) (λ x t. t) refl X (h.quotient *ℤ pos M)

    near : Congruent q X (pos M *ℤ x)
    near = IsFastConversion-congruent c pos_q

    same : Congruent q h.quotient x
    same = Congruent-cancel q M h.quotient x inv
        (Congruent-trans q (Congruent-equal q (sym exact))
        (Congruent-trans q (Congruent-add q near (Congruent-trans q (Congruent-equal q (flip (pos q) r)) (Congruent-multiple q r)))
        (Congruent-equal q (identity2 (λ x m. m ⊗ x ⊕ literal (pos 0)) (λ x m. x ⊗ m) refl x (pos M)))))
      where
        flip : (a b : ℤ) → a *ℤ b ≡ b *ℤ a
        flip a b = omega (arith, ints)

    size : M * (2 * nat_abs h.quotient) ≤ q * (M + 2 * L)
    size = bound (nat_abs h.quotient) (nat_abs X) (nat_abs r)
        (subst (λ z. z ≤ nat_abs X + q * nat_abs r) (ap nat_abs exact ∙ unsigned_abs-mul h.quotient (pos M))
        (two X (pos q *ℤ r) (q * nat_abs r) (unsigned_abs-mul (pos q) r)))
        (IsFastConversion-lt c pos_q) (mul-le-mul_left q small)
      where
        two : (a b : ℤ) (n : ℕ) → nat_abs b ≡ n → nat_abs (a +ℤ b) ≤ nat_abs a + n
        two a b n e = omega (arith, ints)

        bound : (y a r : ℕ) → y * M ≤ a + q * r → a < L * q → q * (2 * r) ≤ q * M → M * (2 * y) ≤ q * (M + 2 * L)
        bound y a r h k l = omega arith

-- ---- all coefficients at once
pub IsMontgomeryLift-from : (n q M L : ℕ) (x X r : ℕ → ℤ) → 0 < q → 0 < M → HasInverse q M
    → ((k : ℕ) → k < n → IsFastConversion q L (pos M *ℤ x k) (X k)) → ((k : ℕ) → k < n → Congruent M (pos q *ℤ r k) (neg_ℤ (X k)))
    → ((k : ℕ) → k < n → 2 * nat_abs (r k) ≤ M) → IsMontgomeryLift n q M L x (λ k. floor_quotient M (X k +ℤ pos q *ℤ r k))
IsMontgomeryLift-from n q M L x X r pos_q pos_M inv c h small = record {
  congruent = record { at = λ k l. subst (λ y. Congruent q y (x k)) (sym (is k l)) (one k l).congruent };
  size = λ k l. subst (λ y. M * (2 * nat_abs y) ≤ q * (M + 2 * L)) (sym (is k l)) (one k l).size;
}
  where
    one : (k : ℕ) → k < n → MontgomeryLift q M L (x k) (X k) (r k)
    one k l = montgomery_lift q M L (x k) (X k) (r k) pos_q inv (c k l) (h k l) (small k l)

    is : (k : ℕ) (l : k < n) → floor_quotient M (X k +ℤ pos q *ℤ r k) ≡ (one k l).lift
    is k l = floor_quotient_unique M (X k +ℤ pos q *ℤ r k) (one k l).lift pos_M (one k l).exact
