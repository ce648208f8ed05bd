-- Decryption in the moduli t and gamma, one coefficient.
use Rattle.std.proofs.Common.{ap, arith, mul-le-mul_left, mul-le-mul_right, nat_abs, neg_ℤ, pos, refl, subst, sym, ℕ, ℤ, ◌*ℤ◌, ◌*◌, ◌+ℤ◌, ◌+◌, ◌-ℤ◌, ◌<◌, ◌∙◌, ◌≡◌, ◌≤◌}
use Rattle.std.proofs.Math.Nat.{lt_of_mul-lt-mul_left}
use Rattle.std.proofs.lemmas.Int.{ints, unsigned_abs-mul}
use Rattle.ring_law.specs.Moduli.{IsFastConversion}
use Rattle.ring_law.specs.Residues.{Congruent, HasInverse, centred_residue, floor_quotient, residue}
use Rattle.ring_law.proofs.Congruence.{Congruent-add, Congruent-cancel, Congruent-equal, Congruent-mul, Congruent-multiple, Congruent-neg, Congruent-refl, Congruent-sym, Congruent-trans}
use Rattle.ring_law.proofs.FastConversion.{IsFastConversion-lt}
use Rattle.ring_law.proofs.Residues.{centred_residue_small, residue_unique}
use Rattle.ring_law.proofs.RingSolver.{identity1, identity2, identity3, identity5, identity7, literal, minus, ◌⊕◌, ◌⊖◌, ◌⊗◌}
use Rattle.bfv_model.specs.Holds.{zero_polynomial}
use Rattle.bfv_model.proofs.FastFloor.{fast_floor_equation}

-- the premise of decryption from the limit of the noise
pub room : (q L g W : ℕ) → 4 * W ≤ q → 4 * (L + 1) ≤ g → 2 * g * W + 2 * (L + 1) * q ≤ g * q
room q L g W h k = let a : g * (4 * W) ≤ g * q = mul-le-mul_left g h in let b : 4 *
    (L + 1) * q ≤ g * q = mul-le-mul_right q k in omega arith

module _ (q t g L : ℕ) (x w Y yt yg v : ℤ) (m : ℕ)
    (pos_q : 0 < q) (small_m : m < t)
    (holds : Congruent (t * q) (pos t *ℤ x) (pos q *ℤ pos m +ℤ w))
    (conv : IsFastConversion q L (pos g *ℤ (pos t *ℤ x)) Y)
    (less : 2 * g * nat_abs w + 2 * (L + 1) * q ≤ g * q)
    (inv_t : HasInverse t q) (inv_g : HasInverse g q)
    (row_t : Congruent t (yt *ℤ pos q) (neg_ℤ Y)) (row_g : Congruent g (yg *ℤ pos q) (neg_ℤ Y))
    (unit : Congruent t (v *ℤ pos g) (pos 1)) where
  z : ℤ
  z = pos g *ℤ (pos t *ℤ x)

  e : ℤ
  e = floor_quotient q z -ℤ pos conv.overflow

  e_is : z -ℤ Y ≡ e *ℤ pos q
  unfolding e z
  e_is = fast_floor_equation conv pos_q

  -- the scaled number less g times the plaintext: rounding and noise
  rest : ℤ
  rest = e -ℤ pos g *ℤ (pos m +ℤ pos t *ℤ holds.quotient)

  rest_is : rest *ℤ pos q ≡ pos g *ℤ w -ℤ Y
  unfolding rest z
  rest_is =
      identity5 (λ e g m k q. (e ⊖ g ⊗ m) ⊗ q) (λ e g m k q. e ⊗ q ⊖ g ⊗ (m ⊗ q)) refl e (pos g) (pos m +ℤ pos t *ℤ holds.quotient) (pos 0)
      (pos q)
      ∙ ap (λ u. u -ℤ pos g *ℤ ((pos m +ℤ pos t *ℤ holds.quotient) *ℤ pos q)) (sym e_is ∙ ap (λ u. pos g *ℤ u -ℤ Y) holds.equation)
      ∙ identity7 (λ g q m w k t y. (g ⊗ (q ⊗ m ⊕ w ⊕ k ⊗ (t ⊗ q)) ⊖ y) ⊖ g ⊗ ((m ⊕ t ⊗ k) ⊗ q)) (λ g q m w k t y. g ⊗ w ⊖ y) refl (pos g)
      (pos q) (pos m) w holds.quotient (pos t) Y

  rest_small : 2 * nat_abs rest < g
  rest_small = lt_of_mul-lt-mul_left q
      (bound (nat_abs rest) (nat_abs w) (nat_abs Y)
      (subst (λ a. a ≤ g * nat_abs w + nat_abs Y) (sym (ap nat_abs rest_is) ∙ unsigned_abs-mul rest (pos q))
      (two (pos g *ℤ w) Y (g * nat_abs w) (unsigned_abs-mul (pos g) w))) (IsFastConversion-lt conv pos_q) less)
    where
      two : (a b : ℤ) (n : ℕ) → nat_abs a ≡ n → nat_abs (a -ℤ b) ≤ n + nat_abs b
      two a b n e = omega (arith, ints)

      bound : (r w y : ℕ) → r * q ≤ g * w + y → y < L * q → 2 * g * w + 2 * (L + 1) * q ≤ g * q → q * (2 * r) < q * g
      bound r w y a b c = omega arith

  -- the residue y of -Y / q modulo a divisor of g * t is that of e
  found : (p : ℕ) (y : ℤ) → HasInverse p q → Congruent p (y *ℤ pos q) (neg_ℤ Y) → Congruent p z (pos 0) → Congruent p y e
  found p y inv row zero_polynomial = Congruent-cancel p q y e inv
      (Congruent-trans p row
      (Congruent-trans p (Congruent-equal p (identity2 (λ z y. minus y) (λ z y. z ⊖ y ⊕ minus z) refl z Y ∙ ap (λ u. u +ℤ neg_ℤ z) e_is))
      (Congruent-trans p (Congruent-add p (Congruent-refl p (e *ℤ pos q)) (Congruent-neg p zero_polynomial))
      (Congruent-equal p (identity1 (λ a. a ⊕ minus (literal (pos 0))) (λ a. a) refl (e *ℤ pos q))))))

  error_is : centred_residue g yg ≡ rest
  unfolding rest z
  error_is = centred_residue_small g yg rest
      (Congruent-trans g (found g yg inv_g row_g (Congruent-trans g (Congruent-equal g (identity2 (λ g a. g ⊗ a) (λ g a. a ⊗ g) refl (pos g) (pos t *ℤ x))) (Congruent-multiple g (pos t *ℤ x))))
      (Congruent-sym g (record { quotient = neg_ℤ (pos m +ℤ pos t *ℤ holds.quotient); equation = identity3 (λ e g a. e ⊖ g ⊗ a) (λ e g a. e ⊕ minus a ⊗ g) refl e (pos g) (pos m +ℤ pos t *ℤ holds.quotient) })))
      rest_small

  -- so the difference divided by gamma is the plaintext modulo t
  pub decrypted : Congruent t ((yt -ℤ centred_residue g yg) *ℤ v) (pos m)
  unfolding rest z
  decrypted =
      Congruent-trans t (Congruent-equal t (ap (λ d. (yt -ℤ d) *ℤ v) error_is))
      (Congruent-trans t (Congruent-mul t (Congruent-add t (found t yt inv_t row_t (Congruent-trans t (Congruent-equal t (identity3 (λ g t x. g ⊗ (t ⊗ x)) (λ g t x. g ⊗ x ⊗ t) refl (pos g) (pos t) x)) (Congruent-multiple t (pos g *ℤ x)))) (Congruent-refl t (neg_ℤ rest))) (Congruent-refl t v))
      (Congruent-trans t (Congruent-equal t (identity5 (λ e g m k v. (e ⊕ minus (e ⊖ g ⊗ m)) ⊗ v) (λ e g m k v. (v ⊗ g) ⊗ m) refl e (pos g) (pos m +ℤ pos t *ℤ holds.quotient) (pos 0) v))
      (Congruent-trans t (Congruent-mul t unit (Congruent-refl t (pos m +ℤ pos t *ℤ holds.quotient)))
      (record {
        quotient = holds.quotient;
        equation = identity3 (λ m t k. literal (pos 1) ⊗ (m ⊕ t ⊗ k)) (λ m t k. m ⊕ k ⊗ t) refl (pos m)
            (pos t) holds.quotient;
      }))))

  -- as the word that decryption writes
  pub decrypted_coefficient : residue t ((yt -ℤ centred_residue g yg) *ℤ v) ≡ m
  decrypted_coefficient = sym (residue_unique t ((yt -ℤ centred_residue g yg) *ℤ v) m small_m (Congruent-sym t decrypted))
