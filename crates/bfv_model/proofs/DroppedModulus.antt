-- Dropping a modulus P: division of x less its centred residue.
use Rattle.std.proofs.Common.{ap, arith, neg_ℤ, pos, refl, ℕ, ℤ, ◌*ℤ◌, ◌+ℤ◌, ◌-ℤ◌, ◌<◌, ◌∙◌, ◌≡◌}
use Rattle.std.proofs.lemmas.Int.{ints}
use Rattle.ring_law.specs.Residues.{Congruent, centred_residue}
use Rattle.ring_law.proofs.Congruence.{Congruent-add, Congruent-mul, Congruent-quotient, Congruent-refl, Congruent-sym, Congruent-trans}
use Rattle.ring_law.proofs.FloorQuotients.{floor_quotient_exact}
use Rattle.ring_law.proofs.Residues.{Congruent-centred_residue}
use Rattle.ring_law.proofs.RingSolver.{identity2, ◌⊕◌, ◌⊖◌}
use Rattle.bfv_model.specs.Keys.{dropped_quotient}

-- the division is exact
pub dropped_quotient_equation : (P : ℕ) (x : ℤ) → 0 < P → x ≡ dropped_quotient P x *ℤ pos P +ℤ centred_residue P x
dropped_quotient_equation P x h = recombined (dropped_quotient P x *ℤ pos P)
    (floor_quotient_exact P (x -ℤ centred_residue P x) c.quotient h
    (ap (λ z. z -ℤ centred_residue P x) c.equation ∙ identity2 (λ r t. r ⊕ t ⊖ r) (λ r t. t) refl (centred_residue P x)
    (c.quotient *ℤ pos P)))
  where
    c : Congruent P x (centred_residue P x)
    c = Congruent-centred_residue P x h

    recombined : (y : ℤ) → x -ℤ centred_residue P x ≡ y → x ≡ y +ℤ centred_residue P x
    recombined y e = omega (arith, ints)

-- the row modulo p, from the row xp of x: (xp - r) times the inverse of P
pub dropped_quotient_row : (p P : ℕ) (x xp v : ℤ) → 0 < P → Congruent p xp x → Congruent p (v *ℤ pos P) (pos 1)
    → Congruent p (dropped_quotient P x) ((xp -ℤ centred_residue P x) *ℤ v)
dropped_quotient_row p P x xp v pos_P same h =
    Congruent-trans p (Congruent-quotient p P (dropped_quotient P x) (x -ℤ centred_residue P x) v (less (dropped_quotient P x *ℤ pos P) (centred_residue P x) (dropped_quotient_equation P x pos_P)) h)
    (Congruent-mul p (Congruent-add p (Congruent-sym p same) (Congruent-refl p (neg_ℤ (centred_residue P x)))) (Congruent-refl p v))
  where
    less : (y r : ℤ) → x ≡ y +ℤ r → x -ℤ r ≡ y
    less y r e = omega (arith, ints)
