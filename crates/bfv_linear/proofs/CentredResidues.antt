-- Residues of numbers modulo t that are taken nearest to zero.
use Rattle.std.proofs.Common.{◌≡◌, ℕ, ◌-◌, ◌/◌, ◌%◌, ◌<◌, ◌≤◌, ◌∙◌, arith, refl, sym, ap, ℤ, pos, neg_ℤ, ◌*ℤ◌}
use Rattle.std.proofs.lemmas.Int.{ints}
use Rattle.ring_law.specs.Residues.{centred_residue, residue}
use Rattle.ring_law.proofs.Congruence.{Congruent-equal, Congruent-mul, Congruent-refl, Congruent-sym, Congruent-trans}
use Rattle.ring_law.proofs.Residues.{Congruent-residue, centred_residue_small, centred_residue_unique, residue-neg, residue_equal}

lower_half : (t c : ℕ) → c < t → c ≤ t / 2 → centred_residue t (pos c) ≡ pos c
lower_half t c below half = centred_residue_unique t (pos c) (pos c) (omega arith) (Congruent-refl t (pos c)) (omega arith) (λ tie. refl)

upper_half : (t c : ℕ) → c < t → t / 2 < c → centred_residue t (pos c) ≡ neg_ℤ (pos (t - c))
upper_half t c below half = centred_residue_small t (pos c) (neg_ℤ (pos (t - c))) (record { quotient = pos 1; equation = omega (arith, ints) }) (omega (arith, ints))

pub lower_residue : (m t c word : ℕ) → c < t → c ≤ t / 2 → word ≡ c % m → word ≡ residue m (centred_residue t (pos c))
lower_residue m t c word below half is = is ∙ ap (residue m) (sym (lower_half t c below half))

pub upper_residue : (m t c rest word : ℕ) → 0 < m → c < t → t / 2 < c → rest ≡ (t - c) % m → word ≡ (m - rest) % m → word ≡ residue m (centred_residue t (pos c))
upper_residue m t c rest word positive below half rest_is is =
    is ∙ ap (λ (r : ℕ). (m - r) % m) rest_is ∙ sym (residue-neg m (pos (t - c)) positive) ∙ ap (residue m) (sym (upper_half t c below half))

-- a product with the residue of c in place of c
pub residue_of_multiple : (q word : ℕ) (c x : ℤ) → 0 < q → word ≡ residue q c → residue q (pos word *ℤ x) ≡ residue q (c *ℤ x)
residue_of_multiple q word c x positive is =
    residue_equal q (pos word *ℤ x) (c *ℤ x) positive
    (Congruent-mul q (Congruent-trans q (Congruent-equal q (ap pos is)) (Congruent-sym q (Congruent-residue q c positive))) (Congruent-refl q x))
