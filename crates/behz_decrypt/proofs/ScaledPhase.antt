-- The phase times t and gamma, modulo each data modulus.
use Rattle.std.proofs.Common.{◌≡◌, ℕ, ◌*◌, ◌%◌, ◌<◌, ℤ, pos, ◌*ℤ◌, refl, ap, ◌∙◌, List, length, slice_index}
use Rattle.ring_law.specs.Residues.{residue}
use Rattle.ring_law.specs.Rows.{Represents}
use Rattle.ring_law.proofs.Congruence.{Congruent-equal, Congruent-mul, Congruent-refl, Congruent-trans}
use Rattle.ring_law.proofs.Residues.{Congruent-mod, residue_equal}
use Rattle.ring_law.proofs.RingSolver.{identity3, ◌⊗◌}
use Rattle.rns_poly.specs.Rows.{EachRepresents, multiple}

scaled_word : (q g t factor : ℕ) (x : ℤ) → 0 < q → factor ≡ g * t % q → residue q (pos factor *ℤ x) ≡ residue q (pos g *ℤ (pos t *ℤ x))
scaled_word q g t factor x positive factor_is = residue_equal q (pos factor *ℤ x) (pos g *ℤ (pos t *ℤ x)) positive
    (Congruent-trans q (Congruent-mul q (Congruent-trans q (Congruent-equal q (ap pos factor_is)) (Congruent-mod q (g * t) positive)) (Congruent-refl q x))
    (Congruent-equal q (identity3 (λ g t x. (g ⊗ t) ⊗ x) (λ g t x. g ⊗ (t ⊗ x)) refl (pos g) (pos t) x)))

pub phase_scaled : (n : ℕ) (moduli factors : List ℕ) (old new : List (List ℕ)) (g t : ℕ) (x : ℕ → ℤ)
    → ((i : ℕ) → i < length moduli → 0 < slice_index moduli i) → ((i : ℕ) → i < length moduli → slice_index factors i ≡ g * t % slice_index moduli i)
    → ((u : ℕ → ℕ → ℤ) → EachRepresents n moduli old u → EachRepresents n moduli new (λ i. multiple (slice_index factors i) (u i)))
    → Represents n moduli old x → Represents n moduli new (λ k. pos g *ℤ (pos t *ℤ x k))
phase_scaled n moduli factors old new g t x positive are scaled represents i k within less =
    scaled (λ i. x) represents i k within less
    ∙ scaled_word (slice_index moduli i) g t (slice_index factors i) (x k) (positive i within) (are i within)
