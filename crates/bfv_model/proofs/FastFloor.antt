-- The fast floor.
use Rattle.std.proofs.Common.{ap₂, pos, refl, ℕ, ℤ, ◌*ℤ◌, ◌-ℤ◌, ◌<◌, ◌∙◌, ◌≡◌}
use Rattle.ring_law.specs.Moduli.{IsFastConversion}
use Rattle.ring_law.specs.Residues.{floor_quotient, residue}
use Rattle.ring_law.proofs.FloorQuotients.{floor_quotient_equation}
use Rattle.ring_law.proofs.RingSolver.{identity4, ◌⊕◌, ◌⊖◌, ◌⊗◌}

-- from z = t * D and its conversion Y: (z - Y) / q is floor(z / q) less the overflow of the conversion
pub fast_floor_equation : {q L : ℕ} {z Y : ℤ} → (c : IsFastConversion q L z Y) → 0 < q
    → z -ℤ Y ≡ (floor_quotient q z -ℤ pos c.overflow) *ℤ pos q
fast_floor_equation {q} {L} {z} {Y} c pos_q =
    ap₂ ◌-ℤ◌ (floor_quotient_equation q z pos_q) c.equation
    ∙ identity4 (λ r f q a. (r ⊕ f ⊗ q) ⊖ (r ⊕ a ⊗ q)) (λ r f q a. (f ⊖ a) ⊗ q) refl (pos (residue q z)) (floor_quotient q z) (pos q)
    (pos c.overflow)
