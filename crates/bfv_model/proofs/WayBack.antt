-- The way back from a base of the product B and one more modulus sk.
use Rattle.std.proofs.Common.{ap₂, arith, nat_abs, pos, refl, ℕ, ℤ, ◌*ℤ◌, ◌*◌, ◌+◌, ◌-ℤ◌, ◌<◌, ◌∙◌, ◌≡◌, ◌≤◌}
use Rattle.std.proofs.lemmas.Int.{ints}
use Rattle.ring_law.specs.Moduli.{IsFastConversion}
use Rattle.ring_law.specs.Residues.{floor_quotient, residue}
use Rattle.ring_law.proofs.FloorQuotients.{floor_quotient_equation, floor_quotient_size}
use Rattle.ring_law.proofs.RingSolver.{identity4, ◌⊕◌, ◌⊖◌, ◌⊗◌}

-- the overflow of the conversion of a number that may be negative: X - overflow * B is x
pub signed_overflow : {B k : ℕ} {x X : ℤ} → IsFastConversion B k x X → ℤ
signed_overflow {B} {k} {x} {X} c = pos c.overflow -ℤ floor_quotient B x

pub signed_overflow_equation : {B k : ℕ} {x X : ℤ} (c : IsFastConversion B k x X) → 0 < B → X -ℤ x ≡ signed_overflow c *ℤ pos B
unfolding signed_overflow
signed_overflow_equation {B} {k} {x} {X} c pos_B =
    ap₂ ◌-ℤ◌ c.equation (floor_quotient_equation B x pos_B)
    ∙ identity4 (λ r f q a. (r ⊕ a ⊗ q) ⊖ (r ⊕ f ⊗ q)) (λ r f q a. (a ⊖ f) ⊗ q) refl (pos (residue B x)) (floor_quotient B x) (pos B)
    (pos c.overflow)

-- it is small
pub signed_overflow_lt : {B k : ℕ} {x X : ℤ} (h : ℕ) (c : IsFastConversion B k x X) → 0 < B → nat_abs x ≤ B * h
    → nat_abs (signed_overflow c) < k + h
unfolding signed_overflow
signed_overflow_lt {B} {k} {x} {X} h c pos_B l =
    let a = floor_quotient_size B h x pos_B l in
    let b = c.few in
    omega (arith, ints)
