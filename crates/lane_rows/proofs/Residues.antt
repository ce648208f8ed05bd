use Rattle.std.proofs.Common.{◌≡◌, ℕ, ◌+◌, ◌*◌, ◌/◌, ◌%◌, sym, ap, ◌∙◌, arith}
use Rattle.std.proofs.Math.Nat.{add-mul-mod_self_right}

-- numbers that differ by multiples of q have one residue
pub same_residue : (q x y k l : ℕ) → x + k * q ≡ y + l * q → x % q ≡ y % q
same_residue q x y k l e = sym (add-mul-mod_self_right x k q) ∙ ap (λ (z : ℕ). z % q) e ∙ add-mul-mod_self_right y l q

-- numbers with one residue differ by multiples of q
pub differ_by_multiples : (q x y : ℕ) → x % q ≡ y % q → x + y / q * q ≡ y + x / q * q
differ_by_multiples q x y e =
    let parts_x : x ≡ x / q * q + x % q = omega arith in
    let parts_y : y ≡ y / q * q + y % q = omega arith in
    omega arith

-- a residue modulo a multiple of q has the residue modulo q
pub mod-mod_multiple : (q m x : ℕ) → x % (m * q) % q ≡ x % q
mod-mod_multiple q m x =
    let parts : x ≡ x / (m * q) * (m * q) + x % (m * q) = omega arith in
    same_residue q (x % (m * q)) x (x / (m * q) * m) 0 (omega arith)
