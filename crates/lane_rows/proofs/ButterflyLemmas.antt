use Rattle.std.proofs.Common.{◌≡◌, ℕ, ◌+◌, ◌-◌, ◌*◌, ◌/◌, ◌%◌, ◌<◌, ap, arith}
use Rattle.lane_rows.specs.Butterflies.{IsButterfly, IsButterflyBack}
use Rattle.lane_rows.proofs.Residues.{same_residue, differ_by_multiples, mod-mod_multiple}

-- the forward pair, from x reduced modulo 2 * q and a word z < 2 * q that stands for w * y
pub IsButterfly-from_lazy : (q w x y r z : ℕ) → r ≡ x % (2 * q) → z % q ≡ (w * y) % q → z < 2 * q
    → IsButterfly q w x y (r + z) (r + 2 * q - z)
IsButterfly-from_lazy q w x y r z is_r congruent below =
    let u : ℕ = x / (2 * q) in
    let parts : x ≡ u * (2 * q) + r = omega arith in
    let apart = differ_by_multiples q z (w * y) congruent in
    record {
      adds = same_residue q (r + z) (x + w * y) (w * y / q + 2 * u) (z / q) (omega arith);
      subtracts = same_residue q (r + 2 * q - z + w * y) x (z / q + 2 * u) (w * y / q + 2) (omega arith);
    }

-- the pair of the way back, from a word z that stands for w * (x + 2 * q - y)
pub IsButterflyBack-from_lazy : (q w x y z : ℕ) → y < 2 * q → z % q ≡ (w * (x + 2 * q - y)) % q
    → IsButterflyBack q w x y ((x + y) % (2 * q)) z
IsButterflyBack-from_lazy q w x y z below congruent =
    let d : ℕ = x + 2 * q - y in
    let apart = differ_by_multiples q z (w * d) congruent in
    let is_d : d + y ≡ x + 2 * q = omega arith in
    let by_w : w * (d + y) ≡ w * (x + 2 * q) = ap (λ (v : ℕ). w * v) is_d in
    record {
      adds = mod-mod_multiple q 2 (x + y);
      subtracts = same_residue q (z + w * y) (w * x) (w * d / q) (z / q + 2 * w) (omega arith);
    }
