use Rattle.std.proofs.Common.{◌≡◌, ℕ, ◌+◌, ◌-◌, ◌*◌, ◌/◌, ◌%◌, ◌^◌, ◌<◌, ◌≤◌, ap, ◌∙◌, arith}
use Rattle.std.proofs.lemmas.Nat.{mul-le}
use Rattle.std.proofs.Math.Nat.{lt_of_mul-lt-mul_right, mul-lt-mul_of_pos_right, mod-eq_of_lt}
use Rattle.lane_rows.proofs.Residues.{same_residue}

-- the quotient e of x * w by q that is found from the quotient s of w * M by q is the true one, or one less
estimate : (M s q d w x e f : ℕ) → s * q + d ≡ w * M → d ≤ q → 0 < q → e * M + f ≡ x * s → f < M → x < M
    → (e * q ≤ x * w) × (x * w < (e + 2) * q)
estimate M s q d w x e f is_s le_d pos is_e lt_f lt_x =
    let by_q : (e * M + f) * q ≡ x * s * q = ap (λ (z : ℕ). z * q) is_e in
    let by_x : x * (s * q + d) ≡ x * (w * M) = ap (λ (z : ℕ). x * z) is_s in
    let whole : x * w * M ≡ e * q * M + f * q + x * d = omega arith in
    let small_f : f * q < M * q = mul-lt-mul_of_pos_right lt_f pos in
    let small_d : x * d ≤ M * q = mul-le x d M q (omega arith) le_d in
    let low : e * q * M < (x * w + 1) * M = omega arith in
    let high : x * w * M < (e + 2) * q * M = omega arith in
    let low_less : e * q < x * w + 1 = lt_of_mul-lt-mul_right M low in
    (omega arith, lt_of_mul-lt-mul_right M high)

-- a difference of words that wrapped is the true one where that fits
pub wrapped_difference : (W x y : ℕ) → 0 < W → y ≤ x → x - y < W → (x % W + (W - y % W)) % W ≡ x - y
wrapped_difference W x y pos le lt =
    let parts_x : x ≡ x / W * W + x % W = omega arith in
    let parts_y : y ≡ y / W * W + y % W = omega arith in
    let small_y : y % W < W = omega arith in
    let same : (x % W + (W - y % W)) % W ≡ (x - y) % W =
    same_residue W (x % W + (W - y % W)) (x - y) (x / W) (y / W + 1) (omega arith) in
    same ∙ mod-eq_of_lt lt

-- what a word z is for it to stand for w * x: congruent to it, and below 2 * q
pub record IsLazyProduct (q w x z : ℕ) : Type 0 where
  pub congruent : z % q ≡ (w * x) % q
  pub below : z < 2 * q

-- Shoup's product: the low words of x * w and of the estimated multiple of q are subtracted
pub IsLazyProduct-from_words : (q w s x z : ℕ) → (0 < q) × (q < 2 ^ 61) → s ≡ w * 2 ^ 64 / q → x < 2 ^ 64
    → z ≡ (x * w % 2 ^ 64 + (2 ^ 64 - x * s / 2 ^ 64 * q % 2 ^ 64)) % 2 ^ 64 → IsLazyProduct q w x z
IsLazyProduct-from_words q w s x z modulus is_s lt_x is_z =
    let e : ℕ = x * s / 2 ^ 64 in
    let parts : s * q + w * 2 ^ 64 % q ≡ w * 2 ^ 64 = rw is_s (omega arith) in
    let near = estimate (2 ^ 64) s q (w * 2 ^ 64 % q) w x e (x * s % 2 ^ 64) parts (omega arith) modulus.0 (omega arith) (omega arith) lt_x in
    let low : e * q ≤ x * w = near.0 in
    let high : x * w < (e + 2) * q = near.1 in
    let small : (e + 2) * q < e * q + 2 ^ 64 = omega arith in
    let true_z : z ≡ x * w - e * q = is_z ∙ wrapped_difference (2 ^ 64) (x * w) (e * q) (omega arith) low (omega arith) in
    let same : (x * w - e * q) % q ≡ (w * x) % q = same_residue q (x * w - e * q) (w * x) e 0 (omega arith) in
    record { congruent = ap (λ (y : ℕ). y % q) true_z ∙ same; below = omega arith }
