-- Quotients that are found by a product with a rounded reciprocal (Barrett, Shoup).
use Rattle.std.proofs.Common.{◌≡◌, ℕ, ◌+◌, ◌-◌, ◌*◌, ◌/◌, ◌%◌, ◌^◌, ◌<◌, ◌≤◌, sym, ap, ◌∙◌, arith}
use Rattle.std.proofs.lemmas.Nat.{mul-le, div-mul-add}
use Rattle.std.proofs.Math.Nat.{lt_of_mul-lt-mul_right, mul-lt-mul_of_pos_right}
use Rattle.word_mod.specs.Moduli.{shoup_of}
use Rattle.word_mod.specs.Fields.{ratio_of}
use Rattle.word_mod.proofs.Remainder.{same_remainder, unwrapped}

-- a product of two numbers of two digits to the radix b, by the four products of their digits
halves_product : (b ah al rh rl m c : ℕ) → 0 < b → m ≡ al * rh + al * rl / b → c ≡ ah * rl + m % b
    → (ah * b + al) * (rh * b + rl) ≡ (ah * rh + m / b + c / b) * (b * b) + (c % b * b + (al * rl) % b)
halves_product b ah al rh rl m c pos em ec =
    let low : al * rl ≡ al * rl / b * b + (al * rl) % b = omega arith in
    let split_m : m ≡ m / b * b + m % b = omega arith in
    let split_c : c ≡ c / b * b + c % b = omega arith in
    let m_b : m * b ≡ (m / b * b + m % b) * b = ap (λ (x : ℕ). x * b) split_m in
    let c_b : c * b ≡ (c / b * b + c % b) * b = ap (λ (x : ℕ). x * b) split_c in
    let m_is : m * b ≡ (al * rh + al * rl / b) * b = ap (λ (x : ℕ). x * b) em in
    let c_is : c * b ≡ (ah * rl + m % b) * b = ap (λ (x : ℕ). x * b) ec in
    omega arith

-- the upper half of that product
pub high_product_is : (b ah al rh rl m c : ℕ) → 0 < b → m ≡ al * rh + al * rl / b → c ≡ ah * rl + m % b
    → ah * rh + m / b + c / b ≡ (ah * b + al) * (rh * b + rl) / (b * b)
high_product_is b ah al rh rl m c pos em ec =
    let low : c % b * b + (al * rl) % b < b * b =
    (let digit : c % b < b = omega arith in
    let last : (al * rl) % b < b = omega arith in
    let whole : (c % b + 1) * b ≤ b * b = mul-le (c % b + 1) b b b (omega arith) (omega arith) in
    omega arith) in
    sym (
    ap (λ (x : ℕ). x / (b * b)) (halves_product b ah al rh rl m c pos em ec)
    ∙ div-mul-add (ah * rh + m / b + c / b) (b * b) (c % b * b + (al * rl) % b) low
    )

-- r is w * M by q, rounded down, and k is a * r by M, rounded down: so k is a * w by q, or one less
pub quotient_near : (M r q s a w k f : ℕ) → r * q + s ≡ w * M → s ≤ q → 0 < q → k * M + f ≡ a * r → f < M → a < M
    → (k * q ≤ a * w) × (a * w < (k + 2) * q)
quotient_near M r q s a w k f er ls lq ek lf la =
    let scaled : (k * M + f) * q ≡ a * r * q = ap (λ (x : ℕ). x * q) ek in
    let scaled_w : a * (r * q + s) ≡ a * (w * M) = ap (λ (x : ℕ). a * x) er in
    let joined : a * w * M ≡ k * q * M + f * q + a * s = omega arith in
    let f_small : f * q < M * q = mul-lt-mul_of_pos_right lf lq in
    let s_small : a * s ≤ M * q = mul-le a s M q (omega arith) ls in
    let above : k * q * M < (a * w + 1) * M = omega arith in
    let below : a * w * M < (k + 2) * q * M = omega arith in
    let above_one : k * q < a * w + 1 = lt_of_mul-lt-mul_right M above in
    (omega arith, lt_of_mul-lt-mul_right M below)

-- Barrett's quotient of a number of two words
pub barrett_near : (q r a k : ℕ) → 0 < q → a < 2 ^ 128 → r ≡ ratio_of q → k ≡ a * r / 2 ^ 128
    → (k * q ≤ a) × (a < (k + 2) * q)
barrett_near q r a k pos la er ek =
    let split : (2 ^ 128 - 1) / q * q + (2 ^ 128 - 1) % q + 1 ≡ 2 ^ 128 = omega arith in
    let reciprocal : r * q + ((2 ^ 128 - 1) % q + 1) ≡ 1 * 2 ^ 128 = rw er (omega arith) in
    let near = quotient_near (2 ^ 128) r q ((2 ^ 128 - 1) % q + 1) a 1 k (a * r % 2 ^ 128) reciprocal (omega arith) pos (omega arith) (omega arith) la in
    (omega arith, omega arith)

-- Shoup's product in wrapping words: it stands for x * w, and is below 2 * q
pub shoup_product : (q w s x : ℕ) → 0 < q → q < 2 ^ 61 → s ≡ shoup_of q w → x < 2 ^ 64
    → let y : ℕ = (x * w % 2 ^ 64 + (2 ^ 64 - x * s / 2 ^ 64 * q % 2 ^ 64)) % 2 ^ 64 in (y % q ≡ x * w % q) × (y < 2 * q)
shoup_product q w s x pos small es lx =
    let k : ℕ = x * s / 2 ^ 64 in
    let split : s * q + w * 2 ^ 64 % q ≡ w * 2 ^ 64 = rw es (omega arith) in
    let near = quotient_near (2 ^ 64) s q (w * 2 ^ 64 % q) x w k (x * s % 2 ^ 64) split (omega arith) pos (omega arith) (omega arith) lx in
    let le : k * q ≤ x * w = near.0 in
    let lt : x * w < (k + 2) * q = near.1 in
    let word : (x * w % 2 ^ 64 + (2 ^ 64 - k * q % 2 ^ 64)) % 2 ^ 64 ≡ x * w - k * q =
    unwrapped (2 ^ 64) (x * w) (k * q) (omega arith) le (omega arith) in
    let same : (x * w - k * q) % q ≡ x * w % q = same_remainder q (x * w - k * q) (x * w) k 0 (omega arith) in
    (ap (λ (z : ℕ). z % q) word ∙ same, rw word (omega arith))

-- where 2^s is a quarter to a half of q: from the digits g of a product x above 2^s, and R, 2^(64 + s) by q, the quotient k of x by q comes
-- out right or one too small
pub short_near : (P q x R g k e t f : ℕ) → 2 * P ≤ q → q < 4 * P → P ≤ 2 ^ 59 → x < q * q → x ≡ g * P + e → e < P → R * q + t ≡ P * 2 ^ 64 → t < q
    → g * R ≡ k * 2 ^ 64 + f → f < 2 ^ 64 → (g < 2 ^ 64) × (k * q ≤ x) × (x < (k + 2) * q)
short_near P q x R g k e t f half quarter small square split_x lt_e split_R lt_t split_k lt_f =
    let whole : q * q ≤ 4 * P * (4 * P) = mul-le q q (4 * P) (4 * P) (omega arith) (omega arith) in
    let upper : g * P < 16 * P * P = omega arith in
    let lt_g : g < 16 * P = lt_of_mul-lt-mul_right P upper in
    let g_small : g ≤ 2 ^ 63 = omega arith in
    let by_q : g * R * q ≡ (k * 2 ^ 64 + f) * q = ap (λ (z : ℕ). z * q) split_k in
    let by_g : g * (R * q + t) ≡ g * (P * 2 ^ 64) = ap (λ (z : ℕ). g * z) split_R in
    let joined : x * 2 ^ 64 ≡ k * q * 2 ^ 64 + f * q + g * t + e * 2 ^ 64 = omega arith in
    let f_small : f * q < 2 ^ 64 * q = mul-lt-mul_of_pos_right lt_f (omega arith) in
    let t_small : g * t ≤ 2 ^ 63 * q = mul-le g t (2 ^ 63) q g_small (omega arith) in
    let low : k * q * 2 ^ 64 < (x + 1) * 2 ^ 64 = omega arith in
    let high : x * 2 ^ 64 < (k + 2) * q * 2 ^ 64 = omega arith in
    let low_less : k * q < x + 1 = lt_of_mul-lt-mul_right (2 ^ 64) low in
    (omega arith, omega arith, lt_of_mul-lt-mul_right (2 ^ 64) high)
