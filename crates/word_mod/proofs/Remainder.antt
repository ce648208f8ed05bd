-- Remainders, by the multiples of the modulus that two numbers differ by.
use Rattle.std.proofs.Common.{◌≡◌, ℕ, ◌+◌, ◌-◌, ◌*◌, ◌/◌, ◌%◌, ◌<◌, ◌≤◌, sym, ap, ◌∙◌, arith}
use Rattle.std.proofs.lemmas.Nat.{div-mul-add, mod-mul-add}
use Rattle.std.proofs.Math.Nat.{add-mul-mod_self_right, mod-eq_of_lt}

-- numbers that differ by multiples of q have one remainder
pub same_remainder : (q x y k l : ℕ) → x + k * q ≡ y + l * q → x % q ≡ y % q
same_remainder q x y k l e =
    sym (add-mul-mod_self_right x k q) ∙ ap (λ (z : ℕ). z % q) e ∙ add-mul-mod_self_right y l q

-- numbers with one remainder differ by multiples of q
pub multiples_apart : (q x y : ℕ) → x % q ≡ y % q → x + y / q * q ≡ y + x / q * q
multiples_apart q x y e =
    let split_x : x ≡ x / q * q + x % q = omega arith in
    let split_y : y ≡ y / q * q + y % q = omega arith in
    omega arith

-- a multiple that is taken off leaves the remainder
pub without_multiple : (a k q : ℕ) → k * q ≤ a → (a - k * q) % q ≡ a % q
without_multiple a k q le = same_remainder q (a - k * q) a k 0 (omega arith)

-- the remainder by a quotient that leaves less than q
pub remainder_at : (a k q : ℕ) → k * q ≤ a → a - k * q < q → a - k * q ≡ a % q
remainder_at a k q le lt =
    let split : a ≡ k * q + (a - k * q) = omega arith in
    sym (ap (λ (x : ℕ). x % q) split ∙ mod-mul-add k q (a - k * q) lt)

-- the remainder by a quotient that is one too small
pub remainder_past : (a k q : ℕ) → k * q ≤ a → q ≤ a - k * q → a < (k + 2) * q → a - k * q - q ≡ a % q
remainder_past a k q le ge lt =
    let split : a ≡ (k + 1) * q + (a - k * q - q) = omega arith in
    sym (ap (λ (x : ℕ). x % q) split ∙ mod-mul-add (k + 1) q (a - k * q - q) (omega arith))

-- and the quotient itself
pub quotient_at : (a k q : ℕ) → k * q ≤ a → a - k * q < q → k ≡ a / q
quotient_at a k q le lt =
    let split : a ≡ k * q + (a - k * q) = omega arith in
    sym (ap (λ (x : ℕ). x / q) split ∙ div-mul-add k q (a - k * q) lt)

pub quotient_past : (a k q : ℕ) → k * q ≤ a → q ≤ a - k * q → a < (k + 2) * q → k + 1 ≡ a / q
quotient_past a k q le ge lt =
    let split : a ≡ (k + 1) * q + (a - k * q - q) = omega arith in
    sym (ap (λ (x : ℕ). x / q) split ∙ div-mul-add (k + 1) q (a - k * q - q) (omega arith))

-- a difference of words that wrapped is right where it is a word
pub unwrapped : (W x y : ℕ) → 0 < W → y ≤ x → x - y < W → (x % W + (W - y % W)) % W ≡ x - y
unwrapped W x y pos le lt =
    let split_x : x ≡ x / W * W + x % W = omega arith in
    let split_y : y ≡ y / W * W + y % W = omega arith in
    let below : y % W < W = omega arith in
    let same : (x % W + (W - y % W)) % W ≡ (x - y) % W =
    same_remainder W (x % W + (W - y % W)) (x - y) (x / W) (y / W + 1) (omega arith) in
    same ∙ mod-eq_of_lt lt
