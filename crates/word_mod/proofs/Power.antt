-- A power by squarings: what is left of it after one binary digit of the exponent.
use Rattle.std.proofs.Common.{◌≡◌, ◌<◌, ℕ, suc, ◌+◌, ◌*◌, ◌/◌, ◌%◌, ◌^◌, sym, ap, ◌∙◌, arith, mod-eq_of_lt}
use Rattle.std.proofs.lemmas.Nat.{mul-mod_first, mul-mod_second, pow-mod, pow-add, mul-pow}
use Rattle.std.proofs.Math.Nat.{pow-suc}
use native.Mathlib.Nat.{pow-zero}

-- a power of a square
pub square-pow : (b k : ℕ) → (b * b) ^ k ≡ b ^ (k + k)
square-pow b k = mul-pow b b k ∙ sym (pow-add b k k)

-- the digit 0
pub even_step : (q r b left : ℕ) → left ≡ left / 2 + left / 2 → r * (b * b % q) ^ (left / 2) % q ≡ r * b ^ left % q
even_step q r b left e =
    sym (mul-mod_second r ((b * b % q) ^ (left / 2)) q)
    ∙ ap (λ (x : ℕ). r * x % q) (pow-mod (b * b) (left / 2) q)
    ∙ mul-mod_second r ((b * b) ^ (left / 2)) q
    ∙ ap (λ (x : ℕ). r * x % q) (square-pow b (left / 2))
    ∙ ap (λ (x : ℕ). r * b ^ x % q) (sym e)

-- the digit 1
pub odd_step : (q r b left : ℕ) → left ≡ suc (left / 2 + left / 2) → (r * b % q) * (b * b % q) ^ (left / 2) % q ≡ r * b ^ left % q
odd_step q r b left e =
    mul-mod_first (r * b) ((b * b % q) ^ (left / 2)) q
    ∙ sym (mul-mod_second (r * b) ((b * b % q) ^ (left / 2)) q)
    ∙ ap (λ (x : ℕ). r * b * x % q) (pow-mod (b * b) (left / 2) q)
    ∙ mul-mod_second (r * b) ((b * b) ^ (left / 2)) q
    ∙ ap (λ (x : ℕ). r * b * x % q) (square-pow b (left / 2))
    ∙ ap (λ (x : ℕ). x % q) (let h : r * b * b ^ (left / 2 + left / 2) ≡ r * (b ^ (left / 2 + left / 2) * b) = omega arith in h)
    ∙ ap (λ (x : ℕ). r * x % q) (sym (pow-suc b (left / 2 + left / 2)))
    ∙ ap (λ (x : ℕ). r * b ^ x % q) (sym e)

-- before the first digit
pub first_step : (q a e : ℕ) → (1 % q) * (a % q) ^ e % q ≡ a ^ e % q
first_step q a e =
    mul-mod_first 1 ((a % q) ^ e) q
    ∙ ap (λ (x : ℕ). x % q) (let h : 1 * (a % q) ^ e ≡ (a % q) ^ e = omega arith in h)
    ∙ pow-mod a e q

-- after the last digit
pub last_step : (q r b left result : ℕ) → r < q → left ≡ 0 → r * b ^ left % q ≡ result → r ≡ result
last_step q r b left result below none is =
    sym (mod-eq_of_lt below)
    ∙ ap (λ (x : ℕ). x % q) (let h : r ≡ r * 1 = omega arith in h)
    ∙ ap (λ (x : ℕ). r * x % q) (sym (pow-zero b))
    ∙ ap (λ (x : ℕ). r * b ^ x % q) (sym none)
    ∙ is
