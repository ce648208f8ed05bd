-- Euclid's algorithm, with the factors that give its remainders modulo q.
use Rattle.std.proofs.Common.{◌≡◌, ℕ, ◌+◌, ◌-◌, ◌*◌, ◌/◌, ◌%◌, ◌<◌, ap, subst, arith}
use Rattle.std.specs.Int.{IsGcd}
use Rattle.std.proofs.lemmas.Nat.Gcd.{IsGcd-from_mod, IsGcd-from_zero}
use Rattle.word_mod.proofs.Remainder.{same_remainder, multiples_apart}

-- where t0 * a and t1 * a stand for r0 and r1, the next factor stands for the next remainder
pub euclid_step : (q a t0 t1 r0 r1 k r2 t2 : ℕ) → 0 < q → t0 * a % q ≡ r0 % q → t1 * a % q ≡ r1 % q
    → r2 + k * r1 ≡ r0 → t2 ≡ (t0 + (q - k * t1 % q)) % q → t2 * a % q ≡ r2 % q
euclid_step q a t0 t1 r0 r1 k r2 t2 pos e0 e1 er et =
    let m : ℕ = k * t1 % q in
    let u : ℕ = (t0 + (q - m)) / q in
    let v : ℕ = k * t1 / q in
    let apart0 = multiples_apart q (t0 * a) r0 e0 in
    let apart1 = multiples_apart q (t1 * a) r1 e1 in
    let k_apart1 : k * (t1 * a + r1 / q * q) ≡ k * (r1 + t1 * a / q * q) = ap (λ (x : ℕ). k * x) apart1 in
    let m_below : m < q = omega arith in
    let t2_is : t2 + u * q + m ≡ t0 + q = omega arith in
    let t2_a : (t2 + u * q + m) * a ≡ (t0 + q) * a = ap (λ (x : ℕ). x * a) t2_is in
    let m_is : m + v * q ≡ k * t1 = omega arith in
    let m_a : (m + v * q) * a ≡ k * t1 * a = ap (λ (x : ℕ). x * a) m_is in
    same_remainder q (t2 * a) r2 (u * a + k * (t1 * a / q) + r0 / q) (t0 * a / q + a + v * a + k * (r1 / q)) (omega arith)

-- the common divisors stay the same at the start, in each step and at the end
pub divisors_first : (a q r : ℕ) → r ≡ a % q → (g : ℕ) → IsGcd q r g → IsGcd a q g
divisors_first a q r e g h = IsGcd-from_mod a q g (let P : ℕ → Type 0 = λ x. IsGcd q x g in subst P e h)

pub divisors_next : (a q r0 r1 r2 : ℕ) → r2 ≡ r0 % r1 → ((g : ℕ) → IsGcd r0 r1 g → IsGcd a q g) → (g : ℕ) → IsGcd r1 r2 g → IsGcd a q g
divisors_next a q r0 r1 r2 e h g d = h g (IsGcd-from_mod r0 r1 g (let P : ℕ → Type 0 = λ x. IsGcd r1 x g in subst P e d))

pub divisors_last : (a q r0 r1 : ℕ) → r1 ≡ 0 → ((g : ℕ) → IsGcd r0 r1 g → IsGcd a q g) → IsGcd a q r0
divisors_last a q r0 r1 e h = h r0 (IsGcd-from_zero r0 r1 e)
