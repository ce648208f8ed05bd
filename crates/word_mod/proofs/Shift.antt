-- The power of two that is a quarter to a half of a modulus, and quotients by a ratio of one word.
use Rattle.std.proofs.Common.{◌≡◌, ℕ, zero, suc, ◌+◌, ◌*◌, ◌/◌, ◌%◌, ◌^◌, ◌<◌, ◌≤◌, ap, ◌∙◌, arith, ⊎_elim, div-add-mod', mod-lt}
use Rattle.std.proofs.lemmas.Bool.{cases_lt}
use Rattle.std.proofs.lemmas.Nat.{leading_length, mul-le, pow-add, pow_below, pow_pos}
use Rattle.std.proofs.Math.Nat.{lt_of_mul-lt-mul_right, mod-eq_of_lt, pow-le-pow_right}
use Rattle.std.specs.Int.{leading_zeros, w64}
use Rattle.word_mod.specs.Fields.{shift_of, short_ratio_of}
use Rattle.word_mod.proofs.Reciprocal.{short_near}

pub record IsShift (q shift : ℕ) : Type 0 where
  pub zeros : leading_zeros w64 q ≤ 62
  pub small : shift ≤ 59
  pub half : 2 * 2 ^ shift ≤ q
  pub quarter : q < 4 * 2 ^ shift

pub IsShift-of : (q : ℕ) → 3 ≤ q → q < 2 ^ 61 → IsShift q (shift_of q)
IsShift-of q from below =
    let found = leading_length 64 q (omega arith) in by found.0 found.1 found.2 found.3
  where
    step : (m : ℕ) → 2 ^ suc m ≡ 2 * 2 ^ m
    step m = omega arith

    by : (m : ℕ) → leading_zeros w64 q + m ≡ 64 → q < 2 ^ m → 2 ^ m ≤ 2 * q + 1 → IsShift q (shift_of q)
    by zero digits above under = absurd (omega arith)
    by (suc zero) digits above under = absurd (omega (arith, step 0))
    by (suc (suc m)) digits above under =
        let shift : shift_of q ≡ m = omega (arith, digits) in
        let whole : 2 ^ suc (suc m) ≡ 4 * 2 ^ m = step (suc m) ∙ ap (λ (p : ℕ). 2 * p) (step m) ∙ four (2 ^ m) in
        let few : m ≤ 59 = ⊎_elim (λ (l : 59 < m). absurd (let h : 2 ^ 60 ≤ 2 ^ m = pow-le-pow_right two l in omega arith)) (λ (l : m ≤ 59). l) (cases_lt 59 m) in
        record {
          zeros = omega (arith, digits);
          small = omega (arith, shift, few);
          half = rw shift (omega arith);
          quarter = rw shift (omega arith);
        }
      where
        two : 0 < 2
        two = omega arith

        four : (p : ℕ) → 2 * (2 * p) ≡ 4 * p
        four p = omega arith

-- the power of the short ratio is a number of two words
pub power_fits : (q : ℕ) → 3 ≤ q → q < 2 ^ 61 → 1 * 2 ^ (64 + shift_of q) % 2 ^ 128 ≡ 2 ^ (64 + shift_of q)
power_fits q from below =
    let small = (IsShift-of q from below).small in
    ap (λ (p : ℕ). p % 2 ^ 128) (one (2 ^ (64 + shift_of q))) ∙ mod-eq_of_lt (pow_below (64 + shift_of q) 128 (omega arith))
  where
    one : (p : ℕ) → 1 * p ≡ p
    one p = omega arith

-- and the short ratio a word
pub short_ratio_fits : (q : ℕ) → 3 ≤ q → q < 2 ^ 61 → short_ratio_of q < 2 ^ 64
short_ratio_fits q from below =
    let fits = IsShift-of q from below in
    let power : 2 ^ (64 + shift_of q) ≡ 2 ^ 64 * 2 ^ shift_of q = pow-add 2 64 (shift_of q) in
    let split = div-add-mod' (2 ^ (64 + shift_of q)) q in
    let positive = pow_pos (shift_of q) in
    let half = fits.half in
    let less : short_ratio_of q * q < 2 ^ 64 * q = omega arith in
    lt_of_mul-lt-mul_right q less

-- the quotient of a product of residues by the short ratio
pub short_quotient : (q shift R a b g k : ℕ) → 3 ≤ q → q < 2 ^ 61 → shift ≡ shift_of q → R ≡ short_ratio_of q → a < q → b < q → g ≡ a * b / 2 ^ shift
    → k ≡ g * R / 2 ^ 64 → (g < 2 ^ 64) × (k * q ≤ a * b) × (a * b < (k + 2) * q)
short_quotient q shift R a b g k from below is_shift is_ratio lt_a lt_b is_g is_k =
    let fits = IsShift-of q from below in
    let P : ℕ = 2 ^ shift in
    let half : 2 * P ≤ q = rw is_shift fits.half in
    let quarter : q < 4 * P = rw is_shift fits.quarter in
    let few : shift ≤ 59 = rw is_shift fits.small in
    let small : P ≤ 2 ^ 59 = pow-le-pow_right two few in
    let square : a * b < q * q = (let m = mul-le (a + 1) (b + 1) q q (omega arith) (omega arith) in omega arith) in
    let positive : 0 < P = pow_pos shift in
    let split_x : a * b ≡ g * P + a * b % P = rw is_g (let s = div-add-mod' (a * b) P in omega arith) in
    let power : 2 ^ (64 + shift_of q) ≡ P * 2 ^ 64 = rw is_shift (pow-add 2 64 (shift_of q) ∙ turned (2 ^ 64) (2 ^ shift_of q)) in
    let split_R : R * q + 2 ^ (64 + shift_of q) % q ≡ P * 2 ^ 64 = rw is_ratio (let s = div-add-mod' (2 ^ (64 + shift_of q)) q in omega arith) in
    let split_k : g * R ≡ k * 2 ^ 64 + g * R % 2 ^ 64 = rw is_k (omega arith) in
    short_near P q (a * b) R g k (a * b % P) (2 ^ (64 + shift_of q) % q) (g * R % 2 ^ 64) half quarter small square split_x (mod-lt (a * b) positive) split_R
    (mod-lt (2 ^ (64 + shift_of q)) (omega arith)) split_k (omega arith)
  where
    two : 0 < 2
    two = omega arith

    turned : (a b : ℕ) → a * b ≡ b * a
    turned a b = omega arith
