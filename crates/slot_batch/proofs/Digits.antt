-- Binary digits in reverse.
use Rattle.std.proofs.Common.{◌≡◌, ℕ, zero, suc, ◌+◌, ◌*◌, ◌/◌, ◌%◌, ◌^◌, ◌<◌, ◌≤◌, refl, sym, ap, ap₂, ◌∙◌, arith, mul-le-mul_left}
use Rattle.ring_law.specs.Transform.{bit_reversal}

-- of the digits of j those of `rest` are still to come, and the ones before them stand reversed in r; n and `span` are powers of two
pub record IsReversing (n j r rest span k : ℕ) : Type 0 where
  pub left : ℕ
  pub is_power : span ≡ 2 ^ left
  pub is_sum : bit_reversal k j ≡ r * span + bit_reversal left rest

pub reversing_from : (n j k : ℕ) → n ≡ 2 ^ k → IsReversing n j 0 j n k
reversing_from n j k e = record { left = k; is_power = e; is_sum = omega arith }

pub reversing_next : (n j r rest span k : ℕ) → 1 < span → IsReversing n j r rest span k
    → IsReversing n j (2 * r + rest % 2) (rest / 2) (span / 2) k
unfolding bit_reversal
reversing_next n j r rest span k more h = by h.left h.is_power h.is_sum
  where
    by : (c : ℕ) → span ≡ 2 ^ c → bit_reversal k j ≡ r * span + bit_reversal c rest
        → IsReversing n j (2 * r + rest % 2) (rest / 2) (span / 2) k
    by zero e s = absurd (omega arith)
    by (suc c) e s =
        let half : span / 2 ≡ 2 ^ c = omega arith in
        let whole : span ≡ 2 * (span / 2) = omega arith in
        record {
          left = c;
          is_power = half;
          is_sum = s ∙ ap₂ (λ a b. r * a + (rest % 2 * b + bit_reversal c (rest / 2))) whole (sym half)
              ∙ line (rest % 2) (span / 2) (bit_reversal c (rest / 2));
        }
      where
        line : (b p y : ℕ) → r * (2 * p) + (b * p + y) ≡ (2 * r + b) * p + y
        line b p y = omega arith

pub reversing_end : (n j r rest span k : ℕ) → 0 < span → span ≤ 1 → IsReversing n j r rest span k → r ≡ bit_reversal k j
unfolding bit_reversal
reversing_end n j r rest span k some last h = by h.left h.is_power h.is_sum
  where
    one : span ≡ 1
    one = omega arith

    by : (c : ℕ) → span ≡ 2 ^ c → bit_reversal k j ≡ r * span + bit_reversal c rest → r ≡ bit_reversal k j
    by zero e s = sym (s ∙ ap (λ a. r * a + 0) one ∙ alone r)
      where
        alone : (r : ℕ) → r * 1 + 0 ≡ r
        alone r = omega arith
    by (suc c) e s = absurd (omega arith)

-- a number with one digit more is still within n
pub reversed_within : (n r b span : ℕ) → b ≤ 1 → (r + 1) * span ≤ n → (2 * r + b + 1) * (span / 2) ≤ n
reversed_within n r b span small room =
    let halves : 2 * (span / 2) ≤ span = omega arith in
    let up : (r + 1) * (2 * (span / 2)) ≤ (r + 1) * span = mul-le-mul_left (r + 1) halves in
    more b (span / 2) small (omega arith)
  where
    more : (b p : ℕ) → b ≤ 1 → (r + 1) * (2 * p) ≤ n → (2 * r + b + 1) * p ≤ n
    more zero p l h = omega arith
    more (suc zero) p l h = omega arith
    more (suc (suc b)) p l h = absurd (omega arith)

-- the reversals of numbers that complement each other do so, too
pub bit_reversal-complement : (k i j : ℕ) → i + j + 1 ≡ 2 ^ k → bit_reversal k i + bit_reversal k j + 1 ≡ 2 ^ k
unfolding bit_reversal
bit_reversal-complement zero i j e = refl
bit_reversal-complement (suc k) i j e =
    let rest = bit_reversal-complement k (i / 2) (j / 2) (omega arith) in
    let one : i % 2 + j % 2 ≡ 1 = omega arith in
    let whole : 2 * 2 ^ k ≡ 2 ^ suc k = omega arith in
    line (i % 2) (j % 2) (2 ^ k) (bit_reversal k (i / 2)) (bit_reversal k (j / 2)) one rest ∙ whole
  where
    line : (a b p x y : ℕ) → a + b ≡ 1 → x + y + 1 ≡ p → a * p + x + (b * p + y) + 1 ≡ 2 * p
    line zero zero p x y e h = absurd (omega arith)
    line zero (suc zero) p x y e h = omega arith
    line (suc zero) zero p x y e h = omega arith
    line zero (suc (suc b)) p x y e h = absurd (omega arith)
    line (suc zero) (suc b) p x y e h = absurd (omega arith)
    line (suc (suc a)) b p x y e h = absurd (omega arith)
