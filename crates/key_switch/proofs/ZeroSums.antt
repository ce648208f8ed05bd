-- Sums over no digits.
use Rattle.std.proofs.Common.{◌≡◌, ℕ, zero, suc, ◌+◌, ◌*◌, ◌^◌, ◌<◌, ap, ap₂, arith, pos, List, length}
use Rattle.ring_law.specs.Sums.{sum_below}
use Rattle.bfv_params.specs.Rows.{ZeroFrom}
use Rattle.bfv_params.specs.Values.{ContextValue}
use Rattle.key_switch.specs.Sums.{AreDigitSums, AreSumsOf, sum_word}

zero_sum : (n count : ℕ) (sums : List (List ℕ)) → length sums ≡ 4 * count → ZeroFrom n 0 sums → (j r k : ℕ) → j < 2 → r < count → k < n → sum_word count sums (j * (2 * count)) r k ≡ 0
zero_sum n count sums size zeros j r k in_key below inside =
    ap₂ (λ h l. h * 2 ^ 64 + l) (zeros (j * (2 * count) + r) k (omega arith) (place j in_key r (omega arith)) inside)
    (zeros (j * (2 * count) + (count + r)) k (omega arith) (place j in_key (count + r) (omega arith)) inside)
  where
    place : (j : ℕ) → j < 2 → (row : ℕ) → row < 2 * count → j * (2 * count) + row < length sums
    place zero in_key row less = omega (arith, size, less)
    place (suc zero) in_key row less = omega (arith, size, less)
    place (suc (suc j)) in_key row less = absurd (omega arith)

pub AreSumsOf-zero : (n count : ℕ) (sums : List (List ℕ)) → length sums ≡ 4 * count → ZeroFrom n 0 sums → AreSumsOf n count 0 sums
AreSumsOf-zero n count sums size zeros j r k in_key below inside = let is = zero_sum n count sums size zeros j r k in_key below inside in omega (arith, is)

pub AreDigitSums-zero : (n : ℕ) (ctx : ContextValue) (part : List (List ℕ)) (word : ℕ → ℕ → ℕ → ℕ → ℕ) (sums : List (List ℕ)) → length sums ≡ 4 * (ctx.level + 1) → ZeroFrom n 0 sums
    → AreDigitSums n ctx part word 0 sums
unfolding sum_below
AreDigitSums-zero n ctx part word sums size zeros j r k in_key below inside = ap pos (zero_sum n (ctx.level + 1) sums size zeros j r k in_key below inside)
