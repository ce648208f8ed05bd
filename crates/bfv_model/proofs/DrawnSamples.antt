-- The sizes of drawn samples, and samples that were worked out by hand.
use Rattle.std.proofs.Common.{add-one, ap, ap₂, arith, lit<, mod-lt, nat_abs, negsuc, pos, pow_pos, refl, suc, zero, ℕ, ◌%◌, ◌*◌, ◌+◌, ◌-ℤ◌, ◌-◌, ◌/◌, ◌<◌, ◌^◌, ◌∙◌, ◌≡◌, ◌≤◌}
use Rattle.std.specs.Int.RustNames.{count_ones}
use Rattle.std.proofs.lemmas.Int.{ints}
use Rattle.std.proofs.lemmas.Nat.{ones-le, ones_cat}
use Rattle.ring_law.specs.Polynomials.{AllWithin}
use Rattle.bfv_model.specs.Drawn.{drawn_error, drawn_ternary, error_sample, greatest_error, greatest_ternary, ternary_sample, uniform_sample}
use Rattle.bfv_model.specs.Holds.{ternary_coefficient}

-- no error is greater than 21 bits allow
pub error_sample_within : (word : ℕ) → nat_abs (error_sample word) ≤ greatest_error
unfolding error_sample
error_sample_within word = apart (count_ones (word % 2 ^ 21)) (count_ones (word / 2 ^ 21 % 2 ^ 21))
    (ones-le 21 (word % 2 ^ 21) (mod-lt word (lit< tt))) (ones-le 21 (word / 2 ^ 21 % 2 ^ 21) (mod-lt (word / 2 ^ 21) (lit< tt)))
  where
    apart : (a b : ℕ) → a ≤ 21 → b ≤ 21 → nat_abs (pos a -ℤ pos b) ≤ 21
    apart a b first second = omega (arith, ints)

pub drawn_error_within : (n : ℕ) (words : ℕ → ℕ) (from : ℕ) → AllWithin n greatest_error (drawn_error words from)
drawn_error_within n words from k below = error_sample_within (words (from + k))

-- a ternary sample is -1, 0 or 1
pub ternary_coefficient_within : (word : ℕ) → word < 3 → nat_abs (ternary_coefficient word) ≤ greatest_ternary
ternary_coefficient_within zero below = omega (arith, ints)
ternary_coefficient_within (suc zero) below = omega (arith, ints)
ternary_coefficient_within (suc (suc zero)) below = omega (arith, ints)
ternary_coefficient_within (suc (suc (suc word))) below = absurd (omega arith)

pub drawn_ternary_within : (n : ℕ) (words : ℕ → ℕ) → AllWithin n greatest_ternary (drawn_ternary words)
drawn_ternary_within n words k below = ternary_coefficient_within (words k % 3) (mod-lt (words k) (lit< tt))

-- ---- worked out by hand
count_ones-zero : count_ones 0 ≡ 0
unfolding count_ones
count_ones-zero = refl

count_ones-one : count_ones 1 ≡ 1
unfolding count_ones
count_ones-one = refl

all_ones : (k : ℕ) → count_ones (2 ^ k - 1) ≡ k
all_ones zero = count_ones-zero
all_ones (suc k) =
    let positive = pow_pos k in
    let split : 2 ^ suc k - 1 ≡ (2 ^ k - 1) * 2 ^ 1 + 1 = omega arith in
    ap count_ones split ∙ ones_cat 1 (2 ^ k - 1) 1 (lit< tt) ∙ ap₂ ◌+◌ (all_ones k) count_ones-one ∙ add-one k

ternary_of_5 : ternary_coefficient (ternary_sample 5) ≡ negsuc 0
ternary_of_5 = refl

error_of_low_ones : error_sample 0x1f_ffff ≡ pos 21
unfolding error_sample
error_of_low_ones = ap₂ (λ x y. pos x -ℤ pos y) (all_ones 21) count_ones-zero

error_of_high_ones : error_sample 0x3ff_ffe0_0000 ≡ negsuc 20
unfolding error_sample
error_of_high_ones = ap₂ (λ x y. pos x -ℤ pos y) count_ones-zero (all_ones 21)

uniform_of_1_0 : uniform_sample 257 1 0 ≡ 1
uniform_of_1_0 = refl
