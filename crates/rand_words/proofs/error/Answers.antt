-- The difference of two numbers of at most 64 ones fits its type.
use Rattle.std.proofs.Common.{ℕ, ◌≡◌, ◌≤◌, ◌^◌, ◌%◌, ◌/◌, ◌-ℤ◌, pos, arith, to_z, of_z, w8, lit<, mod-lt}
use Rattle.std.proofs.lemmas.Int.{ints}
use Rattle.std.proofs.lemmas.Nat.{ones-le}
use Rattle.bfv_model.specs.Drawn.{error_sample}
use Rattle.rand_words.proofs.error.Goals as goal

difference : (a b : ℕ) → a ≤ 21 → b ≤ 21 → to_z w8 (of_z w8 (to_z w8 a -ℤ to_z w8 b)) ≡ pos a -ℤ pos b
difference a b a_small b_small = omega (arith, ints)

pub returns : goal.returns
unfolding error_sample
returns c = difference _ _
    (ones-le 21 (c.args.word % 2 ^ 21) (mod-lt c.args.word (lit< tt)))
    (ones-le 21 (c.args.word / 2 ^ 21 % 2 ^ 21) (mod-lt (c.args.word / 2 ^ 21) (lit< tt)))
