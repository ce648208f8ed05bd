use Rattle.std.proofs.Common.{◌≡◌, ℕ, ◌<◌, length}
use Rattle.ring_law.specs.Rows.{word_at}
use Rattle.fast_conv.proofs.Conversions.{written}
use Rattle.fast_conv.proofs.ExactRows.{overflow_word}
use Rattle.fast_conv.proofs.back.SkBack.back.Given as goal

abbrev pub invariant-loop-k : goal.invariant-loop-k
invariant-loop-k g l = (j m : ℕ) → j < length l.self-inside.outputs.items → m < l.k
    → word_at l.to j m ≡ written l.self-inside.inputs.items l.self-inside.outputs.items l.from
    (λ j m. overflow_word l.self-inside.inputs.items l.self-inside.overflow l.from m) j m
