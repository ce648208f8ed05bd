use Rattle.std.proofs.Common.{◌≡◌, ℕ, ◌<◌, length}
use Rattle.ring_law.specs.Rows.{word_at}
use Rattle.fast_conv.proofs.Conversions.{written}
use Rattle.fast_conv.proofs.convert.FastConv.convert.Given as goal

abbrev pub invariant-loop-k : goal.invariant-loop-k
invariant-loop-k g l = (j m : ℕ) → j < length l.self-inside.outputs.items → m < l.k
    → word_at l.to j m ≡ written l.self-inside.inputs.items l.self-inside.outputs.items l.from (λ j m. 0) j m
