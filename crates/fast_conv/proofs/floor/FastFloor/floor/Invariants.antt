use Rattle.std.proofs.Common.{◌≡◌, ℕ, ◌<◌, ◌≤◌, length}
use Rattle.ring_law.specs.Rows.{word_at}
use Rattle.fast_conv.proofs.Conversions.{written}
use Rattle.fast_conv.proofs.floor.FastFloor.floor.Given as goal

abbrev pub invariant-loop-k : goal.invariant-loop-k
invariant-loop-k g l = record {
  done : (j m : ℕ) → j < length l.self-inside.outputs.items → m < l.k
      → word_at l.to j m ≡ written l.self-inside.inputs.items l.self-inside.outputs.items l.from (word_at l.fn.to) j m;
  rest : (j m : ℕ) → l.k ≤ m → word_at l.to j m ≡ word_at l.fn.to j m;
}
