use Rattle.std.proofs.Common.{◌≡◌, ℕ, ◌+◌, ◌*◌, ◌%◌, ◌<◌, length, slice_index}
use Rattle.std.specs.List.{SameFrom}
use Rattle.ring_law.specs.Rows.{IsReduced}
use Rattle.key_switch.proofs.making.add_multiple.Given as goal

abbrev pub invariant-loop-k : goal.invariant-loop-k
invariant-loop-k g l = record {
  words : length l.to ≡ g.row.N;
  sums : (j : ℕ) → j < l.k → slice_index l.to j ≡ (slice_index l.initial.to j + l.factor * slice_index l.from j) % l.m;
  reduced : IsReduced l.k l.m l.to;
  rest : SameFrom l.initial.to l.to l.k;
}
