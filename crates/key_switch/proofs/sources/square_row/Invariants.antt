use Rattle.std.proofs.Common.{◌≡◌, ℕ, ◌*◌, ◌%◌, ◌<◌, length, slice_index}
use Rattle.std.specs.List.{SameFrom}
use Rattle.ring_law.specs.Rows.{IsReduced}
use Rattle.key_switch.proofs.sources.square_row.Given as goal

abbrev pub invariant-loop-k : goal.invariant-loop-k
invariant-loop-k g l = record {
  words : length l.row ≡ g.row.N;
  squares : (j : ℕ) → j < l.k → slice_index l.row j ≡ slice_index l.initial.row j * slice_index l.initial.row j % l.m;
  reduced : IsReduced l.k l.m l.row;
  rest : SameFrom l.initial.row l.row l.k;
}
