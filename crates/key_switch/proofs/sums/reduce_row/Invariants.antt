use Rattle.std.proofs.Common.{◌≡◌, ℕ, ◌%◌, ◌<◌, length, slice_index}
use Rattle.std.specs.List.{SameFrom}
use Rattle.ring_law.specs.Rows.{IsReduced}
use Rattle.key_switch.specs.Sums.{two_words}
use Rattle.key_switch.proofs.sums.reduce_row.Given as goal

abbrev pub invariant-loop-k : goal.invariant-loop-k
invariant-loop-k g l = record {
  words : length l.low ≡ g.row.N;
  residues : (j : ℕ) → j < l.k → slice_index l.low j ≡ two_words l.high l.initial.low j % l.m;
  reduced : IsReduced l.k l.m l.low;
  rest : SameFrom l.initial.low l.low l.k;
}
