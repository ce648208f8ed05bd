use Rattle.std.proofs.Common.{◌≡◌, ℕ, ◌+◌, ◌*◌, ◌<◌, length, slice_index}
use Rattle.std.specs.List.{SameFrom}
use Rattle.key_switch.specs.Sums.{two_words}
use Rattle.key_switch.proofs.sums.add_products.Given as goal

abbrev pub invariant-loop-k : goal.invariant-loop-k
invariant-loop-k g l = record {
  high_words : length l.high ≡ g.row.N;
  low_words : length l.low ≡ g.row.N;
  done : (j : ℕ) → j < l.k → two_words l.high l.low j ≡ two_words l.initial.high l.initial.low j + slice_index l.a j * slice_index l.b j;
  rest_high : SameFrom l.initial.high l.high l.k;
  rest_low : SameFrom l.initial.low l.low l.k;
}
