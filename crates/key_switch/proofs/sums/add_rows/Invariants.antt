use Rattle.std.proofs.Common.{◌≡◌, ℕ, ◌+◌, ◌*◌, ◌<◌, [], get_or, length}
use Rattle.std.specs.List.{SameFrom}
use Rattle.ring_law.specs.Rows.{word_at}
use Rattle.key_switch.specs.Sums.{digit_row, two_words}
use Rattle.key_switch.proofs.sums.add_rows.Given as goal

abbrev pub invariant-loop-r : goal.invariant-loop-r
invariant-loop-r g l = record {
  done : (j k : ℕ) → j < l.r → k < g.row.N → two_words (get_or l.high j []) (get_or l.low j []) k
      ≡ two_words (get_or l.initial.high j []) (get_or l.initial.low j []) k + word_at l.lifted.rows.now j k
      * word_at l.key.rows.now (digit_row (length l.lifted.rows.now) (length l.key.rows.now) j) k;
  rest_high : SameFrom l.initial.high l.high l.r;
  rest_low : SameFrom l.initial.low l.low l.r;
}
