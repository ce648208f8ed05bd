use Rattle.std.proofs.Common.{◌≡◌, ℕ, ◌<◌, ◌≤◌, length, get_or, []}
use Rattle.ring_law.specs.Rows.{word_at}
use Rattle.bfv_params.proofs.rows.clear_from.Given as goal

abbrev pub invariant-loop-i : goal.invariant-loop-i
invariant-loop-i g l = record {
  count : length l.rows ≡ length l.fn.rows;
  before : (j : ℕ) → j < l.start → get_or l.rows j [] ≡ get_or l.fn.rows j [];
  zero : (j k : ℕ) → l.start ≤ j → j < l.i → k < g.row.N → word_at l.rows j k ≡ 0;
}
