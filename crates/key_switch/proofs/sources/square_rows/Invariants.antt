use Rattle.std.proofs.Common.{◌≡◌, ℕ, ◌*◌, ◌%◌, ◌<◌, [], get_or}
use Rattle.std.specs.List.{SameFrom}
use Rattle.ring_law.specs.Rows.{IsReduced, word_at}
use Rattle.key_switch.proofs.sources.square_rows.Given as goal

abbrev pub invariant-loop-i : goal.invariant-loop-i
invariant-loop-i g l = record {
  squares : (j k : ℕ) → j < l.i → k < g.row.N → word_at l.rows j k ≡ word_at l.initial.rows j k * word_at l.initial.rows j k % get_or l.moduli j 0;
  reduced : (j : ℕ) → j < l.i → IsReduced g.row.N (get_or l.moduli j 0) (get_or l.rows j []);
  rest : SameFrom l.initial.rows l.rows l.i;
}
