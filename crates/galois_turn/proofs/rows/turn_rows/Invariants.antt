use Rattle.std.proofs.Common.{ℕ, ◌<◌, [], get_or}
use Rattle.ring_law.specs.Rows.{IsReduced}
use Rattle.galois_turn.proofs.TurnedRows.{Turns}
use Rattle.galois_turn.proofs.rows.turn_rows.Given as goal

abbrev pub invariant-loop-i : goal.invariant-loop-i
invariant-loop-i g l = record {
  turned : (j : ℕ) → j < l.i → Turns g.row.N (get_or l.moduli j 0) l.g (get_or l.from.rows.now j []) (get_or l.to j []);
  reduced : (j : ℕ) → j < l.i → IsReduced g.row.N (get_or l.moduli j 0) (get_or l.to j []);
}
