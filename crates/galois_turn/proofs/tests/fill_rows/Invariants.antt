use Rattle.std.proofs.Common.{ℕ, ◌<◌, [], get_or}
use Rattle.ring_law.specs.Rows.{IsReduced}
use Rattle.galois_turn.proofs.tests.fill_rows.Given as goal

abbrev pub invariant-loop-i : goal.invariant-loop-i
invariant-loop-i g l = (j : ℕ) → j < l.i → IsReduced g.row.N (get_or l.moduli j 0) (get_or l.rows j [])
