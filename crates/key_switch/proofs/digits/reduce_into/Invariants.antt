use Rattle.std.proofs.Common.{ℕ, ◌<◌, [], get_or}
use Rattle.ring_law.specs.Rows.{IsReduced, RowRepresents, row_polynomial}
use Rattle.key_switch.proofs.digits.reduce_into.Given as goal

abbrev pub invariant-loop-i : goal.invariant-loop-i
invariant-loop-i g l = record {
  represents : (j : ℕ) → j < l.i → RowRepresents g.row.N (get_or l.moduli j 0) (get_or l.out j []) (row_polynomial l.row);
  reduced : (j : ℕ) → j < l.i → IsReduced g.row.N (get_or l.moduli j 0) (get_or l.out j []);
}
