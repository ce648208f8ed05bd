use Rattle.std.proofs.Common.{ℕ, ◌<◌, [], get_or}
use Rattle.ring_law.specs.Rows.{IsReduced, RowRepresents}
use Rattle.bfv_linear.specs.Plaintexts.{centred_plain}
use Rattle.bfv_linear.proofs.centred.set_centred.Given as goal

abbrev pub invariant-loop-i : goal.invariant-loop-i
invariant-loop-i g l = record {
  represents : (j : ℕ) → j < l.i → RowRepresents g.row.N (get_or l.moduli j 0) (get_or l.out j []) (centred_plain l.t (λ k. get_or l.plain k 0));
  reduced : (j : ℕ) → j < l.i → IsReduced g.row.N (get_or l.moduli j 0) (get_or l.out j []);
}
