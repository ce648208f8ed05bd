use Rattle.std.proofs.Common.{ℕ, ◌<◌, [], get_or, ℤ}
use Rattle.std.specs.List.{SameFrom}
use Rattle.ring_law.specs.Rows.{IsReduced, RowRepresents}
use Rattle.rns_poly.specs.Rows.{multiple}
use Rattle.rns_poly.proofs.all_rows.scale_each.Given as goal

abbrev pub invariant-loop-i : goal.invariant-loop-i
invariant-loop-i g l = record {
  represents : (j : ℕ) → j < l.i → (x : ℕ → ℤ) → RowRepresents g.row.N (get_or l.moduli j 0) (get_or l.initial.rows j []) x → RowRepresents g.row.N (get_or l.moduli j 0) (get_or l.rows j []) (multiple (get_or l.factors j 0) x);
  reduced : (j : ℕ) → j < l.i → IsReduced g.row.N (get_or l.moduli j 0) (get_or l.rows j []);
  rest : SameFrom l.initial.rows l.rows l.i;
}
