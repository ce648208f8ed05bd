use Rattle.std.proofs.Common.{ℕ, ◌<◌, [], get_or, ℤ}
use Rattle.ring_law.specs.Polynomials.{ring_negative}
use Rattle.ring_law.specs.Rows.{IsReduced, RowRepresents}
use Rattle.rns_poly.proofs.all_rows.neg_into.Given as goal

abbrev pub invariant-loop-i : goal.invariant-loop-i
invariant-loop-i g l = record {
  represents : (j : ℕ) → j < l.i → (x : ℕ → ℤ) → RowRepresents g.row.N (get_or l.moduli j 0) (get_or l.a.rows.now j []) x → RowRepresents g.row.N (get_or l.moduli j 0) (get_or l.out j []) (ring_negative x);
  reduced : (j : ℕ) → j < l.i → IsReduced g.row.N (get_or l.moduli j 0) (get_or l.out j []);
}
