use Rattle.std.proofs.Common.{ℕ, ◌<◌, [], get_or}
use Rattle.ring_law.specs.Polynomials.{ring_sum}
use Rattle.ring_law.specs.Rows.{IsReduced}
use Rattle.rns_poly.proofs.Combinations.{Combines}
use Rattle.rns_poly.proofs.all_rows.add_into.Given as goal

abbrev pub invariant-loop-i : goal.invariant-loop-i
invariant-loop-i g l = record {
  represents : (j : ℕ) → j < l.i → Combines ring_sum g.row.N (get_or l.moduli j 0) (get_or l.a.rows.now j []) (get_or l.b.rows.now j []) (get_or l.out j []);
  reduced : (j : ℕ) → j < l.i → IsReduced g.row.N (get_or l.moduli j 0) (get_or l.out j []);
}
