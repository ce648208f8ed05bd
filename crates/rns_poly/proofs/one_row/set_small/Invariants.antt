use Rattle.std.proofs.Common.{◌≡◌, length}
use Rattle.ring_law.specs.Rows.{IsReduced, RowRepresents, listed_polynomial}
use Rattle.rns_poly.proofs.one_row.set_small.Given as goal

abbrev pub invariant-loop-k : goal.invariant-loop-k
invariant-loop-k g l = record {
  words : length l.out ≡ g.row.N;
  done : RowRepresents l.k l.m l.out (listed_polynomial l.small);
  reduced : IsReduced l.k l.m l.out;
}
