use Rattle.std.proofs.Common.{◌≡◌, length, get_or}
use Rattle.ring_law.specs.Rows.{IsReduced, RowRepresents}
use Rattle.bfv_linear.specs.Plaintexts.{centred_plain}
use Rattle.bfv_linear.proofs.centred.set_centred_row.Given as goal

abbrev pub invariant-loop-k : goal.invariant-loop-k
invariant-loop-k g l = record {
  words : length l.out ≡ g.row.N;
  done : RowRepresents l.k l.m l.out (centred_plain l.t (λ j. get_or l.plain j 0));
  reduced : IsReduced l.k l.m l.out;
}
