use Rattle.std.proofs.Common.{◌≡◌, ◌+◌, ◌*◌}
use Rattle.lane_rows.specs.Butterflies.{EachFour, IsButterflyBack, TwoLayersBack}
use Rattle.lane_rows.specs.Rows.{RowBelow}
use Rattle.neg_ntt.specs.Roots.{negative_from_last}
use Rattle.neg_ntt.proofs.Blocks.{PartsDone}
use Rattle.neg_ntt.proofs.layers.inverse_blocks.Given as goal

abbrev pub invariant-loop-i : goal.invariant-loop-i
invariant-loop-i l = record {
  start : l.start ≡ l.i * (4 * l.quarter);
  parts : PartsDone (λ i. EachFour (TwoLayersBack (IsButterflyBack l.q (negative_from_last l.q l.outer i)) (IsButterflyBack l.q (negative_from_last l.q l.inner (2 * i))) (IsButterflyBack l.q (negative_from_last l.q l.inner (2 * i + 1)))) l.quarter) (4 * l.quarter) l.fn.row l.row l.i;
  below : RowBelow (2 * l.q) l.row;
}
