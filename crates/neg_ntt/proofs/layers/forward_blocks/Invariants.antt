use Rattle.std.proofs.Common.{◌≡◌, ◌+◌, ◌*◌}
use Rattle.lane_rows.specs.Butterflies.{EachFour, IsButterfly, TwoLayers}
use Rattle.lane_rows.specs.Rows.{RowBelow}
use Rattle.neg_ntt.specs.Roots.{factor_at}
use Rattle.neg_ntt.proofs.Blocks.{PartsDone}
use Rattle.neg_ntt.proofs.layers.forward_blocks.Given as goal

abbrev pub invariant-loop-i : goal.invariant-loop-i
invariant-loop-i l = record {
  start : l.start ≡ l.i * (4 * l.quarter);
  parts : PartsDone (λ i. EachFour (TwoLayers (IsButterfly l.q (factor_at l.outer i).w) (IsButterfly l.q (factor_at l.inner (2 * i)).w) (IsButterfly l.q (factor_at l.inner (2 * i + 1)).w)) l.quarter) (4 * l.quarter) l.fn.row l.row l.i;
  below : RowBelow (4 * l.q) l.row;
}
