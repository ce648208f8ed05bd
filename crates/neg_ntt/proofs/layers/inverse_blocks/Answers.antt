use Rattle.std.proofs.Common.{◌+◌, ◌*◌, arith, mul-le-mul_right}
use Rattle.lane_rows.specs.Butterflies.{EachFour, IsButterflyBack, TwoLayersBack}
use Rattle.neg_ntt.specs.Roots.{negative_from_last}
use Rattle.neg_ntt.proofs.Blocks.{PartsDone-none, PartsDone-put_mid, RowBelow-put_mid}
use Rattle.neg_ntt.proofs.layers.inverse_blocks.Goals as goal

pub loop-i-init : goal.loop-i-init
loop-i-init c = record {
  start = omega arith;
  parts = PartsDone-none (λ i. EachFour (TwoLayersBack (IsButterflyBack c.args.q (negative_from_last c.args.q c.args.outer.now i)) (IsButterflyBack c.args.q (negative_from_last c.args.q c.args.inner.now (2 * i))) (IsButterflyBack c.args.q (negative_from_last c.args.q c.args.inner.now (2 * i + 1)))) c.args.quarter) (4 * c.args.quarter) c.args.row.now;
  below = c.requires.below;
}

pub loop-i-preserved : goal.loop-i-preserved
loop-i-preserved c =
    let before = c.loop-i.invariant in
    let room = mul-le-mul_right (4 * c.args.quarter) c.loop-i-test.true in
    let layers = rw (c.negative_of-root.ensures.w, c.negative_of-first.ensures.w, c.negative_of-second.ensures.w) at c.butterflies_back_twice.ensures.layers in
    record {
      start = omega (arith, before.start);
      parts = PartsDone-put_mid (λ i. EachFour (TwoLayersBack (IsButterflyBack c.args.q (negative_from_last c.args.q c.args.outer.now i)) (IsButterflyBack c.args.q (negative_from_last c.args.q c.args.inner.now (2 * i))) (IsButterflyBack c.args.q (negative_from_last c.args.q c.args.inner.now (2 * i + 1)))) c.args.quarter) (4 * c.args.quarter) c.args.row.now c.loop-i.row
          c.butterflies_back_twice.new.block c.loop-i.i c.loop-i.start _ before.start (omega arith) (omega arith) (omega arith) before.parts layers;
      below = RowBelow-put_mid (2 * c.args.q) c.loop-i.start _ c.loop-i.row c.butterflies_back_twice.new.block (omega arith) (omega arith) before.below
          c.butterflies_back_twice.ensures.below;
    }
