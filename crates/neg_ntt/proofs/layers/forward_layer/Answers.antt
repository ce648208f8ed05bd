use Rattle.std.proofs.Common.{◌*◌, arith, length, mul-le-mul_right, subst, ◌≡◌}
use Rattle.lane_rows.specs.Butterflies.{IsButterfly}
use Rattle.neg_ntt.specs.Butterflies.{EachPair, EachPart}
use Rattle.neg_ntt.specs.Roots.{factor_at}
use Rattle.neg_ntt.proofs.Blocks.{EachBlock-parts, PartsDone-none, PartsDone-put_mid, RowBelow-put_mid}
use Rattle.neg_ntt.proofs.layers.forward_layer.Goals as goal

pub loop-root-init : goal.loop-root-init
loop-root-init c = record {
  start = omega arith;
  blocks = PartsDone-none (λ i. EachPair (IsButterfly c.args.q (factor_at c.args.roots.now i).w) c.args.half) (2 * c.args.half) c.args.row.now;
  below = c.requires.below;
}

pub loop-root-preserved : goal.loop-root-preserved
loop-root-preserved c =
    let before = c.loop-root.invariant in
    let room = mul-le-mul_right (2 * c.args.half) c.loop-root-test.true in
    record {
      start = omega (arith, before.start);
      blocks = PartsDone-put_mid (λ i. EachPair (IsButterfly c.args.q (factor_at c.args.roots.now i).w) c.args.half) (2 * c.args.half) c.args.row.now c.loop-root.row
          c.forward_block.new.block c.loop-root.root-index c.loop-root.start _ before.start (omega arith) (omega arith) (omega arith) before.blocks
          c.forward_block.ensures.pairs;
      below = RowBelow-put_mid (4 * c.args.q) c.loop-root.start _ c.loop-root.row c.forward_block.new.block (omega arith) (omega arith) before.below
          c.forward_block.ensures.below;
    }

pub returns-clause-pairs : goal.returns-clause-pairs
returns-clause-pairs c =
    let all : c.loop-root.root-index ≡ length c.args.roots.now = omega arith in
    EachBlock-parts (λ i. IsButterfly c.args.q (factor_at c.args.roots.now i).w) (length c.args.roots.now) c.args.half c.args.row.now c.loop-root.row
    (subst (λ n. EachPart (λ i. EachPair (IsButterfly c.args.q (factor_at c.args.roots.now i).w) c.args.half) n (2 * c.args.half) c.args.row.now c.loop-root.row) all
    c.loop-root.invariant.blocks.done)
