use Rattle.std.proofs.Common.{arith}
use Rattle.lane_rows.specs.Butterflies.{IsButterfly}
use Rattle.neg_ntt.proofs.Blocks.{EachPair-append}
use Rattle.neg_ntt.proofs.layers.forward_block.Goals as goal

pub returns-clause-pairs : goal.returns-clause-pairs
returns-clause-pairs c =
    let halves = c.split_at_mut-low.ensures in
    EachPair-append (IsButterfly c.args.q c.args.root.now.w) c.args.half c.args.block.now _ _ c.butterflies.new.lo c.butterflies.new.hi
    halves.front halves.back (omega arith) (λ r inside. c.butterflies.ensures.pairs r (omega arith))
