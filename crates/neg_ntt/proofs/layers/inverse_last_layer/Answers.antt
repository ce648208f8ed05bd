use Rattle.std.proofs.Common.{arith}
use Rattle.lane_rows.specs.Butterflies.{IsScaledButterflyBack}
use Rattle.neg_ntt.proofs.Blocks.{EachBlock-one, EachPair-append}
use Rattle.neg_ntt.proofs.layers.inverse_last_layer.Goals as goal

pub returns-clause-pairs : goal.returns-clause-pairs
returns-clause-pairs c =
    let halves = c.split_at_mut-low.ensures in
    let pairs = rw (c.root_of.ensures.w, c.root_of-2.ensures.w) at c.scaled_butterflies_back.ensures.pairs in
    EachBlock-one (λ i. IsScaledButterflyBack c.args.q c.args.scale.now.w c.args.root.now.w) c.args.half c.args.row.now _
    (EachPair-append (IsScaledButterflyBack c.args.q c.args.scale.now.w c.args.root.now.w) c.args.half c.args.row.now _ _ c.scaled_butterflies_back.new.lo
    c.scaled_butterflies_back.new.hi halves.front halves.back (omega arith) (λ r inside. pairs r (omega arith)))
