use Rattle.std.proofs.Common.{arith}
use Rattle.bound_num.proofs.Grid.{exponent-lt}
use Rattle.bound_num.proofs.Closed.{down_value}
use Rattle.bound_num.proofs.Operations.{unscaled_down}
use Rattle.bound_num.proofs.Bound.down_of.Goals as goal

pub returns-clause-value : goal.returns-clause-value
returns-clause-value c = down_value _ _ _ (unscaled_down _ _ _ c.round_down.ensures)

pub returns-clause-exponent : goal.returns-clause-exponent
returns-clause-exponent c =
    let down = unscaled_down _ _ _ c.round_down.ensures in
    let below = down.below in
    let word = c.ranges.x.fits in
    let less = exponent-lt _ _ 33 down.canonical (omega arith) (omega arith) in
    omega arith
