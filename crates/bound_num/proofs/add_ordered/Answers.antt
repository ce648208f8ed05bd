use Rattle.std.proofs.Common.{arith}
use Rattle.bound_num.proofs.Operations.{sum_near, sum_alone, sum_far}
use Rattle.bound_num.proofs.add_ordered.Goals as goal

pub returns-then-gap-le-BITS : goal.returns-then-gap-le-BITS
returns-then-gap-le-BITS c = sum_near _ _ _ _ _ _ c.requires.high.word c.requires.ordered c.if-gap-le-BITS.true c.round_up.ensures

pub returns-then-low-eq0 : goal.returns-then-low-eq0
returns-then-low-eq0 c = sum_alone _ _ _ _ c.requires.high (omega arith)

pub returns-else-low-eq0 : goal.returns-else-low-eq0
returns-else-low-eq0 c = sum_far _ _ _ _ _ _ c.requires.high c.requires.low.word (omega arith) c.requires.ordered c.if-gap-le-BITS.false c.round_up-else-low-eq0.ensures
