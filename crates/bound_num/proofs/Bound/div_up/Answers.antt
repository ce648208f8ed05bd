use Rattle.bound_num.proofs.Grid.{up_exponent-le}
use Rattle.bound_num.proofs.Closed.{up_value}
use Rattle.bound_num.proofs.Operations.{quotient_full, quotient_up, quotient-le}
use Rattle.bound_num.proofs.Bound.div_up.Goals as goal

pub round_up-requires-clause-full : goal.round_up-requires-clause-full
round_up-requires-clause-full c = quotient_full _ _ _ _ _ c.requires.canonical c.requires.divisor c.ranges.q.fits c.min-shift.ensures c.div_ceil.ensures

pub returns-clause-rounded : goal.returns-clause-rounded
returns-clause-rounded c = quotient_up _ _ _ _ _ _ _ c.requires.canonical c.requires.divisor c.ranges.q.fits c.min-shift.ensures c.div_ceil.ensures c.round_up.ensures

pub returns-clause-value : goal.returns-clause-value
returns-clause-value c = up_value _ _ _ (quotient_up _ _ _ _ _ _ _ c.requires.canonical c.requires.divisor c.ranges.q.fits c.min-shift.ensures c.div_ceil.ensures c.round_up.ensures)

pub returns-clause-exponent : goal.returns-clause-exponent
returns-clause-exponent c =
    let rounded = quotient_up _ _ _ _ _ _ _ c.requires.canonical c.requires.divisor c.ranges.q.fits c.min-shift.ensures c.div_ceil.ensures c.round_up.ensures in
    up_exponent-le _ _ _ _ _ rounded c.requires.canonical (quotient-le _ _ c.requires.divisor)
