use Rattle.bound_num.proofs.Grid.{up_exponent-le, greatest_canonical}
use Rattle.bound_num.proofs.Closed.{up_value}
use Rattle.bound_num.proofs.Operations.{unscaled_up, word-le}
use Rattle.bound_num.proofs.Bound.of.Goals as goal

pub returns-clause-value : goal.returns-clause-value
returns-clause-value c = up_value _ _ _ (unscaled_up _ _ _ c.round_up.ensures)

pub returns-clause-exponent : goal.returns-clause-exponent
returns-clause-exponent c = up_exponent-le _ _ _ _ _ (unscaled_up _ _ _ c.round_up.ensures) (greatest_canonical 33) (word-le _ c.ranges.x.fits)
