use Rattle.std.proofs.Common.{arith}
use Rattle.bound_num.proofs.Grid.{up_exponent-le, greatest_canonical}
use Rattle.bound_num.proofs.Closed.{up_value}
use Rattle.bound_num.proofs.Operations.{product_up, product_up_zero, product-le}
use Rattle.bound_num.proofs.Bound.mul_up.Goals as goal

pub returns-then-k-eq0-clause-rounded : goal.returns-then-k-eq0-clause-rounded
returns-then-k-eq0-clause-rounded c = product_up_zero _ _ (omega arith)

pub returns-then-k-eq0-clause-value : goal.returns-then-k-eq0-clause-value
returns-then-k-eq0-clause-value c = up_value _ _ _ (product_up_zero _ _ (omega arith))

pub returns-clause-rounded : goal.returns-clause-rounded
returns-clause-rounded c = product_up _ _ _ _ _ c.round_up.ensures

pub returns-clause-value : goal.returns-clause-value
returns-clause-value c = up_value _ _ _ (product_up _ _ _ _ _ c.round_up.ensures)

pub returns-clause-exponent : goal.returns-clause-exponent
returns-clause-exponent c = up_exponent-le _ _ _ _ _ (product_up _ _ _ _ _ c.round_up.ensures) (greatest_canonical _) (product-le _ _ _ c.requires.canonical.word c.ranges.k.fits)
