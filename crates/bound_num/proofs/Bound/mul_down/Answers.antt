use Rattle.std.proofs.Common.{arith}
use Rattle.bound_num.proofs.Grid.{down_exponent-le, greatest_canonical}
use Rattle.bound_num.proofs.Closed.{down_value}
use Rattle.bound_num.proofs.Operations.{product_down, product_down_zero, product-le}
use Rattle.bound_num.proofs.Bound.mul_down.Goals as goal

pub returns-then-k-eq0-clause-rounded : goal.returns-then-k-eq0-clause-rounded
returns-then-k-eq0-clause-rounded c = product_down_zero _ _ (omega arith)

pub returns-then-k-eq0-clause-value : goal.returns-then-k-eq0-clause-value
returns-then-k-eq0-clause-value c = down_value _ _ _ (product_down_zero _ _ (omega arith))

pub returns-clause-rounded : goal.returns-clause-rounded
returns-clause-rounded c = product_down _ _ _ _ _ c.round_down.ensures

pub returns-clause-value : goal.returns-clause-value
returns-clause-value c = down_value _ _ _ (product_down _ _ _ _ _ c.round_down.ensures)

pub returns-clause-exponent : goal.returns-clause-exponent
returns-clause-exponent c = down_exponent-le _ _ _ _ _ (product_down _ _ _ _ _ c.round_down.ensures) (greatest_canonical _) (product-le _ _ _ c.requires.canonical.word c.ranges.k.fits)
