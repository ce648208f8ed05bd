use Rattle.std.proofs.Common.{arith}
use Rattle.bound_num.proofs.Closed.{down_value}
use Rattle.bound_num.proofs.Operations.{quarter_at_zero, quarter_at_one, quarter_above}
use Rattle.bound_num.proofs.Bound.quarter.Goals as goal

pub returns-in-0-clause-rounded : goal.returns-in-0-clause-rounded
returns-in-0-clause-rounded c = quarter_at_zero _ _ c.requires.canonical.word (omega arith)

pub returns-in-0-clause-value : goal.returns-in-0-clause-value
returns-in-0-clause-value c = down_value _ _ _ (quarter_at_zero _ _ c.requires.canonical.word (omega arith))

pub returns-in-1-clause-rounded : goal.returns-in-1-clause-rounded
returns-in-1-clause-rounded c = quarter_at_one _ _ c.requires.canonical.word (omega arith)

pub returns-in-1-clause-value : goal.returns-in-1-clause-value
returns-in-1-clause-value c = down_value _ _ _ (quarter_at_one _ _ c.requires.canonical.word (omega arith))

pub returns-in_default-clause-rounded : goal.returns-in_default-clause-rounded
returns-in_default-clause-rounded c = quarter_above _ _ c.requires.canonical (omega arith)

pub returns-in_default-clause-value : goal.returns-in_default-clause-value
returns-in_default-clause-value c = down_value _ _ _ (quarter_above _ _ c.requires.canonical (omega arith))
