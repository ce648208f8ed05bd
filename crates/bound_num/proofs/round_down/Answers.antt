use Rattle.std.proofs.Common.{arith}
use Rattle.bound_num.proofs.Rounding.{down_of_mantissa}
use Rattle.bound_num.proofs.Operations.{rounds_down}
use Rattle.bound_num.proofs.round_down.Goals as goal

pub overflow_cast-result-2 : goal.overflow_cast-result-2
overflow_cast-result-2 c =
    let found = rounds_down _ c.args.e _ c.excess_digits-excess.ensures.value c.requires.full in
    omega (arith, found.word)

pub returns : goal.returns
returns c =
    let found = rounds_down _ _ _ c.excess_digits-excess.ensures.value c.requires.full in
    down_of_mantissa _ _ _ found.floor found.word
