use Rattle.std.proofs.Common.{arith}
use Rattle.bound_num.proofs.Rounding.{up_of_mantissa, up_of_carry}
use Rattle.bound_num.proofs.Operations.{rounds_up}
use Rattle.bound_num.proofs.round_up.Goals as goal

pub overflow_cast-result : goal.overflow_cast-result
overflow_cast-result c =
    let found = rounds_up _ c.args.e _ _ c.excess_digits-excess.ensures.value c.excess_digits-excess.ensures.most c.requires.full c.div_ceil-mantissa.ensures in
    omega (arith, found.most)

pub returns-then-mantissa : goal.returns-then-mantissa
returns-then-mantissa c =
    let found = rounds_up _ _ _ _ c.excess_digits-excess.ensures.value c.excess_digits-excess.ensures.most c.requires.full c.div_ceil-mantissa.ensures in
    up_of_carry _ _ _ found.ceiling (omega arith)

pub returns-else-mantissa : goal.returns-else-mantissa
returns-else-mantissa c =
    let found = rounds_up _ _ _ _ c.excess_digits-excess.ensures.value c.excess_digits-excess.ensures.most c.requires.full c.div_ceil-mantissa.ensures in
    up_of_mantissa _ _ _ found.ceiling (omega (arith, found.most))
