use Rattle.noise_check.proofs.Registers.{exact-le-rounded, rounded-near_exact, above_limit-exact}
use Rattle.noise_check.proofs.laws.law_of_rounding.Goals as goal

pub returns-clause-never_below : goal.returns-clause-never_below
returns-clause-never_below c = exact-le-rounded

pub returns-clause-near : goal.returns-clause-near
returns-clause-near c = rounded-near_exact

pub returns-clause-above_limit : goal.returns-clause-above_limit
returns-clause-above_limit c = above_limit-exact
