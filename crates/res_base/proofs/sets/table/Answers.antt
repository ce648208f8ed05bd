use Rattle.res_base.proofs.Sizes.{fit_together}
use Rattle.res_base.proofs.sets.table.Goals as goal

pub returns-clause-sizes : goal.returns-clause-sizes
returns-clause-sizes c = fit_together c.args.set
