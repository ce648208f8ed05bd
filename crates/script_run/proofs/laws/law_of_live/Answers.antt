use Rattle.script_run.proofs.LiveTests.{tested_live}
use Rattle.script_run.proofs.laws.law_of_live.Goals as goal

pub returns : goal.returns
returns c = tested_live
