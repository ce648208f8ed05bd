use Rattle.bfv_model.proofs.SetKeys.{root_of-IsTransformRoot}
use Rattle.bfv_model.proofs.key_laws.law_of_roots.Goals as goal

pub returns : goal.returns
returns c = root_of-IsTransformRoot
