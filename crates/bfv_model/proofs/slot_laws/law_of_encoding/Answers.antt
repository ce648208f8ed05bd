use Rattle.bfv_model.proofs.SlotSets.{slots-exist, slots-once}
use Rattle.bfv_model.proofs.slot_laws.law_of_encoding.Goals as goal

pub returns-clause-some : goal.returns-clause-some
returns-clause-some c = slots-exist

pub returns-clause-one : goal.returns-clause-one
returns-clause-one c = slots-once
