use Rattle.script_text.proofs.ReadFaults.{fault_stays}
use Rattle.script_text.proofs.laws.law_of_faults.Goals as goal

pub returns : goal.returns
returns c = fault_stays
