use Rattle.file_model.proofs.WorkedRows.{one16_begins, one16_rules, one16_holds, toy16_rules, toy16_holds}
use Rattle.file_model.proofs.worked_rows.law_of_worked_rows.Goals as goal

pub returns-clause-one16_begins : goal.returns-clause-one16_begins
returns-clause-one16_begins c = one16_begins

pub returns-clause-one16_rules : goal.returns-clause-one16_rules
returns-clause-one16_rules c = one16_rules

pub returns-clause-one16_holds : goal.returns-clause-one16_holds
returns-clause-one16_holds c = one16_holds

pub returns-clause-toy16_rules : goal.returns-clause-toy16_rules
returns-clause-toy16_rules c = toy16_rules

pub returns-clause-toy16_holds : goal.returns-clause-toy16_holds
returns-clause-toy16_holds c = toy16_holds
