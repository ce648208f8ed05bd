use Rattle.std.proofs.Common.{sym, ◌∙◌}
use Rattle.run_operands.proofs.Demanded.{mismatch_seen, mismatch_caused, mismatch_no_call, ciphers_fit}
use Rattle.run_operands.proofs.matching.match_operands.Goals as goal

pub returns-in-Some-clause-err : goal.returns-in-Some-clause-err
returns-in-Some-clause-err c = λ planned are. sym (mismatch_seen c.args.script.now c.args.operands.now planned are) ∙ sym c.in-Some.ensures

pub returns-in-Some-clause-cause : goal.returns-in-Some-clause-cause
returns-in-Some-clause-cause c = λ old new. mismatch_caused c.args.script.now c.args.operands.now old new c.in-Some.status (sym c.in-Some.ensures)

pub returns-in-Some-clause-none : goal.returns-in-Some-clause-none
returns-in-Some-clause-none c = mismatch_no_call c.args.script.now c.args.operands.now c.in-Some.status (sym c.in-Some.ensures)

pub returns-in-None-clause-ok : goal.returns-in-None-clause-ok
returns-in-None-clause-ok c = λ planned are. sym (mismatch_seen c.args.script.now c.args.operands.now planned are) ∙ sym c.in-None.ensures

pub returns-in-None-clause-fit : goal.returns-in-None-clause-fit
returns-in-None-clause-fit c = ciphers_fit c.args.script.now c.args.operands.now (sym c.in-None.ensures)
