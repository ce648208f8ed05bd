use Rattle.std.proofs.Common.{length}
use Rattle.std.specs.Prelude.{◌==◌}
use Rattle.command_words.proofs.Words.{list_any-map}
use Rattle.command_words.proofs.form.form_of.Goals as goal

pub returns-then-has_empty_word-clause-form : goal.returns-then-has_empty_word-clause-form
returns-then-has_empty_word-clause-form c =
    let found = list_any-map (λ w. length w == 0) c.args.words.now in
    rw found (rw (← c.has_empty_word.ensures) (rw c.if-has_empty_word.true))

pub returns-then-is_run-clause-form : goal.returns-then-is_run-clause-form
returns-then-is_run-clause-form c =
    let found = list_any-map (λ w. length w == 0) c.args.words.now in
    rw found (rw (← c.has_empty_word.ensures) (rw c.if-has_empty_word.false (rw (← c.is_run.ensures) (rw c.if-is_run.true))))

pub returns-else-is_run-clause-form : goal.returns-else-is_run-clause-form
returns-else-is_run-clause-form c =
    let found = list_any-map (λ w. length w == 0) c.args.words.now in
    rw found (rw (← c.has_empty_word.ensures) (rw c.if-has_empty_word.false (rw (← c.is_run.ensures) (rw c.if-is_run.false c.form_of_full_words.ensures.form))))
