use Rattle.std.proofs.Common.{◌==◌, None, ap, sym, ◌∙◌, arith, rules, tests}
use Rattle.std.proofs.lemmas.List.{length_push}
use Rattle.std.proofs.lemmas.Iterator.Consumers.{YieldsList-turn, YieldsList-end, YieldsList-at}
use Rattle.std.proofs.lemmas.Iterator.Splits.{YieldsList-from_slice_split}
use Rattle.std.proofs.lemmas.Result.{err_from_is_err_and}
use Rattle.script_text.specs.Grammar.{after_lines}
use Rattle.line_text.proofs.Pieces.{counted_lines-pieces, pieces_few}
use Rattle.line_text.proofs.Turns.{line_taken, lines_end}
use Rattle.script_text.proofs.ReadLines.{drafts_on, line_failed}
use Rattle.script_text.proofs.parser.read_lines.Goals as goal

pub returns-in_err-draft-clause-value : goal.returns-in_err-draft-clause-value
returns-in_err-draft-clause-value c =
    let turn =
    YieldsList-turn (YieldsList-at c.into_iter-line-iterator.ensures.into_iter_gives (YieldsList-from_slice_split _ (λ byte. byte == 10) _ c.split-line-items.ensures.rest c.split-line-items.ensures.done c.split-line-items.ensures.closure (λ x b q k. search (rules, tests))))
    c.lines.yielded _ c.lines.yielded_by _ _ c.in-Some.line c.in-Some.is c.next.ensures.steps in
    let p = err_from_is_err_and c.from_residual.result c.from_residual.ensures.1 in
    rw (p.1, p.2, counted_lines-pieces) (line_failed _ _ _ _ _ _ _ turn c.lines.invariant.5 c.in_err-draft.ensures.value)

pub lines-preserved : goal.lines-preserved
lines-preserved c =
    let turn =
    YieldsList-turn (YieldsList-at c.into_iter-line-iterator.ensures.into_iter_gives (YieldsList-from_slice_split _ (λ byte. byte == 10) _ c.split-line-items.ensures.rest c.split-line-items.ensures.done c.split-line-items.ensures.closure (λ x b q k. search (rules, tests))))
    c.lines.yielded _ c.lines.yielded_by _ _ c.in-Some.line c.in-Some.is c.next.ensures.steps in
    let push = length_push c.lines.yielded c.in-Some.line in
    let few = pieces_few c.args.text.now in
    (search rules, tt, omega arith, omega arith, c.in_ok-draft.ensures.kept, rw push (line_taken after_lines drafts_on _ _ _ _ _ _ _ turn c.lines.invariant.5 c.in_ok-draft.ensures.value))

pub returns-clause-value : goal.returns-clause-value
returns-clause-value c =
    let end =
    YieldsList-end (YieldsList-at c.into_iter-line-iterator.ensures.into_iter_gives (YieldsList-from_slice_split _ (λ byte. byte == 10) _ c.split-line-items.ensures.rest c.split-line-items.ensures.done c.split-line-items.ensures.closure (λ x b q k. search (rules, tests))))
    c.lines.yielded _ c.lines.yielded_by _ _ c.in-None.is c.next.ensures.steps in
    ap (after_lines None) (counted_lines-pieces c.args.text.now) ∙ c.lines.invariant.5 ∙ lines_end after_lines drafts_on _ _ _ _ (sym end.1)
