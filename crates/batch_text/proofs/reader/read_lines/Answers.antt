use Rattle.std.proofs.Common.{◌==◌, ap, sym, ◌∙◌, arith, rules, tests}
use Rattle.std.proofs.lemmas.List.{length_push}
use Rattle.std.proofs.lemmas.Iterator.Consumers.{YieldsList-turn, YieldsList-end, YieldsList-at}
use Rattle.std.proofs.lemmas.Iterator.Splits.{YieldsList-from_slice_split}
use Rattle.std.proofs.lemmas.Result.{err_from_is_err_and}
use Rattle.batch_text.specs.Reading.{texts, commands_in}
use Rattle.line_text.proofs.Pieces.{counted_lines-pieces, pieces_few}
use Rattle.line_text.proofs.Turns.{line_taken, lines_end}
use Rattle.batch_text.proofs.ReadLines.{commands_on, reads_on, line_failed}
use Rattle.batch_text.proofs.reader.read_lines.Goals as goal

pub returns-in_err-read_line : goal.returns-in_err-read_line
returns-in_err-read_line c =
    let turn =
    YieldsList-turn (YieldsList-at c.into_iter-line-iterator.ensures.into_iter_gives (YieldsList-from_slice_split _ (λ byte. byte == 10) _ c.split-line-items.ensures.rest c.split-line-items.ensures.done c.split-line-items.ensures.closure (λ x b q k. search (rules, tests))))
    c.lines.yielded _ c.lines.yielded_by _ _ c.in-Some.line c.in-Some.is c.next.ensures.steps in
    let p = err_from_is_err_and c.from_residual.result c.from_residual.ensures.1 in
    rw (p.1, p.2, counted_lines-pieces) (line_failed _ _ _ _ _ _ _ turn c.lines.invariant.4 c.in_err-read_line.ensures)

pub lines-preserved : goal.lines-preserved
lines-preserved c =
    let turn =
    YieldsList-turn (YieldsList-at c.into_iter-line-iterator.ensures.into_iter_gives (YieldsList-from_slice_split _ (λ byte. byte == 10) _ c.split-line-items.ensures.rest c.split-line-items.ensures.done c.split-line-items.ensures.closure (λ x b q k. search (rules, tests))))
    c.lines.yielded _ c.lines.yielded_by _ _ c.in-Some.line c.in-Some.is c.next.ensures.steps in
    let push = length_push c.lines.yielded c.in-Some.line in
    let few = pieces_few c.args.text.now in
    (search rules, tt, omega arith, omega arith, rw push (line_taken commands_on reads_on _ _ _ _ _ _ _ turn c.lines.invariant.4 c.in_ok-read_line.ensures))

pub returns : goal.returns
returns c =
    let end =
    YieldsList-end (YieldsList-at c.into_iter-line-iterator.ensures.into_iter_gives (YieldsList-from_slice_split _ (λ byte. byte == 10) _ c.split-line-items.ensures.rest c.split-line-items.ensures.done c.split-line-items.ensures.closure (λ x b q k. search (rules, tests))))
    c.lines.yielded _ c.lines.yielded_by _ _ c.in-None.is c.next.ensures.steps in
    ap commands_in (counted_lines-pieces c.args.text.now) ∙ c.lines.invariant.4 ∙ lines_end commands_on reads_on (texts c.lines.commands.items) _ _ _ (sym end.1)
