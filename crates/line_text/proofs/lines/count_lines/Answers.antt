use Rattle.std.proofs.Common.{◌≢◌, ◌==◌, ◌∙◌, length, sym, ap, arith, rules, tests}
use Rattle.std.proofs.lemmas.Iterator.Consumers.{count_from_yields_List}
use Rattle.std.proofs.lemmas.Iterator.Splits.{YieldsList-from_slice_split}
use Rattle.std.proofs.lemmas.Bool.Decides.{nat_tests}
use Rattle.line_text.proofs.Pieces.{lines_of-split}
use Rattle.line_text.proofs.lines.count_lines.Goals as goal

pub returns : goal.returns
returns c =
    let some : length c.args.text.now ≢ 0 = grind (arith, nat_tests) in
    count_from_yields_List _ _ c.count.ensures.ran
    (YieldsList-from_slice_split _ (λ byte. byte == 10) _ (c.split.ensures.rest ∙ c.without_end.ensures) c.split.ensures.done c.split.ensures.closure (λ x b q k. search (rules, tests)))
    ∙ sym (ap length (lines_of-split c.args.text.now some))
