use Rattle.std.proofs.Common.{◌==◌, ◌∙◌, not, ◌&&◌, rules, tests}
use Rattle.std.proofs.lemmas.Iterator.Consumers.{count_from_yields_List, YieldsList-from_filter, YieldsList-at}
use Rattle.std.proofs.lemmas.Iterator.Splits.{YieldsList-from_slice_split}
use Rattle.line_text.specs.Lines.{words_of, is_passed_over}
use Rattle.script_text.specs.Grammar.{is_input_line}
use Rattle.line_text.proofs.Pieces.{count-passing}
use Rattle.script_text.proofs.parser.count_inputs.Goals as goal

pub returns : goal.returns
returns c =
    count_from_yields_List _ _ c.count.ensures.ran
    (YieldsList-from_filter _ (λ piece. not (is_passed_over (words_of piece)) && is_input_line (words_of piece))
    (YieldsList-at c.filter.ensures.source (YieldsList-from_slice_split _ (λ byte. byte == 10) _ c.split.ensures.rest c.split.ensures.done c.split.ensures.closure (λ x b q k. search (rules, tests))))
    c.filter.ensures.closure (λ x b q k. search (rules, tests)))
    ∙ count-passing is_input_line c.args.text.now
