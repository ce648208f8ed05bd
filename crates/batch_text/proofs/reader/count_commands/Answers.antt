use Rattle.std.proofs.Common.{◌==◌, ◌∙◌, not, rules, tests}
use Rattle.std.proofs.lemmas.Iterator.Consumers.{count_from_yields_List, YieldsList-from_filter, YieldsList-at}
use Rattle.std.proofs.lemmas.Iterator.Splits.{YieldsList-from_slice_split}
use Rattle.line_text.specs.Lines.{words_of, is_passed_over}
use Rattle.line_text.proofs.Pieces.{count-pieces}
use Rattle.batch_text.proofs.reader.count_commands.Goals as goal

pub returns : goal.returns
returns c =
    count_from_yields_List _ _ c.count.ensures.ran
    (YieldsList-from_filter _ (λ piece. not (is_passed_over (words_of piece)))
    (YieldsList-at c.filter.ensures.source (YieldsList-from_slice_split _ (λ byte. byte == 10) _ c.split.ensures.rest c.split.ensures.done c.split.ensures.closure (λ x b q k. search (rules, tests))))
    c.filter.ensures.closure (λ x b q k. search (rules, tests)))
    ∙ count-pieces c.args.text.now
