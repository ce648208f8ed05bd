use Rattle.std.proofs.Common.{length, nat_lt, rules, tests}
use Rattle.std.proofs.lemmas.Iterator.Consumers.{YieldsList-from_filter, YieldsList-at}
use Rattle.std.proofs.lemmas.Iterator.Search.{all_from_yields_List}
use Rattle.std.proofs.lemmas.Iterator.Splits.{YieldsList-from_slice_split}
use Rattle.std.specs.List.{list_all}
use Rattle.line_text.specs.Lines.{is_blank_in_line}
use Rattle.batch_text.specs.Commands.{is_word_byte}
use Rattle.batch_text.proofs.words.are_plain.Goals as goal

pub returns : goal.returns
returns c =
    all_from_yields_List (list_all is_word_byte) _ _ c.all.result c.all.ensures.ran
    (YieldsList-from_filter _ (λ word. nat_lt 0 (length word))
    (YieldsList-at c.filter.ensures.source (YieldsList-from_slice_split _ is_blank_in_line _ c.split.ensures.rest c.split.ensures.done c.split.ensures.closure (λ x b q k. search (rules, tests))))
    c.filter.ensures.closure (λ x b q k. search (rules, tests)))
    (λ x b q k. search (rules, tests))
