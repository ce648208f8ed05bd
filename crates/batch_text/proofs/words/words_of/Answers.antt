use Rattle.std.proofs.Common.{◌∙◌, length, nat_lt, rules, tests}
use Rattle.std.proofs.lemmas.Iterator.Consumers.{YieldsList-turn, YieldsList-end, YieldsList-from_filter, YieldsList-at}
use Rattle.std.proofs.lemmas.Iterator.Splits.{YieldsList-from_slice_split}
use Rattle.std.specs.List.{list_all}
use Rattle.line_text.specs.Lines.{is_blank_in_line, words_of}
use Rattle.batch_text.specs.Commands.{is_word_byte}
use Rattle.batch_text.proofs.Plain.{passed_at}
use Rattle.batch_text.proofs.words.words_of.Goals as goal

pub string_of-requires : goal.string_of-requires
string_of-requires c =
    let turn =
    YieldsList-turn (YieldsList-at c.into_iter-word-iterator.ensures.into_iter_gives (YieldsList-from_filter _ (λ word. nat_lt 0 (length word))
    (YieldsList-at c.filter-word-items.ensures.source (YieldsList-from_slice_split _ is_blank_in_line _ c.split.ensures.rest c.split.ensures.done c.split.ensures.closure (λ x b q k. search (rules, tests))))
    c.filter-word-items.ensures.closure (λ x b q k. search (rules, tests))))
    c.words.yielded _ c.words.yielded_by _ _ c.in-Some.word c.in-Some.is c.next.ensures.steps in
    passed_at (list_all is_word_byte) (words_of c.args.line.now) (length c.words.yielded) c.in-Some.word.now c.requires turn.0 turn.1

pub returns : goal.returns
returns c =
    let end =
    YieldsList-end (YieldsList-at c.into_iter-word-iterator.ensures.into_iter_gives (YieldsList-from_filter _ (λ word. nat_lt 0 (length word))
    (YieldsList-at c.filter-word-items.ensures.source (YieldsList-from_slice_split _ is_blank_in_line _ c.split.ensures.rest c.split.ensures.done c.split.ensures.closure (λ x b q k. search (rules, tests))))
    c.filter-word-items.ensures.closure (λ x b q k. search (rules, tests))))
    c.words.yielded _ c.words.yielded_by _ _ c.in-None.is c.next.ensures.steps in
    c.words.invariant.2 ∙ end.0
