use Rattle.std.proofs.Common.{◌∙◌, rules, tests}
use Rattle.std.proofs.lemmas.Iterator.{YieldsList-from_slice}
use Rattle.std.proofs.lemmas.Iterator.Search.{find_from_yields_List}
use Rattle.std.specs.Str.{bytes_eq}
use Rattle.script_text.specs.Keywords.{keyword_text, keywords}
use Rattle.script_text.proofs.keyword.Keyword.named.Goals as goal

pub returns : goal.returns
returns c =
    c.copied.ensures
    ∙ find_from_yields_List (λ keyword. bytes_eq (keyword_text keyword) c.args.word.now) _ _ c.find.result c.find.ensures.ran
    (YieldsList-from_slice keywords c.iter.ensures.rest) (λ x b q k. search (rules, tests))
