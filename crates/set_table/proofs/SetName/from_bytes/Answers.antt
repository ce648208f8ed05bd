use Rattle.std.proofs.Common.{◌∙◌, rules, tests}
use Rattle.std.proofs.lemmas.Iterator.{YieldsList-from_slice}
use Rattle.std.proofs.lemmas.Iterator.Search.{find_from_yields_List}
use Rattle.std.specs.Str.{bytes_eq}
use Rattle.set_table.specs.Sets.{name_of, sets, set_named}
use Rattle.set_table.proofs.SetName.from_bytes.Goals as goal

pub returns : goal.returns
unfolding set_named
returns c =
    c.copied.ensures
    ∙ find_from_yields_List (λ set. bytes_eq c.args.name.now (name_of set)) _ _ c.find.result c.find.ensures.ran
    (YieldsList-from_slice sets c.iter.ensures.rest) (λ x b q k. search (rules, tests))
