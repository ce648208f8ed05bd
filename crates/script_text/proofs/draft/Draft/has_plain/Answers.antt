use Rattle.std.proofs.Common.{ℕ, nat_lt, ap, rules, tests, ◌∙◌}
use Rattle.std.proofs.lemmas.Iterator.{YieldsList-from_slice}
use Rattle.std.proofs.lemmas.Iterator.Consumers.{count_from_yields_List, YieldsList-from_filter, YieldsList-at}
use Rattle.script_text.specs.Scripts.{is_plain}
use Rattle.script_text.proofs.draft.Draft.has_plain.Goals as goal

pub returns : goal.returns
returns c =
    ap (λ (n : ℕ). nat_lt c.args.plain n)
    (count_from_yields_List _ _ c.count-plains.ensures.ran
    (YieldsList-from_filter _ is_plain
    (YieldsList-at c.filter.ensures.source (YieldsList-from_slice c.args.self.now.inputs.items (c.iter.ensures.rest ∙ c.deref.ensures.value)))
    c.filter.ensures.closure (λ x b q k. search (rules, tests))))
