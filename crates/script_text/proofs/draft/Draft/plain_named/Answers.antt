use Rattle.std.proofs.Common.{◌≡◌, map, position, sym, ◌∙◌, rules, tests}
use Rattle.std.proofs.lemmas.Iterator.{YieldsList-from_slice, YieldsList-from_map_by}
use Rattle.std.proofs.lemmas.Iterator.Consumers.{YieldsList-from_filter, YieldsList-at}
use Rattle.std.proofs.lemmas.Iterator.Search.{position_from_yields_List}
use Rattle.std.specs.Str.{bytes_eq}
use Rattle.script_text.specs.Scripts.{is_plain, plain_inputs}
use Rattle.script_text.specs.Grammar.{plain_named}
use Rattle.script_text.proofs.draft.Draft.plain_named.Goals as goal

pub returns-in_err-plain : goal.returns-in_err-plain
unfolding plain_named
returns-in_err-plain c =
    let found : c.position.result ≡ position (λ other. bytes_eq other c.args.name.now) (map (λ input. input.name) (plain_inputs c.args.self.now.inputs.items))
    = position_from_yields_List (λ other. bytes_eq other c.args.name.now) _ _ c.position.result c.position.ensures.ran
    (YieldsList-from_map_by _ (λ name. name.now) (λ input. input.name)
    (YieldsList-at c.map.ensures.source (YieldsList-from_filter _ is_plain
    (YieldsList-at c.filter.ensures.source (YieldsList-from_slice c.args.self.now.inputs.items (c.iter.ensures.rest ∙ c.deref.ensures.value)))
    c.filter.ensures.closure (λ x b q k. search (rules, tests))))
    c.map.ensures.closure (λ x r q k. search rules))
    (λ x b q k. search (rules, tests)) in
    c.from_residual.ensures ∙ sym c.in_err-plain.was ∙ found

pub returns : goal.returns
unfolding plain_named
returns c =
    let found : c.position.result ≡ position (λ other. bytes_eq other c.args.name.now) (map (λ input. input.name) (plain_inputs c.args.self.now.inputs.items))
    = position_from_yields_List (λ other. bytes_eq other c.args.name.now) _ _ c.position.result c.position.ensures.ran
    (YieldsList-from_map_by _ (λ name. name.now) (λ input. input.name)
    (YieldsList-at c.map.ensures.source (YieldsList-from_filter _ is_plain
    (YieldsList-at c.filter.ensures.source (YieldsList-from_slice c.args.self.now.inputs.items (c.iter.ensures.rest ∙ c.deref.ensures.value)))
    c.filter.ensures.closure (λ x b q k. search (rules, tests))))
    c.map.ensures.closure (λ x r q k. search rules))
    (λ x b q k. search (rules, tests)) in
    sym c.in_ok-plain.was ∙ found
