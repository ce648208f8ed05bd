use Rattle.std.proofs.Common.{map, slice_index_or, [], ap, ◌∙◌, rules, tests}
use Rattle.std.proofs.lemmas.Iterator.{YieldsList-from_slice, YieldsList-from_map_by}
use Rattle.std.proofs.lemmas.Iterator.Consumers.{nth_from_yields_List, YieldsList-from_filter, YieldsList-at}
use Rattle.script_text.specs.declared.script.Input.{Input}
use Rattle.script_text.specs.Scripts.{Script, is_plain, plain_inputs}
use Rattle.script_text.specs.Printed.{plain_names}
use Rattle.line_text.proofs.WordAt.{word_some, word_none}
use Rattle.script_text.proofs.script.Script.plain_name.Goals as goal

pub returns-in-Some : goal.returns-in-Some
returns-in-Some c =
    c.as_str.ensures
    ∙ word_some (λ name. name.now) (map (λ (i : Input). i.name) (plain_inputs c.self.inside.inputs.items)) c.args.plain c.nth-name.result c.in-Some.name
    (nth_from_yields_List c.nth-name.result _ c.args.plain c.nth-name.ensures.ran
    (YieldsList-from_map_by _ (λ name. name.now) (λ input. input.name)
    (YieldsList-at c.map.ensures.source (YieldsList-from_filter _ is_plain
    (YieldsList-at c.filter.ensures.source (YieldsList-from_slice c.self.inside.inputs.items (c.iter.ensures.rest ∙ c.deref.ensures.value)))
    c.filter.ensures.closure (λ x b q k. search (rules, tests))))
    c.map.ensures.closure (λ x r q k. search rules)))
    c.in-Some.is
    ∙ ap (λ (s : Script). slice_index_or (plain_names s) c.args.plain []) c.self.view_is

pub returns-in-None : goal.returns-in-None
returns-in-None c =
    word_none (λ name. name.now) (map (λ (i : Input). i.name) (plain_inputs c.self.inside.inputs.items)) c.args.plain c.nth-name.result
    (nth_from_yields_List c.nth-name.result _ c.args.plain c.nth-name.ensures.ran
    (YieldsList-from_map_by _ (λ name. name.now) (λ input. input.name)
    (YieldsList-at c.map.ensures.source (YieldsList-from_filter _ is_plain
    (YieldsList-at c.filter.ensures.source (YieldsList-from_slice c.self.inside.inputs.items (c.iter.ensures.rest ∙ c.deref.ensures.value)))
    c.filter.ensures.closure (λ x b q k. search (rules, tests))))
    c.map.ensures.closure (λ x r q k. search rules)))
    c.in-None.is
    ∙ ap (λ (s : Script). slice_index_or (plain_names s) c.args.plain []) c.self.view_is
