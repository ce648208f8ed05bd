use Rattle.std.proofs.Common.{◌≡◌, ℕ, List, slice_index_or, [], ap, sym, ◌∙◌, subst, rules, tests}
use Rattle.std.specs.Prelude.{IfSome, slice_get}
use Rattle.std.proofs.lemmas.Iterator.{YieldsList-from_slice, YieldsList-from_map_by}
use Rattle.std.proofs.lemmas.Iterator.Consumers.{nth_from_yields_List, YieldsList-from_filter, YieldsList-from_chain, YieldsList-at}
use Rattle.script_text.specs.Scripts.{Script, is_cipher, cipher_inputs, names_of, shapes_of, register_names, register_lines, registers_of}
use Rattle.line_text.proofs.WordAt.{word_some, word_none}
use Rattle.script_text.proofs.Registers.{name_listed}
use Rattle.script_text.proofs.script.Script.register_name.Goals as goal

pub returns-in-Some-clause-value : goal.returns-in-Some-clause-value
returns-in-Some-clause-value c =
    c.as_str.ensures
    ∙ word_some (λ name. name.now) (names_of (cipher_inputs c.self.inside.inputs.items) c.self.inside.steps.items) c.args.register c.nth-name.result c.in-Some.name
    (nth_from_yields_List c.nth-name.result _ c.args.register c.nth-name.ensures.ran
    (YieldsList-from_chain
    (YieldsList-at c.chain.ensures.first (YieldsList-from_map_by _ (λ name. name.now) (λ input. input.name)
    (YieldsList-at c.map.ensures.source (YieldsList-from_filter _ is_cipher
    (YieldsList-at c.filter.ensures.source (YieldsList-from_slice c.self.inside.inputs.items (c.iter.ensures.rest ∙ c.deref.ensures.value)))
    c.filter.ensures.closure (λ x b q k. search (rules, tests))))
    c.map.ensures.closure (λ x r q k. search rules)))
    (YieldsList-at c.chain.ensures.second (YieldsList-from_map_by _ (λ name. name.now) (λ step. step.name)
    (YieldsList-at c.map-2.ensures.source (YieldsList-from_slice c.self.inside.steps.items (c.iter-2.ensures.rest ∙ c.deref-2.ensures.value)))
    c.map-2.ensures.closure (λ x r q k. search rules)))
    c.chain.ensures.first_done c.chain.ensures.second_done))
    c.in-Some.is
    ∙ ap (λ (s : Script). slice_index_or (register_names s) c.args.register []) c.self.view_is

pub returns-in-None-clause-value : goal.returns-in-None-clause-value
returns-in-None-clause-value c =
    word_none (λ name. name.now) (names_of (cipher_inputs c.self.inside.inputs.items) c.self.inside.steps.items) c.args.register c.nth-name.result
    (nth_from_yields_List c.nth-name.result _ c.args.register c.nth-name.ensures.ran
    (YieldsList-from_chain
    (YieldsList-at c.chain.ensures.first (YieldsList-from_map_by _ (λ name. name.now) (λ input. input.name)
    (YieldsList-at c.map.ensures.source (YieldsList-from_filter _ is_cipher
    (YieldsList-at c.filter.ensures.source (YieldsList-from_slice c.self.inside.inputs.items (c.iter.ensures.rest ∙ c.deref.ensures.value)))
    c.filter.ensures.closure (λ x b q k. search (rules, tests))))
    c.map.ensures.closure (λ x r q k. search rules)))
    (YieldsList-at c.chain.ensures.second (YieldsList-from_map_by _ (λ name. name.now) (λ step. step.name)
    (YieldsList-at c.map-2.ensures.source (YieldsList-from_slice c.self.inside.steps.items (c.iter-2.ensures.rest ∙ c.deref-2.ensures.value)))
    c.map-2.ensures.closure (λ x r q k. search rules)))
    c.chain.ensures.first_done c.chain.ensures.second_done))
    c.in-None.is
    ∙ ap (λ (s : Script). slice_index_or (register_names s) c.args.register []) c.self.view_is

pub returns-in-Some-clause-listed : goal.returns-in-Some-clause-listed
returns-in-Some-clause-listed c =
    let script = c.args.self.now in
    subst (λ (name : List ℕ). IfSome (slice_get (registers_of script) c.args.register) (λ listed. name ≡ listed.name)) (sym (returns-in-Some-clause-value c))
    (name_listed (register_names script) (register_lines script) (shapes_of script.inputs script.steps) c.args.register)

pub returns-in-None-clause-listed : goal.returns-in-None-clause-listed
returns-in-None-clause-listed c =
    let script = c.args.self.now in
    subst (λ (name : List ℕ). IfSome (slice_get (registers_of script) c.args.register) (λ listed. name ≡ listed.name)) (sym (returns-in-None-clause-value c))
    (name_listed (register_names script) (register_lines script) (shapes_of script.inputs script.steps) c.args.register)
