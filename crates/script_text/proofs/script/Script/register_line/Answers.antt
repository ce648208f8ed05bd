use Rattle.std.proofs.Common.{◌≡◌, ℕ, ◌++◌, map, slice_index, ap, sym, ◌∙◌, subst, rules, tests}
use Rattle.std.specs.Prelude.{IfSome, slice_get}
use Rattle.std.proofs.lemmas.Iterator.{YieldsList-from_slice, YieldsList-from_map_by}
use Rattle.std.proofs.lemmas.Iterator.Consumers.{nth_from_yields_List, YieldsList-from_filter, YieldsList-from_chain, YieldsList-at}
use Rattle.script_text.specs.declared.script.Input.{Input}
use Rattle.script_text.specs.declared.script.Step.{Step}
use Rattle.script_text.specs.Scripts.{Script, is_cipher, cipher_inputs, shapes_of, register_names, register_lines, registers_of}
use Rattle.script_text.proofs.Registers.{line_listed, number_some, number_none}
use Rattle.script_text.proofs.script.Script.register_line.Goals as goal

pub returns-in-Some-clause-value : goal.returns-in-Some-clause-value
returns-in-Some-clause-value c =
    number_some (map (λ (input : Input). input.line) (cipher_inputs c.self.inside.inputs.items) ++ map (λ (step : Step). step.line) c.self.inside.steps.items) c.args.register c.nth-line.result c.in-Some.line
    (nth_from_yields_List c.nth-line.result _ c.args.register c.nth-line.ensures.ran
    (YieldsList-from_chain
    (YieldsList-at c.chain.ensures.first (YieldsList-from_map_by _ (λ line. line) (λ input. input.line)
    (YieldsList-at c.map.ensures.source (YieldsList-from_filter _ is_cipher
    (YieldsList-at c.filter.ensures.source (YieldsList-from_slice c.self.inside.inputs.items (c.iter.ensures.rest ∙ c.deref.ensures.value)))
    c.filter.ensures.closure (λ x b q k. search (rules, tests))))
    c.map.ensures.closure (λ x r q k. search rules)))
    (YieldsList-at c.chain.ensures.second (YieldsList-from_map_by _ (λ line. line) (λ step. step.line)
    (YieldsList-at c.map-2.ensures.source (YieldsList-from_slice c.self.inside.steps.items (c.iter-2.ensures.rest ∙ c.deref-2.ensures.value)))
    c.map-2.ensures.closure (λ x r q k. search rules)))
    c.chain.ensures.first_done c.chain.ensures.second_done))
    c.in-Some.is
    ∙ ap (λ (s : Script). slice_index (register_lines s) c.args.register) c.self.view_is

pub returns-in-None-clause-value : goal.returns-in-None-clause-value
returns-in-None-clause-value c =
    number_none (map (λ (input : Input). input.line) (cipher_inputs c.self.inside.inputs.items) ++ map (λ (step : Step). step.line) c.self.inside.steps.items) c.args.register c.nth-line.result
    (nth_from_yields_List c.nth-line.result _ c.args.register c.nth-line.ensures.ran
    (YieldsList-from_chain
    (YieldsList-at c.chain.ensures.first (YieldsList-from_map_by _ (λ line. line) (λ input. input.line)
    (YieldsList-at c.map.ensures.source (YieldsList-from_filter _ is_cipher
    (YieldsList-at c.filter.ensures.source (YieldsList-from_slice c.self.inside.inputs.items (c.iter.ensures.rest ∙ c.deref.ensures.value)))
    c.filter.ensures.closure (λ x b q k. search (rules, tests))))
    c.map.ensures.closure (λ x r q k. search rules)))
    (YieldsList-at c.chain.ensures.second (YieldsList-from_map_by _ (λ line. line) (λ step. step.line)
    (YieldsList-at c.map-2.ensures.source (YieldsList-from_slice c.self.inside.steps.items (c.iter-2.ensures.rest ∙ c.deref-2.ensures.value)))
    c.map-2.ensures.closure (λ x r q k. search rules)))
    c.chain.ensures.first_done c.chain.ensures.second_done))
    c.in-None.is
    ∙ ap (λ (s : Script). slice_index (register_lines s) c.args.register) c.self.view_is

pub returns-in-Some-clause-listed : goal.returns-in-Some-clause-listed
returns-in-Some-clause-listed c =
    let script = c.args.self.now in
    subst (λ (line : ℕ). IfSome (slice_get (registers_of script) c.args.register) (λ listed. line ≡ listed.line)) (sym (returns-in-Some-clause-value c))
    (line_listed (register_names script) (register_lines script) (shapes_of script.inputs script.steps) c.args.register)

pub returns-in-None-clause-listed : goal.returns-in-None-clause-listed
returns-in-None-clause-listed c =
    let script = c.args.self.now in
    subst (λ (line : ℕ). IfSome (slice_get (registers_of script) c.args.register) (λ listed. line ≡ listed.line)) (sym (returns-in-None-clause-value c))
    (line_listed (register_names script) (register_lines script) (shapes_of script.inputs script.steps) c.args.register)
