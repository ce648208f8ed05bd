use Rattle.std.proofs.Common.{◌≡◌, position, sym, ◌∙◌, rules, tests}
use Rattle.std.proofs.lemmas.Iterator.{YieldsList-from_slice, YieldsList-from_map_by}
use Rattle.std.proofs.lemmas.Iterator.Consumers.{YieldsList-from_filter, YieldsList-from_chain, YieldsList-at}
use Rattle.std.proofs.lemmas.Iterator.Search.{position_from_yields_List}
use Rattle.std.specs.Str.{bytes_eq}
use Rattle.script_text.specs.Scripts.{is_cipher, cipher_inputs, names_of}
use Rattle.script_text.specs.Grammar.{register_named}
use Rattle.script_text.proofs.draft.Draft.register_named.Goals as goal

pub returns-in_err-register : goal.returns-in_err-register
unfolding register_named
returns-in_err-register c =
    let found : c.position.result ≡ position (λ other. bytes_eq other c.args.name.now) (names_of (cipher_inputs c.args.self.now.inputs.items) c.args.self.now.steps.items)
    = position_from_yields_List (λ other. bytes_eq other c.args.name.now) _ _ c.position.result c.position.ensures.ran
    (YieldsList-from_chain
    (YieldsList-at c.chain.ensures.first (YieldsList-from_map_by _ (λ name. name.now) (λ input. input.name)
    (YieldsList-at c.map.ensures.source (YieldsList-from_filter _ is_cipher
    (YieldsList-at c.filter.ensures.source (YieldsList-from_slice c.args.self.now.inputs.items (c.iter.ensures.rest ∙ c.deref.ensures.value)))
    c.filter.ensures.closure (λ x b q k. search (rules, tests))))
    c.map.ensures.closure (λ x r q k. search rules)))
    (YieldsList-at c.chain.ensures.second (YieldsList-from_map_by _ (λ name. name.now) (λ step. step.name)
    (YieldsList-at c.map-2.ensures.source (YieldsList-from_slice c.args.self.now.steps.items (c.iter-2.ensures.rest ∙ c.deref-2.ensures.value)))
    c.map-2.ensures.closure (λ x r q k. search rules)))
    c.chain.ensures.first_done c.chain.ensures.second_done)
    (λ x b q k. search (rules, tests)) in
    c.from_residual.ensures ∙ sym c.in_err-register.was ∙ found

pub returns : goal.returns
unfolding register_named
returns c =
    let found : c.position.result ≡ position (λ other. bytes_eq other c.args.name.now) (names_of (cipher_inputs c.args.self.now.inputs.items) c.args.self.now.steps.items)
    = position_from_yields_List (λ other. bytes_eq other c.args.name.now) _ _ c.position.result c.position.ensures.ran
    (YieldsList-from_chain
    (YieldsList-at c.chain.ensures.first (YieldsList-from_map_by _ (λ name. name.now) (λ input. input.name)
    (YieldsList-at c.map.ensures.source (YieldsList-from_filter _ is_cipher
    (YieldsList-at c.filter.ensures.source (YieldsList-from_slice c.args.self.now.inputs.items (c.iter.ensures.rest ∙ c.deref.ensures.value)))
    c.filter.ensures.closure (λ x b q k. search (rules, tests))))
    c.map.ensures.closure (λ x r q k. search rules)))
    (YieldsList-at c.chain.ensures.second (YieldsList-from_map_by _ (λ name. name.now) (λ step. step.name)
    (YieldsList-at c.map-2.ensures.source (YieldsList-from_slice c.args.self.now.steps.items (c.iter-2.ensures.rest ∙ c.deref-2.ensures.value)))
    c.map-2.ensures.closure (λ x r q k. search rules)))
    c.chain.ensures.first_done c.chain.ensures.second_done)
    (λ x b q k. search (rules, tests)) in
    sym c.in_ok-register.was ∙ found
