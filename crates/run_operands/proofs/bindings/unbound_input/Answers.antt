use Rattle.std.proofs.Common.{◌≡◌, ◌<◌, true, length, map, sym, ap, ◌∙◌, arith, rules, tests}
use Rattle.std.specs.Prelude.{is_none}
use Rattle.std.specs.Option.{option_map}
use Rattle.std.specs.String.{string_bytes}
use Rattle.command_words.specs.declared.status.BindingFault.TheVariants.{Unbound}
use Rattle.command_model.specs.Bindings.{bound_names, place_bound}
use Rattle.run_operands.proofs.Places.{position_is, position_none, element_at}
use Rattle.run_operands.proofs.bindings.unbound_input.Goals as goal

pub returns-then-is_none : goal.returns-then-is_none
returns-then-is_none c =
    let inputs = c.args.script.now.inputs in
    let names = bound_names (map string_bytes c.args.words.now) in
    let within : c.loop-input.input < length inputs = omega arith in
    let at = element_at (λ input. c.input_name.result.now ≡ input.name) inputs c.loop-input.input within c.input_name.ensures in
    let none : is_none c.place_bound.result ≡ true = search (rules, tests) in
    let passes : is_none (place_bound names at.0.name) ≡ true =
    ap (λ name. is_none (place_bound names name)) (sym at.1.1) ∙ ap is_none (sym c.place_bound.ensures) ∙ none in
    ap (option_map Unbound) (sym (position_is (λ input. is_none (place_bound names input.name)) inputs c.loop-input.input at.0 at.1.0 passes c.loop-input.invariant))

pub returns : goal.returns
returns c =
    let names = bound_names (map string_bytes c.args.words.now) in
    ap (option_map Unbound) (sym (position_none (λ input. is_none (place_bound names input.name)) c.args.script.now.inputs
    (λ k input below at. c.loop-input.invariant k input (omega arith) at)))
