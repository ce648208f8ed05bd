use Rattle.std.proofs.Common.{◌≡◌, ◌<◌, ◌-◌, List, ℕ, true, false, length, take, map, sym, ap, ◌∙◌, arith, rules, tests}
use Rattle.std.specs.Prelude.{is_none, is_some}
use Rattle.std.specs.String.{string_bytes}
use Rattle.std.proofs.lemmas.List.{length-map}
use Rattle.command_words.specs.Form.{binding_name}
use Rattle.command_words.specs.Line.{word_at}
use Rattle.command_model.specs.Bindings.{bound_names, input_named, place_bound}
use Rattle.run_operands.proofs.BoundWords.{names_before, binding_fault_is}
use Rattle.run_operands.proofs.bindings.binding_fault.Goals as goal

pub returns-then-is_some : goal.returns-then-is_some
returns-then-is_some c =
    let words = map string_bytes c.args.words.now in
    let name = binding_name (word_at words c.args.word) in
    let within : c.args.word < length words = omega (arith, length-map c.args.words.now string_bytes) in
    let found : is_none c.input_named.result ≡ false = search (rules, tests) in
    let missing : is_none (input_named c.args.script.now name) ≡ false =
    ap (λ n. is_none (input_named c.args.script.now n)) (sym c.name_bound-name.ensures) ∙ ap is_none (sym c.input_named.ensures) ∙ found in
    let bound : is_some (place_bound (take (c.args.word - 3) (bound_names words)) name) ≡ true =
    ap (λ (names : List (List ℕ)). is_some (place_bound names name)) (sym (names_before c.args.words.now c.args.word c.requires.behind))
    ∙ ap (λ n. is_some (place_bound (bound_names (map string_bytes (take c.args.word c.args.words.now))) n)) (sym c.name_bound-name.ensures)
    ∙ ap is_some (sym c.place_bound.ensures) ∙ sym c.is_some.ensures ∙ c.if-is_some.true in
    sym (binding_fault_is c.args.script.now words c.args.word name false true c.requires.behind within missing bound)

pub returns : goal.returns
returns c =
    let words = map string_bytes c.args.words.now in
    let name = binding_name (word_at words c.args.word) in
    let within : c.args.word < length words = omega (arith, length-map c.args.words.now string_bytes) in
    let found : is_none c.input_named.result ≡ false = search (rules, tests) in
    let missing : is_none (input_named c.args.script.now name) ≡ false =
    ap (λ n. is_none (input_named c.args.script.now n)) (sym c.name_bound-name.ensures) ∙ ap is_none (sym c.input_named.ensures) ∙ found in
    let bound : is_some (place_bound (take (c.args.word - 3) (bound_names words)) name) ≡ false =
    ap (λ (names : List (List ℕ)). is_some (place_bound names name)) (sym (names_before c.args.words.now c.args.word c.requires.behind))
    ∙ ap (λ n. is_some (place_bound (bound_names (map string_bytes (take c.args.word c.args.words.now))) n)) (sym c.name_bound-name.ensures)
    ∙ ap is_some (sym c.place_bound.ensures) ∙ sym c.is_some.ensures ∙ c.if-is_some.false in
    sym (binding_fault_is c.args.script.now words c.args.word name false false c.requires.behind within missing bound)
