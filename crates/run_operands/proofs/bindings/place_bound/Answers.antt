use Rattle.std.proofs.Common.{◌≡◌, ◌-◌, position, length, drop, ◌∙◌, rules, tests, arith}
use Rattle.std.proofs.lemmas.List.{take_all, length-drop}
use Rattle.std.proofs.lemmas.Iterator.{YieldsList-from_slice}
use Rattle.std.proofs.lemmas.Iterator.Search.{position_from_yields_List}
use Rattle.std.specs.Str.{bytes_eq}
use Rattle.std.specs.String.{string_bytes}
use Rattle.command_words.specs.Form.{binding_name}
use Rattle.run_operands.proofs.BoundWords.{place_of_words}
use Rattle.run_operands.proofs.bindings.place_bound.Goals as goal

pub returns : goal.returns
returns c =
    let found : c.position.result ≡ position (λ word. bytes_eq (binding_name (string_bytes word)) c.args.name.now) (drop 3 c.args.words.now)
    = position_from_yields_List (λ word. bytes_eq (binding_name (string_bytes word)) c.args.name.now) _ _ c.position.result c.position.ensures.ran
    (YieldsList-from_slice (drop 3 c.args.words.now) (c.iter.ensures.rest ∙ take_all (length c.args.words.now - 3) (drop 3 c.args.words.now) (omega (arith, length-drop 3 c.args.words.now))))
    (λ x b q k. search (rules, tests)) in
    found ∙ place_of_words c.args.name.now c.args.words.now
