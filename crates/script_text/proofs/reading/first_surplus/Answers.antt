use Rattle.std.proofs.Common.{◌≡◌, ℕ, ◌+◌, ap, sym, ◌∙◌, arith, rules, tests, position}
use Rattle.std.proofs.lemmas.Iterator.Search.{position_from_yields_List}
use Rattle.std.specs.List.{list_all}
use Rattle.std.specs.Option.{option_map}
use Rattle.std.specs.Char.{is_ascii_digit}
use Rattle.script_text.specs.Reading.{stretches}
use Rattle.script_text.proofs.Stretches.{YieldsList-from_windows}
use Rattle.script_text.proofs.reading.first_surplus.Goals as goal

pub returns-in_err-start : goal.returns-in_err-start
returns-in_err-start c =
    let found : c.position.result ≡ position (list_all is_ascii_digit) (stretches 21 c.args.text.now)
    = position_from_yields_List (list_all is_ascii_digit) _ _ c.position.result c.position.ensures.ran (YieldsList-from_windows 21 c.args.text.now c.windows.ensures.rest c.windows.ensures.size (omega arith)) (λ x b q k. search (rules, tests)) in
    c.from_residual.ensures ∙ ap (option_map (λ (start : ℕ). start + 20)) (sym c.in_err-start.was ∙ found)

pub returns : goal.returns
returns c =
    let found : c.position.result ≡ position (list_all is_ascii_digit) (stretches 21 c.args.text.now)
    = position_from_yields_List (list_all is_ascii_digit) _ _ c.position.result c.position.ensures.ran (YieldsList-from_windows 21 c.args.text.now c.windows.ensures.rest c.windows.ensures.size (omega arith)) (λ x b q k. search (rules, tests)) in
    ap (option_map (λ (start : ℕ). start + 20)) (sym c.in_ok-start.was ∙ found)
