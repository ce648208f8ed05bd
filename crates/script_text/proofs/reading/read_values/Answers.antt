use Rattle.std.proofs.Common.{◌≡◌, ◌≤◌, ◌-◌, ◌++◌, ℕ, List, nat_le, position, length, take, replicate, Ok, Err, None, Some, Option, ap, sym, ◌∙◌, arith}
use Rattle.std.proofs.lemmas.List.{take_all}
use Rattle.std.specs.Option.{option_map}
use Rattle.script_text.specs.Reading.{values_unless, numbers}
use Rattle.script_text.specs.declared.faults.ValuePlace.{ValuePlace}
use Rattle.script_text.specs.declared.faults.ValuePlace.TheVariants.{TooLarge}
use Rattle.script_text.proofs.Saturated.{position-saturated, map-saturated, values_decide}
use Rattle.script_text.proofs.reading.read_values.Goals as goal

-- values, filled up to n of them
filled : (n count : ℕ) (items values : List ℕ) → items ≡ values → length values ≤ n → count ≡ length items → take n items ++ replicate (n - count) 0 ≡ values ++ replicate (n - length values) 0
filled n count items values same few counted =
    let whole : take n items ≡ items = take_all n items (omega (arith, ap length same)) in
    cc

pub returns-in-Some-first_too_large-clause-bad : goal.returns-in-Some-first_too_large-clause-bad
returns-in-Some-first_too_large-clause-bad c = λ place told.
    let decide = values_decide c.args.text.now c.args.n c.args.t (omega arith) (sym c.first_bad.ensures ∙ c.in_default.is) (omega arith) in
    let uncut = position-saturated 18446744073709551615 c.args.t (numbers c.args.text.now) (omega arith) in
    let read = ap (λ (values : List ℕ). position (λ value. nat_le c.args.t value) values) (c.deref.ensures.value ∙ c.in_ok-values.ensures) in
    let found : position (λ value. nat_le c.args.t value) (numbers c.args.text.now) ≡ Some c.in-Some-first_too_large.index = sym uncut ∙ sym read ∙ sym c.first_too_large.ensures ∙ c.in-Some-first_too_large.is in
    let at_place : TooLarge c.in-Some-first_too_large.index ≡ place = cc in
    decide
    ∙ ap (λ (index : Option ℕ). values_unless (option_map TooLarge index) (numbers c.args.text.now ++ replicate (c.args.n - length (numbers c.args.text.now)) 0)) found
    ∙ ap (λ (p : ValuePlace). Err p) at_place

pub returns-clause-values : goal.returns-clause-values
returns-clause-values c =
    let few : length (numbers c.args.text.now) ≤ c.args.n = omega arith in
    let fits : c.args.t ≤ 18446744073709551615 = omega arith in
    let decide = values_decide c.args.text.now c.args.n c.args.t (omega arith) (sym c.first_bad.ensures ∙ c.in_default.is) few in
    let uncut = position-saturated 18446744073709551615 c.args.t (numbers c.args.text.now) fits in
    let read = ap (λ (values : List ℕ). position (λ value. nat_le c.args.t value) values) (c.deref.ensures.value ∙ c.in_ok-values.ensures) in
    let none : position (λ value. nat_le c.args.t value) (numbers c.args.text.now) ≡ None = sym uncut ∙ sym read ∙ sym c.first_too_large.ensures ∙ c.in_default-first_too_large.is in
    let items : c.in_ok-values.values.items ≡ numbers c.args.text.now = c.in_ok-values.ensures ∙ map-saturated _ c.args.t _ fits none in
    decide
    ∙ ap (λ (index : Option ℕ). values_unless (option_map TooLarge index) (numbers c.args.text.now ++ replicate (c.args.n - length (numbers c.args.text.now)) 0)) none
    ∙ ap (λ (values : List ℕ). Ok values) (sym (c.in_ok-resize.ensures.items ∙ filled c.args.n _ _ (numbers c.args.text.now) items few c.in_ok-values.values.ok.0))
