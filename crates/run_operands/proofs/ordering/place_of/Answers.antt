use Rattle.std.proofs.Common.{◌≡◌, true, false, map, sym, ap, subst, ◌∙◌}
use Rattle.std.specs.Prelude.{is_none, None, Some, IfSome}
use Rattle.std.specs.String.{string_bytes}
use Rattle.command_model.specs.Bindings.{bound_names, place_bound}
use Rattle.run_operands.specs.Ordered.{IsPlaceOf}
use Rattle.run_operands.proofs.Places.{element_at}
use Rattle.run_operands.proofs.InOrder.{input_bound, place_is}
use Rattle.run_operands.proofs.ordering.place_of.Goals as goal

pub unreachable-requires : goal.unreachable-requires
unreachable-requires c =
    let words = map string_bytes c.args.words.now in
    let inputs = c.args.script.now.inputs in
    let one = element_at (λ input. c.input_name.result.now ≡ input.name) inputs c.args.input c.requires.input c.input_name.ensures in
    let none : place_bound (bound_names words) one.0.name ≡ None = ap (place_bound (bound_names words)) (sym one.1.1) ∙ sym c.place_bound.ensures ∙ c.in-None.is in
    let bound = input_bound c.args.script.now words c.args.input one.0 c.requires.matched.well_bound one.1.0 in
    let never : true ≡ false = sym (ap is_none none) ∙ bound in
    cc

pub returns-clause-of : goal.returns-clause-of
returns-clause-of c =
    let words = map string_bytes c.args.words.now in
    let inputs = c.args.script.now.inputs in
    let operands = c.args.operands.now in
    let one = element_at (λ input. c.input_name.result.now ≡ input.name) inputs c.args.input c.requires.input c.input_name.ensures in
    let placed : place_bound (bound_names words) one.0.name ≡ Some c.in-Some.place = ap (place_bound (bound_names words)) (sym one.1.1) ∙ sym c.place_bound.ensures ∙ c.in-Some.is in
    subst (λ found. IfSome found (λ i. IsPlaceOf c.args.script.now words operands i c.in-Some.place)) (sym one.1.0)
    (place_is c.args.script.now words operands c.args.input one.0 c.in-Some.place c.requires.sound c.requires.matched one.1.0 placed)
