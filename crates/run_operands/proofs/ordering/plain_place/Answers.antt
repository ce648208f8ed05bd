use Rattle.std.proofs.Common.{◌≡◌, map, sym, subst}
use Rattle.std.specs.Prelude.{IfSome}
use Rattle.std.specs.String.{string_bytes}
use Rattle.script_text.specs.declared.script.InputKind.TheVariants as input
use Rattle.run_operands.specs.Ordered.{IsPlaceOf, AreValuesOf}
use Rattle.run_operands.proofs.Places.{element_at}
use Rattle.run_operands.proofs.InOrder.{values_are}
use Rattle.run_operands.proofs.ordering.plain_place.Goals as goal

pub returns : goal.returns
returns c =
    let words = map string_bytes c.args.words.now in
    let operands = c.args.operands.now in
    let one = element_at (λ i. i.kind ≡ input.Plain) c.args.script.now.inputs c.args.input c.requires.input c.requires.is_plain in
    let is = subst (λ found. IfSome found (λ i. IsPlaceOf c.args.script.now words operands i c.place_of.result)) one.1.0 c.place_of.ensures.of in
    subst (λ found. IfSome found (λ i. AreValuesOf c.args.script.now words operands i c.place_of.result)) (sym one.1.0)
    (values_are c.args.script.now words operands one.0 c.place_of.result is one.1.1)
