use Rattle.std.proofs.Common.{◌≡◌, ◌+◌, map, sym, subst}
use Rattle.std.specs.Prelude.{IfSome}
use Rattle.std.specs.String.{string_bytes}
use Rattle.script_text.specs.declared.script.InputKind.TheVariants as input
use Rattle.run_operands.specs.Ordered.{IsPlaceOf, IsCipherOf}
use Rattle.run_operands.specs.declared.bound_files.Operand.TheVariants.{Cipher, Values}
use Rattle.run_operands.proofs.Places.{element_at, item_there}
use Rattle.run_operands.proofs.InOrder.{cipher_is, no_values}
use Rattle.run_operands.proofs.ordering.cipher_bound.Goals as goal

pub unreachable-requires : goal.unreachable-requires
unreachable-requires c =
    let words = map string_bytes c.args.words.now in
    let operands = c.args.operands.now in
    let place = c.place_of-place.result in
    let one = element_at (λ i. i.kind ≡ input.Cipher) c.args.script.now.inputs c.args.input c.requires.input c.requires.is_cipher in
    let is = subst (λ found. IfSome found (λ i. IsPlaceOf c.args.script.now words operands i place)) one.1.0 c.place_of-place.ensures.of in
    let at = item_there operands place c.index-operands-place.result (Values c.in-Values.field-0) c.place_of-place.ensures.within c.index-operands-place.is c.in-Values.is in
    no_values c.args.script.now words operands one.0 place c.in-Values.field-0 is one.1.1 at

pub returns : goal.returns
returns c =
    let words = map string_bytes c.args.words.now in
    let operands = c.args.operands.now in
    let place = c.place_of-place.result in
    let one = element_at (λ i. i.kind ≡ input.Cipher) c.args.script.now.inputs c.args.input c.requires.input c.requires.is_cipher in
    let is = subst (λ found. IfSome found (λ i. IsPlaceOf c.args.script.now words operands i place)) one.1.0 c.place_of-place.ensures.of in
    let at = item_there operands place c.index-operands-place.result (Cipher c.in-Cipher.head) c.place_of-place.ensures.within c.index-operands-place.is c.in-Cipher.is in
    subst (λ found. IfSome found (λ i. IsCipherOf c.args.script.now words operands i (record { word = 3 + place; head = c.in-Cipher.head }))) (sym one.1.0)
    (cipher_is c.args.script.now words operands one.0 place c.in-Cipher.head c.requires.matched is one.1.1 at)
