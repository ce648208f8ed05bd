use Rattle.std.proofs.Common.{◌≡◌, ◌<◌, ◌+◌, [], ◌∷◌, ◌++◌, List, rules, length, map, take, sym, ap, subst, ◌∙◌, arith}
use Rattle.std.specs.Prelude.{IfSome}
use Rattle.std.specs.List.{AllZip}
use Rattle.script_text.specs.declared.script.InputKind.TheVariants as input
use Rattle.std.specs.String.{string_bytes}
use Rattle.std.proofs.lemmas.List.{take_all}
use Rattle.std.proofs.lemmas.Slice.Zip.{AllZip-long}
use Rattle.script_text.specs.declared.script.Input.{Input}
use Rattle.script_text.specs.Scripts.{plain_inputs, is_plain}
use Rattle.run_operands.specs.Ordered.{AreValuesOf}
use Rattle.run_operands.proofs.Places.{element_at}
use Rattle.run_operands.proofs.InOrder.{zip_passed, zip_failed, plain_is_plain, cipher_no_plain, plains_bound}
use Rattle.run_operands.proofs.ordering.plain_places.Goals as goal
use Rattle.run_operands.proofs.ordering.plain_places.Goals.{in-Plain+in_ok-push-in-Plain, in-Cipher}

pub loop-input-preserved : goal.loop-input-preserved
loop-input-preserved c =
    let words = map string_bytes c.args.words.now in
    let inputs = c.args.script.now.inputs in
    let operands = c.args.operands.now in
    let place = c.loop-input.input in
    let within : place < length inputs = omega arith in
    let one = element_at (λ i. c.input_kind.result ≡ i.kind) inputs place within c.input_kind.ensures in
    elim c.match-input_kind.branch [
      | in-Cipher w ↦
          let kind : one.0.kind ≡ input.Cipher = sym one.1.1 ∙ w.in-Cipher.is in
          let items : c.match-input_kind.places.items ≡ c.loop-input.places.items = ap (λ v. v.items) w.places-is in
          subst (λ found. AllZip (AreValuesOf c.args.script.now words operands) (plain_inputs (take (place + 1) inputs)) found) (sym items)
          (zip_failed (AreValuesOf c.args.script.now words operands) is_plain inputs place one.0 c.loop-input.places.items one.1.0 (cipher_no_plain one.0 kind) c.loop-input.invariant)
      | in-Plain+in_ok-push-in-Plain w ↦
          let kind : one.0.kind ≡ input.Plain = sym one.1.1 ∙ w.in-Plain.is in
          let is = subst (λ found. IfSome found (λ i. AreValuesOf c.args.script.now words operands i w.plain_place.result)) one.1.0 w.plain_place.ensures in
          let items : c.match-input_kind.places.items ≡ c.loop-input.places.items ++ w.plain_place.result ∷ [] = search rules in
          subst (λ found. AllZip (AreValuesOf c.args.script.now words operands) (plain_inputs (take (place + 1) inputs)) found) (sym items)
          (zip_passed (AreValuesOf c.args.script.now words operands) is_plain inputs place one.0 c.loop-input.places.items w.plain_place.result one.1.0 (plain_is_plain one.0 kind) c.loop-input.invariant is)
    ]

pub returns-clause-count : goal.returns-clause-count
returns-clause-count c =
    let inputs = c.args.script.now.inputs in
    let all : take c.loop-input.input inputs ≡ inputs = take_all c.loop-input.input inputs (omega arith) in
    AllZip-long (AreValuesOf c.args.script.now (map string_bytes c.args.words.now) c.args.operands.now) (plain_inputs (take c.loop-input.input inputs)) c.loop-input.places.items c.loop-input.invariant
    ∙ ap (λ (is : List Input). length (plain_inputs is)) all

pub returns-clause-values : goal.returns-clause-values
returns-clause-values c =
    let words = map string_bytes c.args.words.now in
    let inputs = c.args.script.now.inputs in
    let all : take c.loop-input.input inputs ≡ inputs = take_all c.loop-input.input inputs (omega arith) in
    let zip = subst (λ (is : List Input). AllZip (AreValuesOf c.args.script.now words c.args.operands.now) (plain_inputs is) c.loop-input.places.items) all c.loop-input.invariant in
    plains_bound c.args.script.now words c.args.operands.now c.loop-input.places.items zip
