use Rattle.std.proofs.Common.{◌≡◌, ◌<◌, ◌+◌, [], ◌∷◌, ◌++◌, List, rules, length, map, take, sym, ap, subst, ◌∙◌, arith}
use Rattle.std.specs.Prelude.{IfSome}
use Rattle.std.specs.List.{AllZip}
use Rattle.script_text.specs.declared.script.InputKind.TheVariants as input
use Rattle.std.specs.String.{string_bytes}
use Rattle.std.proofs.lemmas.List.{take_all, length-map}
use Rattle.std.proofs.lemmas.Slice.Zip.{AllZip-long}
use Rattle.script_text.specs.declared.script.Input.{Input}
use Rattle.script_text.specs.Scripts.{cipher_inputs, is_cipher}
use Rattle.run_operands.specs.BoundFiles.{MayBeBound}
use Rattle.run_operands.specs.Ordered.{IsCipherOf}
use Rattle.run_operands.proofs.Places.{element_at}
use Rattle.run_operands.proofs.InOrder.{zip_passed, zip_failed, cipher_is_cipher, plain_no_cipher, ciphers_bound, ciphers_held, ciphers_stated}
use Rattle.run_operands.proofs.ordering.ciphers_in_order.Goals as goal
use Rattle.run_operands.proofs.ordering.ciphers_in_order.Goals.{in-Cipher+in_ok-push-in-Cipher, in-Plain}

pub loop-input-preserved : goal.loop-input-preserved
loop-input-preserved c =
    let words = map string_bytes c.args.words.now in
    let inputs = c.args.script.now.inputs in
    let operands = c.args.operands.now in
    let place = c.loop-input.input in
    let within : place < length inputs = omega arith in
    let one = element_at (λ i. c.input_kind.result ≡ i.kind) inputs place within c.input_kind.ensures in
    elim c.match-input_kind.branch [
      | in-Cipher+in_ok-push-in-Cipher w ↦
          let kind : one.0.kind ≡ input.Cipher = sym one.1.1 ∙ w.in-Cipher.is in
          let is = subst (λ found. IfSome found (λ i. IsCipherOf c.args.script.now words operands i w.cipher_bound.result)) one.1.0 w.cipher_bound.ensures in
          let items : c.match-input_kind.ciphers.items ≡ c.loop-input.ciphers.items ++ w.cipher_bound.result ∷ [] = search rules in
          subst (λ found. AllZip (IsCipherOf c.args.script.now words operands) (cipher_inputs (take (place + 1) inputs)) found) (sym items)
          (zip_passed (IsCipherOf c.args.script.now words operands) is_cipher inputs place one.0 c.loop-input.ciphers.items w.cipher_bound.result one.1.0 (cipher_is_cipher one.0 kind) c.loop-input.invariant is)
      | in-Plain w ↦
          let kind : one.0.kind ≡ input.Plain = sym one.1.1 ∙ w.in-Plain.is in
          let items : c.match-input_kind.ciphers.items ≡ c.loop-input.ciphers.items = ap (λ v. v.items) w.ciphers-is in
          subst (λ found. AllZip (IsCipherOf c.args.script.now words operands) (cipher_inputs (take (place + 1) inputs)) found) (sym items)
          (zip_failed (IsCipherOf c.args.script.now words operands) is_cipher inputs place one.0 c.loop-input.ciphers.items one.1.0 (plain_no_cipher one.0 kind) c.loop-input.invariant)
    ]

pub returns-clause-count : goal.returns-clause-count
returns-clause-count c =
    let inputs = c.args.script.now.inputs in
    let all : take c.loop-input.input inputs ≡ inputs = take_all c.loop-input.input inputs (omega arith) in
    AllZip-long (IsCipherOf c.args.script.now (map string_bytes c.args.words.now) c.args.operands.now) (cipher_inputs (take c.loop-input.input inputs)) c.loop-input.ciphers.items c.loop-input.invariant
    ∙ ap (λ (is : List Input). length (cipher_inputs is)) all

pub returns-clause-bound : goal.returns-clause-bound
returns-clause-bound c = λ r cipher at.
    let words = map string_bytes c.args.words.now in
    let inputs = c.args.script.now.inputs in
    let all : take c.loop-input.input inputs ≡ inputs = take_all c.loop-input.input inputs (omega arith) in
    let zip = subst (λ (is : List Input). AllZip (IsCipherOf c.args.script.now words c.args.operands.now) (cipher_inputs is) c.loop-input.ciphers.items) all c.loop-input.invariant in
    subst (λ count. MayBeBound c.args.script.now.set count cipher) (length-map c.args.words.now string_bytes)
    (ciphers_bound c.args.script.now words c.args.operands.now c.loop-input.ciphers.items zip r cipher at)

pub returns-clause-stated : goal.returns-clause-stated
returns-clause-stated c =
    let words = map string_bytes c.args.words.now in
    let inputs = c.args.script.now.inputs in
    let all : take c.loop-input.input inputs ≡ inputs = take_all c.loop-input.input inputs (omega arith) in
    let zip = subst (λ (is : List Input). AllZip (IsCipherOf c.args.script.now words c.args.operands.now) (cipher_inputs is) c.loop-input.ciphers.items) all c.loop-input.invariant in
    ciphers_stated c.args.script.now words c.args.operands.now c.loop-input.ciphers.items zip

pub returns-clause-held : goal.returns-clause-held
returns-clause-held c =
    let words = map string_bytes c.args.words.now in
    let inputs = c.args.script.now.inputs in
    let all : take c.loop-input.input inputs ≡ inputs = take_all c.loop-input.input inputs (omega arith) in
    let zip = subst (λ (is : List Input). AllZip (IsCipherOf c.args.script.now words c.args.operands.now) (cipher_inputs is) c.loop-input.ciphers.items) all c.loop-input.invariant in
    ciphers_held c.args.script.now words c.args.operands.now c.loop-input.ciphers.items zip
