use Rattle.std.proofs.Common.{◌≡◌, ◌<◌, true, length, sym, ap, ◌∙◌, arith}
use Rattle.std.specs.Str.{bytes_eq}
use Rattle.run_operands.proofs.Places.{position_is, position_none, element_at}
use Rattle.run_operands.proofs.bindings.input_named.Goals as goal

pub returns-then-eq : goal.returns-then-eq
returns-then-eq c =
    let inputs = c.args.script.now.inputs in
    let within : c.loop-input.input < length inputs = omega arith in
    let at = element_at (λ input. c.input_name.result.now ≡ input.name) inputs c.loop-input.input within c.input_name.ensures in
    let passes : bytes_eq at.0.name c.args.name.now ≡ true = ap (λ name. bytes_eq name c.args.name.now) (sym at.1.1) ∙ sym c.eq.ensures ∙ c.if-eq.true in
    sym (position_is (λ input. bytes_eq input.name c.args.name.now) inputs c.loop-input.input at.0 at.1.0 passes c.loop-input.invariant)

pub returns : goal.returns
returns c =
    sym (position_none (λ input. bytes_eq input.name c.args.name.now) c.args.script.now.inputs
    (λ k input below at. c.loop-input.invariant k input (omega arith) at))
