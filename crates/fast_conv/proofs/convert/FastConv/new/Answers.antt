use Rattle.std.proofs.Common.{ℕ, ◌∙◌, arith, ap₂, pos, List}
use Rattle.std.proofs.lemmas.List.{get_or_default}
use Rattle.fast_conv.specs.Rows.{AreInputs, AreOutputs}
use Rattle.fast_conv.proofs.Making.{at_own_moduli, outputs_all, outputs_more, outputs_none}
use Rattle.fast_conv.proofs.convert.FastConv.new.Goals as goal

pub loop-p-init : goal.loop-p-init
loop-p-init c = rw c.new-outputs.ensures.items (outputs_none c.args.from.now c.args.to.now 1 (pos 1) (pos 0) (pos 0))

pub loop-p-preserved : goal.loop-p-preserved
loop-p-preserved c = rw c.in_ok-push.ensures.items
    (outputs_more c.args.from.now c.args.to.now 1 (pos 1) (pos 0) (pos 0) c.loop-p.p-index c.loop-p.outputs.items c.in_ok-converting_row.field-0 c.loop-p.invariant
    (c.in_ok-converting_row.ensures.modulus ∙ c.p-item.is ∙ get_or_default c.args.to.now c.loop-p.p-index c.p-item.result 0 (omega arith)) c.in_ok-converting_row.ensures.value)

pub invariant_of-result : goal.invariant_of-result
invariant_of-result c =
    let qs : List ℕ = c.args.from.now in
    let ps : List ℕ = c.args.to.now in
    let are : AreOutputs qs ps 1 (pos 1) (pos 0) (pos 0) c.loop-p.outputs.items =
    outputs_all qs ps 1 (pos 1) (pos 0) (pos 0) c.loop-p.p-index c.loop-p.outputs.items (omega arith) c.loop-p.invariant in
    let Own : List ℕ → List ℕ → Type 0 = λ qs ps. AreInputs qs 1 c.in_ok-inputs.inputs.items × AreOutputs qs ps 1 (pos 1) (pos 0) (pos 0) c.loop-p.outputs.items in
    at_own_moduli Own qs ps c.in_ok-inputs.inputs.items c.loop-p.outputs.items c.in_ok-inputs.ensures.moduli are.moduli (c.in_ok-inputs.ensures, are)

pub returns : goal.returns
returns c =
    let are : AreOutputs c.args.from.now c.args.to.now 1 (pos 1) (pos 0) (pos 0) c.loop-p.outputs.items =
    outputs_all c.args.from.now c.args.to.now 1 (pos 1) (pos 0) (pos 0) c.loop-p.p-index c.loop-p.outputs.items (omega arith) c.loop-p.invariant in
    ap₂ (λ from to. record { from = from; to = to }) c.in_ok-inputs.ensures.moduli are.moduli
