use Rattle.std.proofs.Common.{◌≡◌, ℕ, ◌-◌, ◌/◌, ◌∙◌, arith, ap, ap₂, pos, neg_ℤ, ◌*ℤ◌, length, List}
use Rattle.std.proofs.lemmas.List.{get_or_default}
use Rattle.ring_law.specs.Moduli.{product}
use Rattle.fast_conv.specs.Converters.{ExactConversion}
use Rattle.fast_conv.specs.Rows.{AreOutputs, IsWayBack, Output}
use Rattle.fast_conv.proofs.Making.{OutputsSoFar, at_own_moduli, outputs_all, outputs_more, outputs_none}
use Rattle.fast_conv.proofs.ExactRows.{IsWayBack-from}
use Rattle.fast_conv.proofs.back.SkBack.new.Goals as goal

-- the outputs of a way back
abbrev Back : List ℕ → List ℕ → ℕ → List Output → Type 0
Back qs ps sk outputs = AreOutputs qs ps 1 (pos 1) (neg_ℤ (pos (product qs))) (pos (product qs) *ℤ pos ((sk - 1) / 2)) outputs

all : (qs ps : List ℕ) (sk i : ℕ) (outputs : List Output) → i ≡ length ps
    → OutputsSoFar qs ps 1 (pos 1) (neg_ℤ (pos (product qs))) (pos (product qs) *ℤ pos ((sk - 1) / 2)) i outputs → Back qs ps sk outputs
all qs ps sk i outputs end so_far = outputs_all qs ps 1 (pos 1) (neg_ℤ (pos (product qs))) (pos (product qs) *ℤ pos ((sk - 1) / 2)) i outputs end so_far

pub loop-p-init : goal.loop-p-init
loop-p-init c = rw c.new-outputs.ensures.items
    (outputs_none c.args.base.now c.args.to.now 1 (pos 1) (neg_ℤ (pos (product c.args.base.now))) (pos (product c.args.base.now) *ℤ pos ((c.args.sk.now - 1) / 2)))

pub loop-p-preserved : goal.loop-p-preserved
loop-p-preserved c = rw c.in_ok-push.ensures.items
    (outputs_more c.args.base.now c.args.to.now 1 (pos 1) (neg_ℤ (pos (product c.args.base.now))) (pos (product c.args.base.now) *ℤ pos ((c.args.sk.now - 1) / 2))
    c.loop-p.p-index c.loop-p.outputs.items c.in_ok-back_row.field-0 c.loop-p.invariant
    (c.in_ok-back_row.ensures.modulus ∙ c.p-item.is ∙ get_or_default c.args.to.now c.loop-p.p-index c.p-item.result 0 (omega arith)) (rw c.value.ensures.value at c.in_ok-back_row.ensures.value))

pub invariant_of-result : goal.invariant_of-result
invariant_of-result c =
    let qs : List ℕ = c.args.base.now in
    let ps : List ℕ = c.args.to.now in
    let are : Back qs ps c.args.sk.now c.loop-p.outputs.items = all qs ps c.args.sk.now c.loop-p.p-index c.loop-p.outputs.items (omega arith) c.loop-p.invariant in
    let Own : List ℕ → List ℕ → Type 0 = λ qs ps. IsWayBack qs ps c.in_ok-inputs.inputs.items c.in_ok-overflow.overflow c.loop-p.outputs.items in
    at_own_moduli Own qs ps c.in_ok-inputs.inputs.items c.loop-p.outputs.items c.in_ok-inputs.ensures.moduli are.moduli
    (IsWayBack-from qs ps c.args.sk.now c.in_ok-inputs.inputs.items c.in_ok-overflow.overflow c.loop-p.outputs.items c.in_ok-overflow.ensures.modulus c.in_ok-inputs.ensures
    c.in_ok-overflow.ensures.value are c.requires.room c.requires.coprime)

pub returns : goal.returns
returns c =
    let are : Back c.args.base.now c.args.to.now c.args.sk.now c.loop-p.outputs.items =
    all c.args.base.now c.args.to.now c.args.sk.now c.loop-p.p-index c.loop-p.outputs.items (omega arith) c.loop-p.invariant in
    let At : List ℕ → ℕ → List ℕ → ExactConversion = λ base sk to. record { base = base; sk = sk; to = to } in
    ap₂ (λ base to. At base c.in_ok-overflow.overflow.modulus to) c.in_ok-inputs.ensures.moduli are.moduli ∙ ap (λ sk. At c.args.base.now sk c.args.to.now) c.in_ok-overflow.ensures.modulus
