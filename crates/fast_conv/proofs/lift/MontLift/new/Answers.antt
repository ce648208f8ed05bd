use Rattle.std.proofs.Common.{◌≡◌, ℕ, ◌^◌, ◌∙◌, arith, ap₂, pos, neg_ℤ, ◌*ℤ◌, length, List}
use Rattle.std.proofs.lemmas.List.{get_or_default}
use Rattle.ring_law.specs.Moduli.{product}
use Rattle.fast_conv.specs.Rows.{AreCorrections, AreInputs, AreOutputs, Output}
use Rattle.fast_conv.proofs.Making.{OutputsSoFar, at_own_moduli, outputs_all, outputs_more, outputs_none}
use Rattle.fast_conv.proofs.lift.MontLift.new.Goals as goal

-- the outputs of a lift
abbrev Lifting : List ℕ → List ℕ → List Output → Type 0
Lifting qs ps outputs = AreOutputs qs ps (2 ^ 32) (pos 1) (pos (product qs)) (neg_ℤ (pos (2 ^ 31) *ℤ pos (product qs))) outputs

all : (qs ps : List ℕ) (i : ℕ) (outputs : List Output) → i ≡ length ps
    → OutputsSoFar qs ps (2 ^ 32) (pos 1) (pos (product qs)) (neg_ℤ (pos (2 ^ 31) *ℤ pos (product qs))) i outputs → Lifting qs ps outputs
all qs ps i outputs end so_far = outputs_all qs ps (2 ^ 32) (pos 1) (pos (product qs)) (neg_ℤ (pos (2 ^ 31) *ℤ pos (product qs))) i outputs end so_far

pub loop-p-init : goal.loop-p-init
loop-p-init c = rw c.new-outputs.ensures.items
    (outputs_none c.args.from.now c.args.to.now (2 ^ 32) (pos 1) (pos (product c.args.from.now)) (neg_ℤ (pos (2 ^ 31) *ℤ pos (product c.args.from.now))))

pub loop-p-preserved : goal.loop-p-preserved
loop-p-preserved c = rw c.in_ok-push.ensures.items
    (outputs_more c.args.from.now c.args.to.now (2 ^ 32) (pos 1) (pos (product c.args.from.now)) (neg_ℤ (pos (2 ^ 31) *ℤ pos (product c.args.from.now)))
    c.loop-p.p-index c.loop-p.outputs.items c.in_ok-lifting_row.field-0 c.loop-p.invariant
    (c.in_ok-lifting_row.ensures.modulus ∙ c.p-item.is ∙ get_or_default c.args.to.now c.loop-p.p-index c.p-item.result 0 (omega arith)) c.in_ok-lifting_row.ensures.value)

pub invariant_of-result : goal.invariant_of-result
invariant_of-result c =
    let qs : List ℕ = c.args.from.now in
    let ps : List ℕ = c.args.to.now in
    let are : Lifting qs ps c.loop-p.outputs.items = all qs ps c.loop-p.p-index c.loop-p.outputs.items (omega arith) c.loop-p.invariant in
    let Own : List ℕ → List ℕ → Type 0 = λ qs ps. AreInputs qs (2 ^ 32) c.in_ok-inputs.inputs.items × AreCorrections qs c.in_ok-corrections.corrections.items × Lifting qs ps c.loop-p.outputs.items in
    at_own_moduli Own qs ps c.in_ok-inputs.inputs.items c.loop-p.outputs.items c.in_ok-inputs.ensures.moduli are.moduli (c.in_ok-inputs.ensures, c.in_ok-corrections.ensures, are)

pub returns : goal.returns
returns c =
    let are : Lifting c.args.from.now c.args.to.now c.loop-p.outputs.items =
    all c.args.from.now c.args.to.now c.loop-p.p-index c.loop-p.outputs.items (omega arith) c.loop-p.invariant in
    ap₂ (λ from to. record { from = from; to = to }) c.in_ok-inputs.ensures.moduli are.moduli
