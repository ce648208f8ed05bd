use Rattle.std.proofs.Common.{◌≡◌, ℕ, ◌∙◌, arith, ap₂, pos, neg_ℤ, List, slice_index, EachIndex, subst, sym}
use Rattle.std.specs.Int.{IsGcd}
use Rattle.std.proofs.lemmas.List.{get_or_default}
use Rattle.ring_law.specs.Moduli.{product}
use Rattle.fast_conv.specs.Rows.{AreInputs, AreOutputs}
use Rattle.fast_conv.proofs.Making.{at_own_moduli, outputs_all, outputs_more, outputs_none}
use Rattle.fast_conv.proofs.floor.FastFloor.new.Goals as goal

pub floor_row-requires : goal.floor_row-requires
floor_row-requires c =
    let Coprime : ℕ → Type 0 = λ p. IsGcd (product c.args.from.now) p 1 in
    let item : c.p-item.result ≡ slice_index c.args.to.now c.loop-p.p-index = c.p-item.is ∙ get_or_default c.args.to.now c.loop-p.p-index c.p-item.result 0 (omega arith) in
    subst Coprime (sym item) (c.requires.coprime c.loop-p.p-index (omega arith))

pub loop-p-init : goal.loop-p-init
loop-p-init c = rw c.new-outputs.ensures.items (outputs_none c.args.from.now c.args.to.now (product c.args.from.now) (neg_ℤ (pos 1)) (pos c.args.t) (pos 0))

pub loop-p-preserved : goal.loop-p-preserved
loop-p-preserved c = rw c.in_ok-push.ensures.items
    (outputs_more c.args.from.now c.args.to.now (product c.args.from.now) (neg_ℤ (pos 1)) (pos c.args.t) (pos 0) c.loop-p.p-index c.loop-p.outputs.items c.in_ok-floor_row.field-0 c.loop-p.invariant
    (c.in_ok-floor_row.ensures.modulus ∙ c.p-item.is ∙ get_or_default c.args.to.now c.loop-p.p-index c.p-item.result 0 (omega arith)) c.in_ok-floor_row.ensures.value)

pub invariant_of-result : goal.invariant_of-result
invariant_of-result c =
    let qs : List ℕ = c.args.from.now in
    let ps : List ℕ = c.args.to.now in
    let are : AreOutputs qs ps (product qs) (neg_ℤ (pos 1)) (pos c.args.t) (pos 0) c.loop-p.outputs.items =
    outputs_all qs ps (product qs) (neg_ℤ (pos 1)) (pos c.args.t) (pos 0) c.loop-p.p-index c.loop-p.outputs.items (omega arith) c.loop-p.invariant in
    let Own : List ℕ → List ℕ → Type 0 = λ qs ps. AreInputs qs c.args.t c.in_ok-inputs.inputs.items × AreOutputs qs ps (product qs) (neg_ℤ (pos 1)) (pos c.args.t) (pos 0) c.loop-p.outputs.items
    × EachIndex ps (λ j. IsGcd (product qs) (slice_index ps j) 1) in
    at_own_moduli Own qs ps c.in_ok-inputs.inputs.items c.loop-p.outputs.items c.in_ok-inputs.ensures.moduli are.moduli (c.in_ok-inputs.ensures, are, c.requires.coprime)

pub returns : goal.returns
returns c =
    let are : AreOutputs c.args.from.now c.args.to.now (product c.args.from.now) (neg_ℤ (pos 1)) (pos c.args.t) (pos 0) c.loop-p.outputs.items =
    outputs_all c.args.from.now c.args.to.now (product c.args.from.now) (neg_ℤ (pos 1)) (pos c.args.t) (pos 0) c.loop-p.p-index c.loop-p.outputs.items (omega arith) c.loop-p.invariant in
    ap₂ (λ from to. record { from = from; to = to; factor = c.args.t }) c.in_ok-inputs.ensures.moduli are.moduli
