use Rattle.std.proofs.Common.{◌≡◌, ℕ, ◌-◌, ◌∙◌, ap, arith, List, slice_index, subst, sym}
use Rattle.std.specs.Int.{IsGcd}
use Rattle.std.proofs.lemmas.Nat.Gcd.{IsGcd-swap}
use Rattle.word_mod.specs.Moduli.{IsModulus}
use Rattle.res_base.proofs.Bases.{IsModulus-from_IsBase}
use Rattle.fast_conv.proofs.Making.{kept_all, kept_and_dropped, kept_more, kept_none}
use Rattle.fast_conv.proofs.dropping.DropLast.new.Goals as goal

pub new-requires : goal.new-requires
new-requires c =
    let qs : List ℕ = c.args.base.now in
    let i : ℕ = c.loop-i.i in
    let count = c.len-last.ensures.value in
    let two = c.requires in
    let before = c.loop-i-test.true in
    let coprime : IsGcd (slice_index qs i) (slice_index qs (c.len-last.result - 1)) 1 = c.len-last.ensures.base.coprime i (c.len-last.result - 1) 0 (omega arith) (omega arith) in
    let Dropped : ℕ → Type 0 = λ p. IsGcd p (slice_index qs i) 1 in
    let Kept : ℕ → Type 0 = λ q. IsGcd c.modulus-dropped.result.now q 1 in
    subst Kept (sym c.modulus.ensures) (subst Dropped (sym c.modulus-dropped.ensures) (IsGcd-swap (slice_index qs i) (slice_index qs (c.len-last.result - 1)) 1 coprime))

pub loop-i-init : goal.loop-i-init
loop-i-init c = rw c.new-kept.ensures.items (kept_none c.args.base.now c.modulus-dropped.result.now)

pub loop-i-preserved : goal.loop-i-preserved
loop-i-preserved c = rw c.in_ok-push.ensures.items
    (kept_more c.args.base.now c.modulus-dropped.result.now c.loop-i.i c.loop-i.kept.items c.new.result c.loop-i.invariant (c.new.ensures.modulus ∙ c.modulus.ensures) c.new.ensures.value)

pub invariant_of-result : goal.invariant_of-result
invariant_of-result c =
    let count = c.len-last.ensures.value in
    let two = c.requires in
    let is : IsModulus c.modulus-dropped.result.now =
    subst IsModulus (sym c.modulus-dropped.ensures) (IsModulus-from_IsBase c.args.base.now c.len-last.ensures.base (c.len-last.result - 1) (omega arith)) in
    (is, kept_all c.args.base.now c.modulus-dropped.result.now c.loop-i.i c.loop-i.kept.items c.loop-i.invariant)

pub returns : goal.returns
returns c =
    let count = c.len-last.ensures.value in
    let two = c.requires in
    let end : c.loop-i.i ≡ c.len-last.result - 1 = omega arith in
    kept_and_dropped c.args.base.now c.modulus-dropped.result.now c.loop-i.i c.loop-i.kept.items c.loop-i.invariant (omega arith) (c.modulus-dropped.ensures ∙ ap (λ j. slice_index c.args.base.now j) (sym end))
