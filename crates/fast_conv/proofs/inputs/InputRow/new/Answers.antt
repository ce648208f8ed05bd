use Rattle.std.proofs.Common.{◌≡◌, ℕ, ◌*◌, ◌%◌, ◌<◌, ◌∙◌, arith, sym, subst, slice_index}
use Rattle.word_mod.specs.Moduli.{IsModulus}
use Rattle.ring_law.specs.Moduli.{product_of_others}
use Rattle.res_base.proofs.Bases.{IsModulus-from_IsBase}
use Rattle.fast_conv.proofs.Making.{scaled_inverse}
use Rattle.fast_conv.proofs.inputs.InputRow.new.Goals as goal

pub invariant_of-result : goal.invariant_of-result
invariant_of-result c =
    let is : IsModulus c.modulus-m.result.now = subst IsModulus (sym c.modulus-m.ensures) (IsModulus-from_IsBase c.args.base.now c.requires.base c.args.i c.requires.place) in
    let below : c.factor.result.w < c.modulus-m.result.now = rw c.factor.ensures.w c.mul-factor.ensures.below in
    (is, below, rw c.factor.ensures.w c.factor.ensures.shoup)

pub returns-clause-factor : goal.returns-clause-factor
returns-clause-factor c =
    let q : ℕ = slice_index c.args.base.now c.args.i in
    let is : IsModulus q = IsModulus-from_IsBase c.args.base.now c.requires.base c.args.i c.requires.place in
    let three = is.from_three in
    let made : c.factor.result.w ≡ c.hat_inverse.result * (c.args.scale % q) % q = c.factor.ensures.w ∙ rw (c.reduce.ensures.value, c.modulus-m.ensures) at c.mul-factor.ensures.value in
    rw made (scaled_inverse q c.hat_inverse.result c.args.scale (product_of_others c.args.base.now c.args.i) (omega arith) c.hat_inverse.ensures.value)
