use Rattle.std.proofs.Common.{ℕ, arith, pos, neg_ℤ, ◌*ℤ◌}
use Rattle.std.proofs.lemmas.Result.{IfOk-weaker}
use Rattle.ring_law.specs.Residues.{Congruent}
use Rattle.ring_law.specs.Moduli.{product}
use Rattle.ring_law.proofs.Congruence.{Congruent-mul, Congruent-neg, Congruent-trans}
use Rattle.fast_conv.specs.Rows.{IsOutputOf, IsRowOf}
use Rattle.fast_conv.specs.declared.outputs.RowConstants.{RowConstants}
use Rattle.fast_conv.proofs.Making.{IsOutputOf-from}
use Rattle.fast_conv.proofs.Words.{Congruent-negative_word, Congruent-one_times, Congruent-word}
use Rattle.fast_conv.proofs.back.back_row.Goals as goal

pub returns-clause-value : goal.returns-clause-value
returns-clause-value c =
    let p : ℕ = c.args.p in
    let B : ℕ = product c.args.base.now in
    let half : ℕ = c.args.half in
    let below = c.product_mod-product.ensures.below in
    let one : Congruent p (pos c.reduce.result) (pos 1) = Congruent-word p (omega arith) c.reduce.ensures.value in
    let whole : Congruent p (pos c.product_mod-product.result) (pos B) = Congruent-word p (omega arith) c.product_mod-product.ensures.value in
    let halved : Congruent p (pos c.reduce-2.result) (pos half) = Congruent-word p (omega arith) c.reduce-2.ensures.value in
    let negative : Congruent p (pos c.neg.result) (neg_ℤ (pos B)) =
    Congruent-trans p (Congruent-negative_word p c.product_mod-product.result c.neg.result below c.neg.ensures.value) (Congruent-neg p whole) in
    let added : Congruent p (pos c.mul.result) (pos B *ℤ pos half) =
    Congruent-trans p (Congruent-word p (omega arith) c.mul.ensures.value) (Congruent-mul p whole halved) in
    let constants : RowConstants = record { scale = c.reduce.result; last_factor = c.neg.result; added = c.mul.result } in
    IfOk-weaker c.new.result (IsRowOf c.args.base.now p constants) (IsOutputOf c.args.base.now 1 (pos 1) (neg_ℤ (pos B)) (pos B *ℤ pos half))
    (IsOutputOf-from c.args.base.now 1 (pos 1) (neg_ℤ (pos B)) (pos B *ℤ pos half) p constants
    (Congruent-one_times p one) (Congruent-one_times p negative) (Congruent-one_times p added))
    c.new.ensures
