use Rattle.std.proofs.Common.{ℕ, ◌-◌, ◌/◌, arith, pos, neg_ℤ, ◌*ℤ◌}
use Rattle.std.proofs.lemmas.Result.{IfOk-weaker}
use Rattle.ring_law.specs.Residues.{Congruent}
use Rattle.ring_law.specs.Moduli.{product}
use Rattle.ring_law.proofs.Congruence.{Congruent-refl}
use Rattle.fast_conv.specs.Rows.{IsOutputOf, IsRowOf}
use Rattle.fast_conv.specs.declared.outputs.RowConstants.{RowConstants}
use Rattle.fast_conv.proofs.Making.{IsOutputOf-from}
use Rattle.fast_conv.proofs.Words.{Congruent-negative_word, Congruent-times_negative, Congruent-unit}
use Rattle.fast_conv.proofs.back.overflow_row.Goals as goal

pub returns-clause-value : goal.returns-clause-value
returns-clause-value c =
    let sk : ℕ = c.args.sk in
    let B : ℕ = product c.args.base.now in
    let half : ℕ = (c.args.sk - 1) / 2 in
    let v : ℕ = c.inverse_of_product-inverse.result in
    let below = c.inverse_of_product-inverse.ensures.below in
    let unit : Congruent sk (pos B *ℤ pos v) (pos 1) = Congruent-unit sk v B (omega arith) c.inverse_of_product-inverse.ensures.value in
    let negative : Congruent sk (pos B *ℤ pos c.neg.result) (neg_ℤ (pos 1)) =
    Congruent-times_negative sk B v c.neg.result unit (Congruent-negative_word sk v c.neg.result below c.neg.ensures.value) in
    let constants : RowConstants = record { scale = v; last_factor = c.neg.result; added = half } in
    IfOk-weaker c.new.result (IsRowOf c.args.base.now sk constants) (IsOutputOf c.args.base.now B (pos 1) (neg_ℤ (pos 1)) (pos B *ℤ pos half))
    (IsOutputOf-from c.args.base.now B (pos 1) (neg_ℤ (pos 1)) (pos B *ℤ pos half) sk constants unit negative (Congruent-refl sk (pos B *ℤ pos half)))
    (rw c.value.ensures.value at c.new.ensures)
