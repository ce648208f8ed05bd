use Rattle.std.proofs.Common.{ℕ, refl, arith, pos, neg_ℤ, ◌*ℤ◌}
use Rattle.std.proofs.lemmas.Result.{IfOk-weaker}
use Rattle.ring_law.specs.Residues.{Congruent}
use Rattle.ring_law.specs.Moduli.{product}
use Rattle.ring_law.proofs.Congruence.{Congruent-equal, Congruent-mul, Congruent-refl, Congruent-trans}
use Rattle.ring_law.proofs.RingSolver.{identity1, literal, ◌⊗◌}
use Rattle.fast_conv.specs.Rows.{IsOutputOf, IsRowOf}
use Rattle.fast_conv.specs.declared.outputs.RowConstants.{RowConstants}
use Rattle.fast_conv.proofs.Making.{IsOutputOf-from}
use Rattle.fast_conv.proofs.Words.{Congruent-negative_word, Congruent-times_negative, Congruent-unit, Congruent-unit_times, Congruent-word}
use Rattle.fast_conv.proofs.floor.floor_row.Goals as goal

pub returns-clause-value : goal.returns-clause-value
returns-clause-value c =
    let p : ℕ = c.args.p in
    let q : ℕ = product c.args.base.now in
    let t : ℕ = c.args.t in
    let v : ℕ = c.inverse_of_product-inverse.result in
    let below = c.inverse_of_product-inverse.ensures.below in
    let unit : Congruent p (pos q *ℤ pos v) (pos 1) = Congruent-unit p v q (omega arith) c.inverse_of_product-inverse.ensures.value in
    let negative : Congruent p (pos q *ℤ pos c.neg.result) (neg_ℤ (pos 1)) =
    Congruent-times_negative p q v c.neg.result unit (Congruent-negative_word p v c.neg.result below c.neg.ensures.value) in
    let times : Congruent p (pos c.mul.result) (pos t *ℤ pos v) =
    Congruent-trans p (Congruent-word p (omega arith) c.mul.ensures.value) (Congruent-mul p (Congruent-word p (omega arith) c.reduce.ensures.value) (Congruent-refl p (pos v))) in
    let constants : RowConstants = record { scale = c.neg.result; last_factor = c.mul.result; added = 0 } in
    IfOk-weaker c.new.result (IsRowOf c.args.base.now p constants) (IsOutputOf c.args.base.now q (neg_ℤ (pos 1)) (pos t) (pos 0))
    (IsOutputOf-from c.args.base.now q (neg_ℤ (pos 1)) (pos t) (pos 0) p constants negative
    (Congruent-unit_times p q v t c.mul.result (omega arith) unit times) (Congruent-equal p (identity1 (λ q. q ⊗ literal (pos 0)) (λ q. literal (pos 0)) refl (pos q))))
    c.new.ensures
