use Rattle.std.proofs.Common.{ℕ, refl, ◌^◌, arith, pos, neg_ℤ, ◌*ℤ◌}
use Rattle.std.proofs.lemmas.Result.{IfOk-weaker}
use Rattle.ring_law.specs.Residues.{Congruent}
use Rattle.ring_law.specs.Moduli.{product}
use Rattle.ring_law.proofs.Congruence.{Congruent-equal, Congruent-mul, Congruent-neg, Congruent-refl, Congruent-trans}
use Rattle.ring_law.proofs.RingSolver.{identity3, minus, ◌⊗◌}
use Rattle.fast_conv.specs.Rows.{IsOutputOf, IsRowOf}
use Rattle.fast_conv.specs.declared.outputs.RowConstants.{RowConstants}
use Rattle.fast_conv.proofs.Making.{IsOutputOf-from}
use Rattle.fast_conv.proofs.Words.{Congruent-negative_word, Congruent-unit, Congruent-unit_times, Congruent-word}
use Rattle.fast_conv.proofs.lift.lifting_row.Goals as goal

pub returns-clause-value : goal.returns-clause-value
returns-clause-value c =
    let p : ℕ = c.args.p in
    let q : ℕ = product c.args.base.now in
    let M : ℕ = 2 ^ 32 in
    let h : ℕ = 2 ^ 31 in
    let v : ℕ = c.inverse_of_m_tilde-inverse.result in
    let s : ℕ = c.mul-scaled.result in
    let below = c.inverse_of_m_tilde-inverse.ensures.below in
    let unit : Congruent p (pos M *ℤ pos v) (pos 1) = Congruent-unit p v M (omega arith) c.inverse_of_m_tilde-inverse.ensures.value in
    let scaled : Congruent p (pos s) (pos q *ℤ pos v) =
    Congruent-trans p (Congruent-word p (omega arith) c.mul-scaled.ensures.value) (Congruent-mul p (Congruent-word p (omega arith) c.product_mod.ensures.value) (Congruent-refl p (pos v))) in
    let whole : Congruent p (pos M *ℤ pos s) (pos q) = Congruent-unit_times p M v q s (omega arith) unit scaled in
    let halved : Congruent p (pos c.mul.result) (pos h *ℤ pos s) =
    Congruent-trans p (Congruent-word p (omega arith) c.mul.ensures.value) (Congruent-mul p (Congruent-word p (omega arith) c.reduce.ensures.value) (Congruent-refl p (pos s))) in
    let negative : Congruent p (pos c.neg-added.result) (neg_ℤ (pos h *ℤ pos s)) =
    Congruent-trans p (Congruent-negative_word p c.mul.result c.neg-added.result c.mul.ensures.below c.neg-added.ensures.value) (Congruent-neg p halved) in
    let added : Congruent p (pos M *ℤ pos c.neg-added.result) (neg_ℤ (pos h *ℤ pos q)) =
    Congruent-trans p (Congruent-mul p (Congruent-refl p (pos M)) negative)
    (Congruent-trans p (Congruent-equal p (identity3 (λ m h s. m ⊗ minus (h ⊗ s)) (λ m h s. minus (h ⊗ (m ⊗ s))) refl (pos M) (pos h) (pos s)))
    (Congruent-neg p (Congruent-mul p (Congruent-refl p (pos h)) whole))) in
    let constants : RowConstants = record { scale = v; last_factor = s; added = c.neg-added.result } in
    IfOk-weaker c.new.result (IsRowOf c.args.base.now p constants) (IsOutputOf c.args.base.now M (pos 1) (pos q) (neg_ℤ (pos h *ℤ pos q)))
    (IsOutputOf-from c.args.base.now M (pos 1) (pos q) (neg_ℤ (pos h *ℤ pos q)) p constants unit whole added)
    c.new.ensures
