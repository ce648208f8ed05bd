use Rattle.std.proofs.Common.{◌≡◌, ℕ, arith, pos}
use Rattle.std.proofs.lemmas.Result.{IfOk-weaker}
use Rattle.ring_law.proofs.Congruence.{Congruent-refl, Congruent-equal, Congruent-trans}
use Rattle.ring_law.proofs.WholeNumbers.{int_one_mul}
use Rattle.fast_conv.specs.Rows.{IsOutputOf, IsRowOf}
use Rattle.fast_conv.specs.declared.outputs.RowConstants.{RowConstants}
use Rattle.fast_conv.proofs.Making.{IsOutputOf-from}
use Rattle.fast_conv.proofs.Words.{Congruent-word}
use Rattle.fast_conv.proofs.convert.converting_row.Goals as goal

pub returns-clause-value : goal.returns-clause-value
returns-clause-value c =
    let p : ℕ = c.args.p in
    let below = c.reduce.ensures.below in
    let constants : RowConstants = record { scale = c.reduce.result; last_factor = 0; added = 0 } in
    IfOk-weaker c.new.result (IsRowOf c.args.base.now p constants) (IsOutputOf c.args.base.now 1 (pos 1) (pos 0) (pos 0))
    (IsOutputOf-from c.args.base.now 1 (pos 1) (pos 0) (pos 0) p constants
    (Congruent-trans p (Congruent-equal p (int_one_mul (pos c.reduce.result))) (Congruent-word p (omega arith) c.reduce.ensures.value)) (Congruent-refl p (pos 0)) (Congruent-refl p (pos 0)))
    c.new.ensures

pub returns-clause-modulus : goal.returns-clause-modulus
returns-clause-modulus c =
    let constants : RowConstants = record { scale = c.reduce.result; last_factor = 0; added = 0 } in
    IfOk-weaker c.new.result (IsRowOf c.args.base.now c.args.p constants) (λ row. row.modulus ≡ c.args.p) (λ row of. of.same) c.new.ensures
