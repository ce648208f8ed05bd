use Rattle.std.proofs.Common.{◌≡◌, ◌+◌, ◌%◌, ◌<◌, ◌*◌, ◌∙◌, ℕ, List, [], length, get_or, sym, ap, arith, lit<, refl}
use Rattle.ring_law.specs.Polynomials.{ring_negative}
use Rattle.bfv_params.specs.Values.{CipherValue}
use Rattle.bfv_linear.proofs.Operands.{in_cipher, lent_from, lent_length, lent_reduced, made_alone, place_in_list}
use Rattle.bfv_linear.proofs.OneRow.{one_long}
use Rattle.bfv_linear.proofs.Operations.{HoldsIn-negative, parts_negative}
use Rattle.bfv_linear.proofs.Written.{WrittenTo-set}
use Rattle.bfv_linear.proofs.sums.neg.Goals as goal

pub neg_into-requires : goal.neg_into-requires
neg_into-requires g c =
    let n : ℕ = g.row.N in
    let ctx = c.args.ctx.now in
    let moduli : List ℕ = c.data_moduli-moduli.result.now in
    let a : CipherValue = c.args.a.now in
    let i : ℕ = c.loop-i.i in
    let known = c.loop-i.invariant.operand in
    let row = lent_from c.view.result.rows.now a.rows c.rows_from_to.result.rows.now i (i + 1) c.rows_from_to.ensures c.view.ensures.value in
    let within : i < 3 * length moduli = in_cipher n ctx moduli c.set_parts.new.self i c.parts-parts.result c.loop-i.invariant.over c.set_parts.ensures.parts c.loop-i-test.true in (
      lit< tt,
      (
        omega (arith, known.degree),
        (
          known.degree,
          (
            lent_length n ctx moduli a i known (i % length moduli) _ refl row within,
            (c.loop-i.invariant.one ∙ sym (one_long moduli (i % length moduli) (place_in_list n ctx moduli a i known)), lent_reduced n ctx moduli a i known (i % length moduli) _ refl row within),
          ),
        ),
      ),
    )

pub loop-i-preserved : goal.loop-i-preserved
loop-i-preserved g c =
    let n : ℕ = g.row.N in
    let ctx = c.args.ctx.now in
    let moduli : List ℕ = c.data_moduli-moduli.result.now in
    let a : CipherValue = c.args.a.now in
    let first : CipherValue = c.set_parts.new.self in
    let i : ℕ = c.loop-i.i in
    let known = c.loop-i.invariant.operand in
    let over = c.loop-i.invariant.over in
    let row = lent_from c.view.result.rows.now a.rows c.rows_from_to.result.rows.now i (i + 1) c.rows_from_to.ensures c.view.ensures.value in
    let within : i < 3 * length moduli = in_cipher n ctx moduli first i c.parts-parts.result over c.set_parts.ensures.parts c.loop-i-test.true in
    record {
      operand = known;
      over = over;
      one = c.neg_into.auto.out ∙ c.loop-i.invariant.one;
      written = WrittenTo-set first _ i c.loop-i.out c.set_row.new.self (get_or c.neg_into.new.out 0 []) (omega (arith, over.size)) c.set_row.ensures
          (made_alone ring_negative n (i % length moduli) i moduli a.rows c.rows_from_to.result.rows.now c.neg_into.new.out (place_in_list n ctx moduli a i known) row
          c.neg_into.ensures.represents)
          c.loop-i.invariant.written;
    }

pub returns-clause-words : goal.returns-clause-words
returns-clause-words g c = λ x of_a.
    let moduli : List ℕ = c.data_moduli-moduli.result.now in
    let first : CipherValue = c.set_parts.new.self in
    let parts : first.parts ≡ c.args.a.now.parts = c.set_parts.ensures.parts ∙ c.parts-parts.ensures.value in
    let rows : first.parts * length moduli ≡ c.parts-parts.result * length moduli = ap (λ (p : ℕ). p * length moduli) c.set_parts.ensures.parts in
    parts_negative g.row.N c.args.ctx.now moduli c.args.a.now first c.loop-i.out c.loop-i.i c.loop-i.invariant.operand c.loop-i.invariant.over
    (omega arith) (omega arith) c.loop-i.invariant.written x of_a

pub returns-clause-negative : goal.returns-clause-negative
returns-clause-negative g c = λ s m bound h.
    HoldsIn-negative g.row.N c.args.ctx.now c.loop-i.invariant.operand.degree_is c.args.a.now c.loop-i.out (returns-clause-words g c) h
