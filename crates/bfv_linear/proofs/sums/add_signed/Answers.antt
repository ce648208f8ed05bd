use Rattle.std.proofs.Common.{◌≡◌, ◌+◌, ◌%◌, ◌<◌, ◌*◌, ◌∙◌, ℕ, List, [], length, get_or, sym, ap, arith, lit<, refl}
use Rattle.ring_law.specs.Polynomials.{ring_sum}
use Rattle.bfv_params.specs.Values.{CipherValue}
use Rattle.bfv_linear.specs.Signs.{signed}
use Rattle.bfv_linear.proofs.Operands.{in_cipher, lent_from, lent_length, lent_reduced, made_alone_of_two, place_in_list}
use Rattle.bfv_linear.proofs.OneRow.{one_long}
use Rattle.bfv_linear.proofs.Operations.{parts_signed_sum}
use Rattle.bfv_linear.proofs.Written.{WrittenTo-set}
use Rattle.bfv_linear.proofs.sums.add_signed.Goals as goal

pub add_into-requires : goal.add_into-requires
add_into-requires g c =
    let n : ℕ = g.row.N in
    let ctx = c.args.ctx.now in
    let moduli : List ℕ = c.data_moduli-moduli.result.now in
    let a : CipherValue = c.args.a.now in
    let b : CipherValue = c.args.b.now in
    let i : ℕ = c.loop-i.i in
    let known = c.loop-i.invariant.operand in
    let second = c.loop-i.invariant.second in
    let row = lent_from c.view.result.rows.now a.rows c.rows_from_to-from.result.rows.now i (i + 1) c.rows_from_to-from.ensures c.view.ensures.value in
    let other = lent_from c.view-in-loop-i.result.rows.now b.rows c.rows_from_to-other.result.rows.now i (i + 1) c.rows_from_to-other.ensures c.view-in-loop-i.ensures.value in
    let within : i < 3 * length moduli = in_cipher n ctx moduli c.set_parts.new.self i c.max-parts.result c.loop-i.invariant.over c.set_parts.ensures.parts c.loop-i-test.true in (
      lit< tt,
      (
        lit< tt,
        (
          omega (arith, known.degree),
          (
            known.degree,
            (
              lent_length n ctx moduli a i known (i % length moduli) _ refl row within,
              (
                lent_length n ctx moduli b i second (i % length moduli) _ refl other within,
                (
                  c.loop-i.invariant.one ∙ sym (one_long moduli (i % length moduli) (place_in_list n ctx moduli a i known)),
                  (lent_reduced n ctx moduli a i known (i % length moduli) _ refl row within, lent_reduced n ctx moduli b i second (i % length moduli) _ refl other within),
                ),
              ),
            ),
          ),
        ),
      ),
    )

pub loop-i-preserved : goal.loop-i-preserved
loop-i-preserved g c =
    let n : ℕ = g.row.N in
    let ctx = c.args.ctx.now in
    let moduli : List ℕ = c.data_moduli-moduli.result.now in
    let a : CipherValue = c.args.a.now in
    let b : CipherValue = c.args.b.now in
    let first : CipherValue = c.set_parts.new.self in
    let i : ℕ = c.loop-i.i in
    let known = c.loop-i.invariant.operand in
    let over = c.loop-i.invariant.over in
    let row = lent_from c.view.result.rows.now a.rows c.rows_from_to-from.result.rows.now i (i + 1) c.rows_from_to-from.ensures c.view.ensures.value in
    let other = lent_from c.view-in-loop-i.result.rows.now b.rows c.rows_from_to-other.result.rows.now i (i + 1) c.rows_from_to-other.ensures c.view-in-loop-i.ensures.value in
    let within : i < 3 * length moduli = in_cipher n ctx moduli first i c.max-parts.result over c.set_parts.ensures.parts c.loop-i-test.true in
    record {
      operand = known;
      second = c.loop-i.invariant.second;
      over = over;
      one = c.add_into.auto.out ∙ c.loop-i.invariant.one;
      written = WrittenTo-set first _ i c.loop-i.out c.set_row.new.self (get_or c.add_into.new.out 0 []) (omega (arith, over.size)) c.set_row.ensures
          (made_alone_of_two (λ x y. ring_sum x (signed c.args.sign y)) n (i % length moduli) i moduli a.rows b.rows c.rows_from_to-from.result.rows.now c.rows_from_to-other.result.rows.now c.add_into.new.out
          (place_in_list n ctx moduli a i known) row other c.add_into.ensures.represents)
          c.loop-i.invariant.written;
    }

pub returns-clause-words : goal.returns-clause-words
returns-clause-words g c = λ x y of_a of_b.
    let moduli : List ℕ = c.data_moduli-moduli.result.now in
    let first : CipherValue = c.set_parts.new.self in
    let parts = c.set_parts.ensures.parts in
    let most = c.max-parts.ensures in
    let rows : first.parts * length moduli ≡ c.max-parts.result * length moduli = ap (λ (p : ℕ). p * length moduli) parts in
    parts_signed_sum g.row.N c.args.ctx.now moduli c.args.a.now first c.loop-i.out c.loop-i.i c.loop-i.invariant.operand c.loop-i.invariant.over
    (omega arith) (omega arith) c.args.sign c.args.b.now c.loop-i.invariant.second (omega arith) c.loop-i.invariant.written x y of_a of_b

pub returns-clause-degree : goal.returns-clause-degree
returns-clause-degree g c = c.loop-i.invariant.operand.degree_is
