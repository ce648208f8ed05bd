use Rattle.std.proofs.Common.{◌≡◌, ◌+◌, ◌%◌, ◌<◌, ◌*◌, ◌∙◌, ℕ, ℤ, List, [], length, get_or, mod-eq_of_lt, slice_index, sym, subst, ap, arith, lit<}
use Rattle.ring_law.specs.Polynomials.{ring_sum}
use Rattle.ring_law.specs.Rows.{IsReduced, RowRepresents}
use Rattle.bfv_params.specs.Values.{CipherValue}
use Rattle.bfv_linear.proofs.Operands.{in_cipher, lent_from, lent_length, lent_reduced, made_alone, row_fits}
use Rattle.bfv_linear.proofs.OneRow.{copied_row, alone_reduced, alone_represents, from_alone_reduced, one_long}
use Rattle.bfv_linear.specs.Parts.{scaled_polynomial}
use Rattle.bfv_linear.specs.Signs.{signed}
use Rattle.bfv_linear.proofs.Operations.{parts_at_first}
use Rattle.bfv_linear.proofs.Results.{becomes_copy, becomes_first}
use Rattle.bfv_linear.proofs.Written.{WrittenTo-set}
use Rattle.bfv_linear.proofs.plaintexts.add_signed_plain.Goals as goal
use Rattle.bfv_linear.proofs.plaintexts.add_signed_plain.Goals.{then-i-level, else-i-level}

pub add_into-requires : goal.add_into-requires
add_into-requires g c =
    let n : ℕ = g.row.N in
    let ctx = c.args.ctx.now in
    let moduli : List ℕ = c.data_moduli-moduli.result.now in
    let a : CipherValue = c.args.a.now in
    let i : ℕ = c.loop-i.i in
    let known = c.loop-i.invariant.operand in
    let in_list : i < length moduli = c.if-i-level.true in
    let row = lent_from c.view.result.rows.now a.rows c.rows_from_to-from.result.rows.now i (i + 1) c.rows_from_to-from.ensures c.view.ensures.value in
    let one = sym (one_long moduli i in_list) in
    let at = sym (mod-eq_of_lt in_list) in
    let scaled : IsReduced n (slice_index moduli i) (get_or c.scaled_row_into.new.out 0 []) =
    subst (λ ms. IsReduced n (slice_index ms i) (get_or c.scaled_row_into.new.out 0 [])) (sym known.listed) c.scaled_row_into.ensures.reduced in (
      lit< tt,
      (
        lit< tt,
        (
          omega (arith, known.degree),
          (
            known.degree,
            (
              lent_length n ctx moduli a i known i _ at row (omega arith),
              (
                c.scaled_row_into.auto.out ∙ c.loop-i.invariant.one_scaled ∙ one,
                (
                  c.loop-i.invariant.one ∙ one,
                  (lent_reduced n ctx moduli a i known i _ at row (omega arith), alone_reduced n i moduli c.scaled_row_into.new.out in_list scaled),
                ),
              ),
            ),
          ),
        ),
      ),
    )

pub set_row-requires : goal.set_row-requires
set_row-requires g c =
    let n : ℕ = g.row.N in
    let moduli : List ℕ = c.data_moduli-moduli.result.now in
    let first : CipherValue = c.set_parts.new.self in
    let i : ℕ = c.loop-i.i in
    let known = c.loop-i.invariant.operand in
    let in_list : i < length moduli = c.if-i-level.true in
    let row : List ℕ = get_or c.add_into.new.out 0 [] in
    let reduced : IsReduced n (slice_index moduli (i % length moduli)) row =
    subst (λ p. IsReduced n (slice_index moduli p) row) (sym (mod-eq_of_lt in_list)) (from_alone_reduced n i moduli c.add_into.new.out in_list c.add_into.ensures.reduced) in (
      lit< tt,
      (
        omega (arith, known.degree),
        row_fits n c.args.ctx.now moduli first c.loop-i.out _ i i c.parts-parts.result row c.loop-i.invariant.over c.set_parts.ensures.parts c.loop-i.invariant.written c.loop-i-test.true reduced,
      ),
    )

pub set_row-requires-else-i-level : goal.set_row-requires-else-i-level
set_row-requires-else-i-level g c =
    let n : ℕ = g.row.N in
    let moduli : List ℕ = c.data_moduli-moduli.result.now in
    let first : CipherValue = c.set_parts.new.self in
    let a : CipherValue = c.args.a.now in
    let i : ℕ = c.loop-i.i in
    let known = c.loop-i.invariant.operand in
    let over = c.loop-i.invariant.over in
    let within : i < 3 * length moduli = in_cipher n c.args.ctx.now moduli first i c.parts-parts.result over c.set_parts.ensures.parts c.loop-i-test.true in
    let row : get_or a.rows i [] ≡ c.row.result.now = copied_row c.view-else-i-level.result.rows.now a.rows i c.row.result.now c.view-else-i-level.ensures.value c.row.ensures in (
      lit< tt,
      (
        omega (arith, known.degree),
        row_fits n c.args.ctx.now moduli first c.loop-i.out _ i i c.parts-parts.result c.row.result.now over c.set_parts.ensures.parts c.loop-i.invariant.written c.loop-i-test.true
            (subst (IsReduced n (slice_index moduli (i % length moduli))) row (known.reduced i (omega (arith, known.size)))),
      ),
    )

pub loop-i-preserved : goal.loop-i-preserved
loop-i-preserved g c =
    let n : ℕ = g.row.N in
    let ctx = c.args.ctx.now in
    let moduli : List ℕ = c.data_moduli-moduli.result.now in
    let a : CipherValue = c.args.a.now in
    let first : CipherValue = c.set_parts.new.self in
    let i : ℕ = c.loop-i.i in
    let scaled : ℕ → ℤ = scaled_polynomial ctx (slice_index c.args.plain.now) in
    let op : (ℕ → ℤ) → ℕ → ℤ = λ x. ring_sum x (signed c.args.sign scaled) in
    let known = c.loop-i.invariant.operand in
    let over = c.loop-i.invariant.over in
    let within : i < 3 * length moduli = in_cipher n ctx moduli first i c.parts-parts.result over c.set_parts.ensures.parts c.loop-i-test.true in
    elim c.if-i-level.branch [
      | then-i-level w ↦
          (let in_list : i < length moduli = w.if-i-level.true in
          let row = lent_from w.view.result.rows.now a.rows w.rows_from_to-from.result.rows.now i (i + 1) w.rows_from_to-from.ensures w.view.ensures.value in
          let represents : RowRepresents n (slice_index moduli i) (get_or w.scaled_row_into.new.out 0 []) scaled =
          subst (λ ms. RowRepresents n (slice_index ms i) (get_or w.scaled_row_into.new.out 0 []) scaled) (sym known.listed) w.scaled_row_into.ensures.represents in
          record {
            operand = known;
            over = over;
            one = ap length w.row-is ∙ w.add_into.auto.out ∙ c.loop-i.invariant.one;
            one_scaled = ap length w.scaled-is ∙ w.scaled_row_into.auto.out ∙ c.loop-i.invariant.one_scaled;
            written = WrittenTo-set first _ i c.loop-i.out c.if-i-level.out (get_or w.add_into.new.out 0 []) (omega (arith, over.size)) (w.out-is ∙ w.set_row.ensures)
                (becomes_first n moduli (length moduli) op a.rows i (get_or w.add_into.new.out 0 []) in_list
                (made_alone op n i i moduli a.rows w.rows_from_to-from.result.rows.now w.add_into.new.out in_list row
                (λ x given. w.add_into.ensures.represents x (λ j. scaled) given (alone_represents n i moduli w.scaled_row_into.new.out scaled in_list represents))))
                c.loop-i.invariant.written;
          })
      | else-i-level w ↦
          (let row : get_or a.rows i [] ≡ w.row.result.now = copied_row w.view-else-i-level.result.rows.now a.rows i w.row.result.now w.view-else-i-level.ensures.value w.row.ensures in
          record {
            operand = known;
            over = over;
            one = ap length w.row-is ∙ c.loop-i.invariant.one;
            one_scaled = ap length w.scaled-is ∙ c.loop-i.invariant.one_scaled;
            written = WrittenTo-set first _ i c.loop-i.out c.if-i-level.out w.row.result.now (omega (arith, over.size)) (w.out-is ∙ w.set_row-else-i-level.ensures)
                (becomes_copy n moduli (length moduli) op a.rows i w.row.result.now known.some w.if-i-level.false (sym row)) c.loop-i.invariant.written;
          })
    ]

pub returns-clause-words : goal.returns-clause-words
returns-clause-words g c = λ x of_a.
    let moduli : List ℕ = c.data_moduli-moduli.result.now in
    let first : CipherValue = c.set_parts.new.self in
    let parts : first.parts ≡ c.args.a.now.parts = c.set_parts.ensures.parts ∙ c.parts-parts.ensures.value in
    let rows : first.parts * length moduli ≡ c.parts-parts.result * length moduli = ap (λ (p : ℕ). p * length moduli) c.set_parts.ensures.parts in
    parts_at_first g.row.N c.args.ctx.now moduli c.args.a.now first c.loop-i.out c.loop-i.i c.loop-i.invariant.operand c.loop-i.invariant.over
    (omega arith) (omega arith) (λ y. ring_sum y (signed c.args.sign (scaled_polynomial c.args.ctx.now (slice_index c.args.plain.now)))) c.loop-i.invariant.written x of_a

pub returns-clause-degree : goal.returns-clause-degree
returns-clause-degree g c = c.loop-i.invariant.operand.degree_is
