use Rattle.std.proofs.Common.{◌≡◌, ◌%◌, ◌<◌, ◌*◌, ◌∙◌, ℕ, List, [], length, map, get_or, get_or-set_same, length-set, slice_index, slice_set, sym, subst, ap, arith, lit<}
use Rattle.ring_law.specs.Polynomials.{ring_product}
use Rattle.ring_law.specs.Residues.{residue}
use Rattle.ring_law.specs.Rows.{IsReduced, RowRepresents}
use Rattle.neg_ntt.specs.Parameters.{IsTransformBy, Parameters}
use Rattle.bfv_params.specs.Moduli.{data_at}
use Rattle.bfv_params.specs.Transforms.{transform_of}
use Rattle.bfv_params.specs.Values.{CipherValue}
use Rattle.bfv_linear.proofs.Operands.{in_cipher, place_in_list}
use Rattle.bfv_linear.proofs.OneRow.{copied_row, one_at, one_long}
use Rattle.bfv_linear.proofs.Operations.{parts_product}
use Rattle.bfv_linear.proofs.TransformedProducts.{factor_at, transform_at}
use Rattle.bfv_linear.proofs.Written.{WrittenTo-map, WrittenTo-set}
use Rattle.bfv_linear.proofs.products.multiply_rows.Goals as goal

pub multiply_row-requires : goal.multiply_row-requires
multiply_row-requires g c =
    let n : ℕ = g.row.N in
    let ctx = c.args.ctx.now in
    let moduli : List ℕ = data_at ctx.set ctx.level in
    let a : CipherValue = c.args.a.now in
    let i : ℕ = c.loop-i.i in
    let p : ℕ = i % length c.data_moduli-moduli.result.now in
    let t : Parameters = c.index-transforms-place.result in
    let known = c.loop-i.invariant.operand in
    let level = c.loop-i.invariant.level in
    let at : p ≡ i % length moduli = ap (λ (m : ℕ). i % m) level in
    let in_list : p < length moduli = subst (λ m. m < length moduli) (sym at) (place_in_list n ctx moduli a i known) in
    let within : i < 3 * length moduli = in_cipher n ctx moduli c.set_parts.new.self i c.parts-parts.result c.loop-i.invariant.over c.set_parts.ensures.parts
    (subst (λ m. i < c.parts-parts.result * m) level c.loop-i-test.true) in
    let is : t ≡ get_or (map (transform_of ctx.set) moduli) p t = c.index-transforms-place.is ∙ ap (λ (ts : List Parameters). get_or ts p t) c.data_transforms-transforms.ensures.value in
    let modulus : t.modulus ≡ slice_index moduli p = transform_at ctx.set moduli p t in_list is in
    let one = c.loop-i.invariant.one in
    let copied : get_or a.rows i [] ≡ get_or (slice_set c.loop-i.row 0 c.row.result.now) 0 [] =
    copied_row c.view.result.rows.now a.rows i c.row.result.now c.view.ensures.value c.row.ensures ∙ sym (get_or-set_same c.loop-i.row 0 c.row.result.now [] (omega arith)) in
    let factor : get_or c.args.factors.rows.now p [] ≡ get_or c.rows_from_to-factor.result.rows.now 0 [] =
    sym (ap (λ (rows : List (List ℕ)). get_or rows 0 []) c.rows_from_to-factor.ensures ∙ one_at c.args.factors.rows.now p []) in
    let in_factors : p < length c.args.factors.rows.now = omega (arith, known.level, c.requires.factors_length) in (
      lit< tt,
      (
        lit< tt,
        (
          omega (arith, known.degree),
          (
            known.degree,
            (
              ap length c.rows_from_to-factor.ensures ∙ one_long c.args.factors.rows.now p in_factors,
              (
                length-set c.loop-i.row 0 c.row.result.now ∙ one,
                (
                  c.loop-i.invariant.one_product,
                  (
                    subst (λ q. IsReduced n q (get_or c.rows_from_to-factor.result.rows.now 0 [])) (sym modulus) (subst (IsReduced n (slice_index moduli p)) factor (c.requires.factors_reduced p in_list)),
                    subst (λ q. IsReduced n q (get_or (slice_set c.loop-i.row 0 c.row.result.now) 0 [])) (sym (modulus ∙ ap (slice_index moduli) at))
                        (subst (IsReduced n (slice_index moduli (i % length moduli))) copied (known.reduced i (omega (arith, known.size)))),
                  ),
                ),
              ),
            ),
          ),
        ),
      ),
    )

pub loop-i-preserved : goal.loop-i-preserved
loop-i-preserved g c =
    let n : ℕ = g.row.N in
    let ctx = c.args.ctx.now in
    let moduli : List ℕ = data_at ctx.set ctx.level in
    let a : CipherValue = c.args.a.now in
    let first : CipherValue = c.set_parts.new.self in
    let i : ℕ = c.loop-i.i in
    let p : ℕ = i % length c.data_moduli-moduli.result.now in
    let t : Parameters = c.index-transforms-place.result in
    let given : List (List ℕ) = slice_set c.loop-i.row 0 c.row.result.now in
    let made : List ℕ = get_or c.multiply_row.new.product 0 [] in
    let known = c.loop-i.invariant.operand in
    let over = c.loop-i.invariant.over in
    let level = c.loop-i.invariant.level in
    let at : p ≡ i % length moduli = ap (λ (m : ℕ). i % m) level in
    let in_list : p < length moduli = subst (λ m. m < length moduli) (sym at) (place_in_list n ctx moduli a i known) in
    let within : i < 3 * length moduli = in_cipher n ctx moduli first i c.parts-parts.result over c.set_parts.ensures.parts (subst (λ m. i < c.parts-parts.result * m) level c.loop-i-test.true) in
    let is : t ≡ get_or (map (transform_of ctx.set) moduli) p t = c.index-transforms-place.is ∙ ap (λ (ts : List Parameters). get_or ts p t) c.data_transforms-transforms.ensures.value in
    let modulus : t.modulus ≡ slice_index moduli (i % length moduli) = transform_at ctx.set moduli p t in_list is ∙ ap (slice_index moduli) at in
    let one = c.loop-i.invariant.one in
    let copied : get_or a.rows i [] ≡ get_or given 0 [] =
    copied_row c.view.result.rows.now a.rows i c.row.result.now c.view.ensures.value c.row.ensures ∙ sym (get_or-set_same c.loop-i.row 0 c.row.result.now [] (omega arith)) in
    let factor : get_or c.args.factors.rows.now p [] ≡ get_or c.rows_from_to-factor.result.rows.now 0 [] =
    sym (ap (λ (rows : List (List ℕ)). get_or rows 0 []) c.rows_from_to-factor.ensures ∙ one_at c.args.factors.rows.now p []) in
    record {
      operand = known;
      over = over;
      level = level;
      one = c.multiply_row.auto.row ∙ length-set c.loop-i.row 0 c.row.result.now ∙ one;
      one_product = c.multiply_row.auto.product ∙ c.loop-i.invariant.one_product;
      written = WrittenTo-set first _ i c.loop-i.out c.set_row.new.self made (omega (arith, over.size)) c.set_row.ensures
          (λ y all x represents k below. subst (λ q. slice_index made k ≡ residue q (ring_product n x y k)) modulus
          (c.multiply_row.ensures.represents x y
          (subst (λ q. RowRepresents n q (get_or given 0 []) x) (sym modulus) (subst (λ row. RowRepresents n (slice_index moduli (i % length moduli)) row x) copied represents))
          (subst (λ row. IsTransformBy t row y) factor (factor_at ctx.set moduli p t in_list is c.args.factors.rows.now y all)) k below))
          c.loop-i.invariant.written;
    }

pub returns-clause-words : goal.returns-clause-words
returns-clause-words g c = λ y all x of_a.
    let ctx = c.args.ctx.now in
    let moduli : List ℕ = data_at ctx.set ctx.level in
    let first : CipherValue = c.set_parts.new.self in
    let parts : first.parts ≡ c.args.a.now.parts = c.set_parts.ensures.parts ∙ c.parts-parts.ensures.value in
    let rows : first.parts * length moduli ≡ c.parts-parts.result * length c.data_moduli-moduli.result.now =
    ap (λ (p : ℕ). p * length moduli) c.set_parts.ensures.parts ∙ ap (λ (m : ℕ). c.parts-parts.result * m) (sym c.loop-i.invariant.level) in
    parts_product g.row.N ctx moduli c.args.a.now first c.loop-i.out c.loop-i.i c.loop-i.invariant.operand c.loop-i.invariant.over (omega arith) (omega arith) y
    (WrittenTo-map first _ _ c.loop-i.i c.loop-i.out (λ i row less becomes. becomes y all) c.loop-i.invariant.written) x of_a
