use Rattle.std.proofs.Common.{◌≡◌, ◌%◌, ◌<◌, ◌*◌, ◌∙◌, ℕ, ℤ, ◌*ℤ◌, pos, List, [], ◌∷◌, length, get_or, get_or-set_same, length-set, slice_index, slice_set, sym, subst, ap, arith}
use Rattle.std.proofs.lemmas.List.{get_or_default}
use Rattle.set_table.specs.Sets.{plain_of}
use Rattle.ring_law.specs.Residues.{centred_residue, residue}
use Rattle.ring_law.specs.Rows.{RowRepresents}
use Rattle.bfv_params.specs.Values.{CipherValue}
use Rattle.bfv_linear.proofs.CentredResidues.{residue_of_multiple}
use Rattle.bfv_linear.proofs.Operands.{in_cipher, place_in_list}
use Rattle.bfv_linear.proofs.OneRow.{alone_represents, copied_row, from_alone}
use Rattle.bfv_linear.proofs.Operations.{HoldsIn-multiple, parts_multiple}
use Rattle.bfv_linear.proofs.Written.{WrittenTo-set}
use Rattle.bfv_linear.proofs.products.mul_const.Goals as goal

pub loop-i-preserved : goal.loop-i-preserved
loop-i-preserved g c =
    let n : ℕ = g.row.N in
    let ctx = c.args.ctx.now in
    let moduli : List ℕ = c.data_moduli-moduli.result.now in
    let a : CipherValue = c.args.a.now in
    let first : CipherValue = c.set_parts.new.self in
    let i : ℕ = c.loop-i.i in
    let p : ℕ = i % length moduli in
    let q : ℕ = slice_index moduli p in
    let word : ℕ = c.centred_word-factor.result in
    let factor : ℤ = centred_residue (plain_of ctx.set) (pos c.args.k) in
    let given : List (List ℕ) = slice_set c.loop-i.row 0 c.row.result.now in
    let made : List (List ℕ) = c.scale_each.new.rows in
    let known = c.loop-i.invariant.operand in
    let over = c.loop-i.invariant.over in
    let one = c.loop-i.invariant.one in
    let in_list : p < length moduli = place_in_list n ctx moduli a i known in
    let within : i < 3 * length moduli = in_cipher n ctx moduli first i c.parts-parts.result over c.set_parts.ensures.parts c.loop-i-test.true in
    let copied : get_or a.rows i [] ≡ get_or given 0 [] =
    copied_row c.view.result.rows.now a.rows i c.row.result.now c.view.ensures.value c.row.ensures ∙ sym (get_or-set_same c.loop-i.row 0 c.row.result.now [] (omega arith)) in
    let modulus : c.index-moduli-place.result ≡ q = c.index-moduli-place.is ∙ get_or_default moduli p c.index-moduli-place.result 0 in_list in
    let plain : c.value-t.result ≡ plain_of ctx.set = c.value-t.ensures.value ∙ c.plain_modulus.ensures in
    let word_is : word ≡ residue q factor =
    subst (λ t. word ≡ residue q (centred_residue t (pos c.args.k))) plain (subst (λ m. word ≡ residue m (centred_residue c.value-t.result (pos c.args.k))) modulus c.centred_word-factor.ensures.value) in
    let positive : 0 < q = subst (λ m. 0 < m) modulus (omega (arith, c.centred_word-factor.ensures.below)) in
    record {
      operand = known;
      over = over;
      one = c.scale_each.auto.rows ∙ length-set c.loop-i.row 0 c.row.result.now ∙ one;
      written = WrittenTo-set first _ i c.loop-i.out c.set_row.new.self (get_or made 0 []) (omega (arith, over.size)) c.set_row.ensures
          (λ x represents k below. from_alone n p moduli made (λ j k. pos (slice_index (word ∷ []) j) *ℤ x k) in_list
          (c.scale_each.ensures.represents (λ j. x) (alone_represents n p moduli given x in_list (subst (λ row. RowRepresents n q row x) copied represents))) k below
          ∙ residue_of_multiple q word factor (x k) positive word_is)
          c.loop-i.invariant.written;
    }

pub returns-clause-words : goal.returns-clause-words
returns-clause-words g c = λ x of_a.
    let moduli : List ℕ = c.data_moduli-moduli.result.now in
    let first : CipherValue = c.set_parts.new.self in
    let parts : first.parts ≡ c.args.a.now.parts = c.set_parts.ensures.parts ∙ c.parts-parts.ensures.value in
    let rows : first.parts * length moduli ≡ c.parts-parts.result * length moduli = ap (λ (p : ℕ). p * length moduli) c.set_parts.ensures.parts in
    parts_multiple g.row.N c.args.ctx.now moduli c.args.a.now first c.loop-i.out c.loop-i.i c.loop-i.invariant.operand c.loop-i.invariant.over
    (omega arith) (omega arith) (centred_residue (plain_of c.args.ctx.now.set) (pos c.args.k)) c.loop-i.invariant.written x of_a

pub returns-clause-multiple : goal.returns-clause-multiple
returns-clause-multiple g c = λ s m bound h.
    HoldsIn-multiple g.row.N c.args.ctx.now c.loop-i.invariant.operand.degree_is c.args.a.now c.loop-i.out c.args.k (returns-clause-words g c) h
