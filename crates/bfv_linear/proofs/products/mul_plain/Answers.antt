use Rattle.std.proofs.Common.{◌≡◌, ◌≤◌, ◌∙◌, ℕ, ℤ, List, slice_index, length, sym, subst, ap, arith, lit<}
use Rattle.std.proofs.lemmas.List.{length-map, length-take-le}
use Rattle.set_table.specs.Sets.{plain_of}
use Rattle.ring_law.specs.Rows.{IsReduced}
use Rattle.neg_ntt.specs.Parameters.{Parameters}
use Rattle.rns_poly.specs.Rows.{AreReduced, EachRepresents}
use Rattle.rns_poly.specs.Transforms.{AreTransforms, moduli_of}
use Rattle.bfv_params.specs.Moduli.{data_at}
use Rattle.bfv_params.specs.Transforms.{transform_of}
use Rattle.bfv_params.proofs.Parts.{moduli_of_transforms}
use Rattle.bfv_params.proofs.Tables.{degree_of-limit}
use Rattle.bfv_linear.specs.Plaintexts.{centred_plain}
use Rattle.bfv_linear.proofs.Operations.{HoldsIn-product}
use Rattle.bfv_linear.proofs.products.mul_plain.Goals as goal

pub set_centred-requires : goal.set_centred-requires
set_centred-requires g c =
    let n : ℕ = g.row.N in
    let moduli : List ℕ = c.data_moduli-moduli.result.now in
    let degree : n ≤ 32768 = subst (λ m. m ≤ 32768) (sym c.set.ensures.degree) (degree_of-limit c.args.ctx.now.set) in
    let plain : c.plain.result ≡ plain_of c.args.ctx.now.set = c.plain.ensures ∙ ap plain_of c.set.ensures.value in
    let rows : length c.view_mut.result.now ≡ length c.args.scratch.now = ap length c.view_mut.ensures.value in (
      omega (arith, degree),
      (
        degree,
        (
          subst (λ t. IsReduced n t c.args.plain.now) (sym plain) c.requires.below,
          ap length c.split-factors.ensures.first ∙ length-take-le (length moduli) c.view_mut.result.now (omega (arith, c.data_moduli-moduli.ensures.count, c.requires.scratch_rows)),
        ),
      ),
    )

pub forward_all-requires : goal.forward_all-requires
forward_all-requires g c =
    let n : ℕ = g.row.N in
    let set = c.args.ctx.now.set in
    let moduli : List ℕ = c.data_moduli-moduli.result.now in
    let listed : moduli ≡ data_at set c.args.ctx.now.level = c.data_moduli-moduli.ensures.value in
    let transforms : List Parameters = c.data_transforms.result.now in
    let degree : n ≤ 32768 = subst (λ m. m ≤ 32768) (sym c.set.ensures.degree) (degree_of-limit set) in
    let rows : length c.view_mut.result.now ≡ length c.args.scratch.now = ap length c.view_mut.ensures.value in
    let factors : length c.set_centred.new.out ≡ length moduli =
    c.set_centred.auto.out ∙ ap length c.split-factors.ensures.first ∙ length-take-le (length moduli) c.view_mut.result.now (omega (arith, c.data_moduli-moduli.ensures.count, c.requires.scratch_rows)) in
    let count : length transforms ≡ length moduli = ap length c.data_transforms.ensures.value ∙ length-map (data_at set c.args.ctx.now.level) (transform_of set) ∙ sym (ap length listed) in
    let same : moduli_of transforms ≡ moduli = ap moduli_of c.data_transforms.ensures.value ∙ moduli_of_transforms set (data_at set c.args.ctx.now.level) ∙ sym listed in
    (lit< tt, (omega (arith, degree), (degree, (factors ∙ sym count, subst (λ ms. AreReduced n ms c.set_centred.new.out) (sym same) c.set_centred.ensures.reduced))))

pub returns-clause-words : goal.returns-clause-words
returns-clause-words g c = λ x of_a.
    let n : ℕ = g.row.N in
    let set = c.args.ctx.now.set in
    let moduli : List ℕ = c.data_moduli-moduli.result.now in
    let listed : moduli ≡ data_at set c.args.ctx.now.level = c.data_moduli-moduli.ensures.value in
    let transforms : List Parameters = c.data_transforms.result.now in
    let same : moduli_of transforms ≡ moduli = ap moduli_of c.data_transforms.ensures.value ∙ moduli_of_transforms set (data_at set c.args.ctx.now.level) ∙ sym listed in
    let plain : c.plain.result ≡ plain_of set = c.plain.ensures ∙ ap plain_of c.set.ensures.value in
    let factor : ℕ → ℤ = centred_plain (plain_of set) (slice_index c.args.plain.now) in
    let centred : EachRepresents n moduli c.set_centred.new.out (λ i. factor) =
    subst (λ t. EachRepresents n moduli c.set_centred.new.out (λ i. centred_plain t (slice_index c.args.plain.now))) plain c.set_centred.ensures.represents in
    let turned : AreTransforms transforms c.forward_all.new.rows (λ i. factor) =
    c.forward_all.ensures.transforms (λ i. factor) (subst (λ ms. EachRepresents n ms c.set_centred.new.out (λ i. factor)) (sym same) centred) in
    c.multiply_rows.ensures.words factor (subst (λ ts. AreTransforms ts c.forward_all.new.rows (λ i. factor)) c.data_transforms.ensures.value turned) x of_a

pub returns-clause-product : goal.returns-clause-product
returns-clause-product g c = λ s m bound h.
    HoldsIn-product g.row.N c.args.ctx.now c.data_moduli-moduli.ensures.degree c.args.a.now c.multiply_rows.new.out (slice_index c.args.plain.now) (returns-clause-words g c) h
