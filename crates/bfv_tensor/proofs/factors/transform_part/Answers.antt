use Rattle.std.proofs.Common.{◌≡◌, ◌∙◌, ◌≤◌, ℕ, ℤ, List, ap, arith, length, lit<, subst, sym}
use Rattle.std.proofs.lemmas.List.{length-drop, length-take-le}
use Rattle.ring_law.specs.Moduli.{product}
use Rattle.ring_law.specs.Rows.{Represents, word_at}
use Rattle.ring_law.proofs.Congruence.{Congruent-sym}
use Rattle.ring_law.proofs.Rows.{WordsRepresent-congruent}
use Rattle.rns_poly.specs.Rows.{AreReduced}
use Rattle.rns_poly.specs.Transforms.{moduli_of}
use Rattle.bfv_params.specs.Contexts.{data_in}
use Rattle.bfv_params.specs.Moduli.{wide_of}
use Rattle.bfv_params.proofs.Coprimality.{data_length}
use Rattle.bfv_params.proofs.Parts.{moduli_of_transforms}
use Rattle.bfv_params.proofs.Products.{reduced_by_transforms, transforms_length, transforms_of_rows}
use Rattle.bfv_tensor.proofs.LiftedParts.{lifted_rows, some_polynomial}
use Rattle.bfv_tensor.proofs.JoinedRows.{reduced_by_residues, reduced_joined, transforms_joined}
use Rattle.bfv_tensor.proofs.ProductModuli.{data_above_one, wide_above_one}
use Rattle.bfv_tensor.proofs.factors.transform_part.Goals as goal

pub forward_all-requires : goal.forward_all-requires
forward_all-requires g c =
    let n : ℕ = g.row.N in
    let ctx = c.args.ctx.now in
    let limit : n ≤ 32768 = c.data_moduli.ensures.limit in
    let some = some_polynomial n ctx c.args.part.rows.now c.requires.part_reduced in
    let lift = lifted_rows n ctx c.args.part.rows.now c.slice.result.now c.lift.new.to c.lift_conv.result.now c.slice.ensures c.lift_conv.ensures c.lift.ensures some.0 some.1 in
    let reduced : AreReduced n (wide_of ctx.set) c.lift.new.to = reduced_by_residues n (wide_of ctx.set) c.lift.new.to lift.0 (wide_above_one ctx.set) lift.2 in
    let count : length c.aux_transforms.result.now ≡ length (wide_of ctx.set) = transforms_length ctx.set (wide_of ctx.set) c.aux_transforms.result.now c.aux_transforms.ensures in
    let rest : length c.split-data.result.1.now ≡ length (wide_of ctx.set) =
    ap length c.split-data.ensures.second ∙ length-drop (length c.data_moduli.result.now) c.args.out.now ∙ omega (arith, c.requires.count, c.data_moduli.ensures.count) in (
      lit< tt,
      (
        omega (arith, limit),
        (
          limit,
          (
            c.lift.auto.to ∙ rest ∙ sym count,
            reduced_by_transforms n ctx.set (wide_of ctx.set) c.aux_transforms.result.now c.lift.new.to c.aux_transforms.ensures reduced,
          ),
        ),
      ),
    )

pub returns-clause-lifted : goal.returns-clause-lifted
returns-clause-lifted g c = λ x represents.
    let n : ℕ = g.row.N in
    let ctx = c.args.ctx.now in
    let part : List (List ℕ) = c.args.part.rows.now in
    let level = data_length ctx.set ctx.level c.data_moduli.ensures.within in
    let lift = lifted_rows n ctx part c.slice.result.now c.lift.new.to c.lift_conv.result.now c.slice.ensures c.lift_conv.ensures c.lift.ensures x represents in
    let y : ℕ → ℤ = lift.0 in
    let first : length c.transform_into.new.out ≡ length (data_in ctx) =
    c.transform_into.auto.out ∙ ap length c.split-data.ensures.first
    ∙ length-take-le (length c.data_moduli.result.now) c.args.out.now (omega (arith, c.requires.count, c.data_moduli.ensures.count))
    ∙ c.data_moduli.ensures.count ∙ level in
    let same : Represents n (data_in ctx) part y =
    WordsRepresent-congruent n (data_in ctx) (word_at part) x y (data_above_one ctx) (record { at = λ k l. Congruent-sym (product (data_in ctx)) (lift.1.congruent.at k l) }) represents in (
      y,
      lift.1,
      transforms_joined ctx.set y (data_in ctx) (wide_of ctx.set) c.transform_into.new.out c.forward_all.new.rows first (c.transform_into.ensures.transforms (λ i. y) same)
          (transforms_of_rows n ctx.set (wide_of ctx.set) c.aux_transforms.result.now c.lift.new.to c.forward_all.new.rows c.aux_transforms.ensures c.forward_all.ensures.transforms (λ i. y) lift.2),
    )

pub returns-clause-reduced : goal.returns-clause-reduced
returns-clause-reduced g c =
    let n : ℕ = g.row.N in
    let ctx = c.args.ctx.now in
    let level = data_length ctx.set ctx.level c.data_moduli.ensures.within in
    let first : length c.transform_into.new.out ≡ length (data_in ctx) =
    c.transform_into.auto.out ∙ ap length c.split-data.ensures.first
    ∙ length-take-le (length c.data_moduli.result.now) c.args.out.now (omega (arith, c.requires.count, c.data_moduli.ensures.count))
    ∙ c.data_moduli.ensures.count ∙ level in
    let behind : AreReduced n (wide_of ctx.set) c.forward_all.new.rows =
    subst (λ (qs : List ℕ). AreReduced n qs c.forward_all.new.rows) (ap moduli_of c.aux_transforms.ensures ∙ moduli_of_transforms ctx.set (wide_of ctx.set)) c.forward_all.ensures.reduced in
    reduced_joined n (data_in ctx) (wide_of ctx.set) c.transform_into.new.out c.forward_all.new.rows first c.transform_into.ensures.reduced behind
