use Rattle.std.proofs.Common.{◌≡◌, ◌∙◌, ℕ, ℤ, List, ap, sym, subst}
use Rattle.set_table.specs.Sets.{degree_of}
use Rattle.ring_law.specs.Polynomials.{ring_product, ring_sum}
use Rattle.rns_poly.specs.Rows.{EachRepresents}
use Rattle.bfv_model.specs.Holds.{listed_word}
use Rattle.bfv_params.specs.Contexts.{data_in}
use Rattle.bfv_params.proofs.Parts.{part_in_context, third_part_in_context}
use Rattle.bfv_params.proofs.Products.{AreParameters-data_at, positive_at, transforms_of_congruent, transforms_of_sum}
use Rattle.behz_decrypt.proofs.PhaseRows.{slope_of_two}
use Rattle.behz_decrypt.proofs.phases.slope_into.Goals as goal

pub returns-then-parts-eq2-clause-transforms : goal.returns-then-parts-eq2-clause-transforms
returns-then-parts-eq2-clause-transforms g c = λ x1 x2 s first third small.
    let n : ℕ = g.row.N in
    let ctx = c.args.ctx.now in
    let moduli = data_in ctx in
    let cipher = c.args.cipher.now in
    let of = c.requires.cipher_of in
    let kept = c.parts.ensures.kept in
    let degree : n ≡ degree_of ctx.set = kept.degree ∙ ap degree_of of.set in
    let fit = AreParameters-data_at n ctx.set ctx.level degree in
    let none = third_part_in_context ctx cipher of n kept (sym c.parts.ensures.value ∙ c.if-parts-eq2.true) in
    transforms_of_congruent n ctx.set moduli fit c.transform_into.new.out (λ i. x1) (λ i. ring_sum x1 (ring_product n x2 s))
    (λ i within. slope_of_two n moduli (listed_word ctx.level cipher.rows 2) x1 x2 s third none i within (positive_at n ctx.set moduli fit i within))
    (c.transform_into.ensures.transforms (λ i. x1) (part_in_context ctx cipher of n 1 c.part-first.result.rows.now x1 c.part-first.ensures.represents first))

pub returns-clause-transforms : goal.returns-clause-transforms
returns-clause-transforms g c = λ x1 x2 s first third small.
    let n : ℕ = g.row.N in
    let ctx = c.args.ctx.now in
    let moduli = data_in ctx in
    let cipher = c.args.cipher.now in
    let of = c.requires.cipher_of in
    let a = c.transform_into-3.new.out in
    let b = c.multiply_transforms_into.new.out in
    let out = c.add_into.new.out in
    let Sums : List ℕ → Type 0 = λ qs. (u v : ℕ → ℕ → ℤ) → EachRepresents n qs a u → EachRepresents n qs b v → EachRepresents n qs out (λ i. ring_sum (u i) (v i)) in
    transforms_of_sum n ctx.set moduli (AreParameters-data_at n ctx.set ctx.level c.data_moduli.ensures.degree) a b out (λ i. x1) (λ i. ring_product n x2 s)
    (c.transform_into-3.ensures.transforms (λ i. x1) (part_in_context ctx cipher of n 1 c.part-first.result.rows.now x1 c.part-first.ensures.represents first))
    (c.multiply_transforms_into.ensures.transforms (λ i. x2) (λ i. s)
    (c.transform_into-2.ensures.transforms (λ i. x2) (part_in_context ctx cipher of n 2 c.part.result.rows.now x2 c.part.ensures.represents third)) small)
    (subst Sums c.data_moduli.ensures.value c.add_into.ensures.represents)
