use Rattle.std.proofs.Common.{ℕ, List, ℤ, subst}
use Rattle.ring_law.specs.Rows.{listed_polynomial}
use Rattle.ring_law.specs.Polynomials.{ring_turn}
use Rattle.rns_poly.specs.Rows.{EachRepresents}
use Rattle.rns_poly.specs.Transforms.{AreTransforms}
use Rattle.bfv_params.specs.Contexts.{data_in, transforms_in}
use Rattle.bfv_params.proofs.Products.{transforms_of_rows}
use Rattle.key_switch.proofs.sources.turn_source.Goals as goal

pub returns-clause-transforms : goal.returns-clause-transforms
returns-clause-transforms g c =
    let n : ℕ = g.row.N in
    let ctx = c.args.ctx.now in
    let small : ℕ → ℤ = listed_polynomial c.small.result.now in
    let turned : EachRepresents n (data_in ctx) c.turn_each.new.rows (λ i. ring_turn n c.args.g small) =
    subst (λ (qs : List ℕ). EachRepresents n qs c.turn_each.new.rows (λ i. ring_turn n c.args.g small)) c.data_moduli-moduli.ensures.value
    (c.turn_each.ensures.turned (λ i. small) c.set_small.ensures.represents) in
    subst (λ (s : List ℤ). AreTransforms (transforms_in ctx) c.forward_all.new.rows (λ i. ring_turn n c.args.g (listed_polynomial s))) c.small.ensures.value
    (transforms_of_rows n ctx.set (data_in ctx) c.data_transforms.result.now c.turn_each.new.rows c.forward_all.new.rows c.data_transforms.ensures.value
    c.forward_all.ensures.transforms (λ i. ring_turn n c.args.g small) turned)
