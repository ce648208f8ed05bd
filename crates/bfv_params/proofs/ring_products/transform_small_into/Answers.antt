use Rattle.std.proofs.Common.{ℕ, List, subst}
use Rattle.ring_law.specs.Rows.{listed_polynomial}
use Rattle.rns_poly.specs.Rows.{EachRepresents}
use Rattle.bfv_params.specs.Contexts.{data_in}
use Rattle.bfv_params.proofs.Products.{transforms_of_rows}
use Rattle.bfv_params.proofs.ring_products.transform_small_into.Goals as goal

pub returns-clause-transforms : goal.returns-clause-transforms
returns-clause-transforms g c =
    let ctx = c.args.ctx.now in
    let small = listed_polynomial c.args.small.now in
    let rows : List (List ℕ) = c.set_small.new.out in
    transforms_of_rows g.row.N ctx.set (data_in ctx) c.data_transforms.result.now rows c.forward_all.new.rows c.data_transforms.ensures.value c.forward_all.ensures.transforms (λ i. small)
    (subst (λ (qs : List ℕ). EachRepresents g.row.N qs rows (λ i. small)) c.data_moduli.ensures.value c.set_small.ensures.represents)
