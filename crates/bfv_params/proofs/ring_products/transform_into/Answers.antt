use Rattle.std.proofs.Common.{◌≡◌, ◌∙◌, ℕ, List, subst, sym}
use Rattle.rns_poly.specs.Rows.{EachRepresents}
use Rattle.bfv_params.specs.Contexts.{data_in}
use Rattle.bfv_params.proofs.Products.{transforms_of_rows}
use Rattle.bfv_params.proofs.ring_products.transform_into.Goals as goal

pub returns-clause-transforms : goal.returns-clause-transforms
returns-clause-transforms g c = λ x represents.
    let ctx = c.args.ctx.now in
    let rows : List (List ℕ) = c.copy_from_slice.new.self in
    let copied : rows ≡ c.args.rows.rows.now = c.copy_from_slice.ensures.after ∙ c.slice.ensures in
    transforms_of_rows g.row.N ctx.set (data_in ctx) c.data_transforms.result.now rows c.forward_all.new.rows c.data_transforms.ensures.value c.forward_all.ensures.transforms x
    (subst (λ (rs : List (List ℕ)). EachRepresents g.row.N (data_in ctx) rs x) (sym copied) represents)
