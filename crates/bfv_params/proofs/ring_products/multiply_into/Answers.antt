use Rattle.bfv_params.specs.Contexts.{data_in}
use Rattle.bfv_params.proofs.Products.{transforms_of_rows}
use Rattle.bfv_params.proofs.ring_products.multiply_into.Goals as goal

pub returns-clause-products : goal.returns-clause-products
returns-clause-products g c = λ x y a b.
    let ctx = c.args.ctx.now in
    c.product_into.ensures.represents x y
    (transforms_of_rows g.row.N ctx.set (data_in ctx) c.data_transforms.result.now c.args.a.now c.forward_all.new.rows c.data_transforms.ensures.value c.forward_all.ensures.transforms x a) b
