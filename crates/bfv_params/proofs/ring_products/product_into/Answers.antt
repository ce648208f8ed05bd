use Rattle.ring_law.specs.Polynomials.{ring_product}
use Rattle.bfv_params.specs.Contexts.{data_in}
use Rattle.bfv_params.proofs.Products.{rows_of_transforms}
use Rattle.bfv_params.proofs.ring_products.product_into.Goals as goal

pub returns-clause-represents : goal.returns-clause-represents
returns-clause-represents g c = λ x y a b.
    let ctx = c.args.ctx.now in
    rows_of_transforms g.row.N ctx.set (data_in ctx) c.data_transforms.result.now c.multiply_transforms_into.new.out c.inverse_all.new.rows c.data_transforms.ensures.value
    c.inverse_all.ensures.represents (λ i. ring_product g.row.N (x i) (y i)) (c.multiply_transforms_into.ensures.transforms x y a b)
