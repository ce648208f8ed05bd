use Rattle.std.proofs.Common.{ℕ, ℤ, List, subst}
use Rattle.rns_poly.specs.Rows.{EachRepresents, entrywise_product}
use Rattle.bfv_params.specs.Contexts.{data_in}
use Rattle.bfv_params.proofs.Products.{AreParameters-data_at, transforms_of_product}
use Rattle.bfv_params.proofs.ring_products.multiply_transforms_into.Goals as goal

pub returns-clause-transforms : goal.returns-clause-transforms
returns-clause-transforms g c = λ x y a_is b_is.
    let n : ℕ = g.row.N in
    let ctx = c.args.ctx.now in
    let a = c.args.a.rows.now in
    let b = c.args.b.rows.now in
    let out = c.pointwise_into.new.out in
    let Products : List ℕ → Type 0 = λ qs. (u v : ℕ → ℕ → ℤ) → EachRepresents n qs a u → EachRepresents n qs b v → EachRepresents n qs out (λ i. entrywise_product (u i) (v i)) in
    transforms_of_product n ctx.set (data_in ctx) (AreParameters-data_at n ctx.set ctx.level c.data_moduli.ensures.degree) a b out x y a_is b_is
    (subst Products c.data_moduli.ensures.value c.pointwise_into.ensures.represents)
