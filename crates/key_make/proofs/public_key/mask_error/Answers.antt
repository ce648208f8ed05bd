use Rattle.std.proofs.Common.{ℕ, ℤ, sym, subst, List}
use Rattle.ring_law.specs.Polynomials.{ring_negative, ring_product, ring_sum}
use Rattle.ring_law.specs.Rows.{listed_polynomial}
use Rattle.rns_poly.specs.Rows.{EachRepresents}
use Rattle.rns_poly.specs.Transforms.{AreTransforms}
use Rattle.bfv_params.specs.Contexts.{data_in, transforms_in}
use Rattle.key_make.proofs.public_key.mask_error.Goals as goal

pub returns-clause-represents : goal.returns-clause-represents
returns-clause-represents g c = λ a mask_is.
    let n : ℕ = g.row.N in
    let named = c.data_moduli-moduli.ensures.value in
    let s = listed_polynomial c.args.secret.now.small in
    let e = listed_polynomial c.args.error.now in
    let factor : AreTransforms (transforms_in c.args.ctx.now) c.transform_small_into.new.out (λ i. s) =
    subst (λ (small : List ℤ). AreTransforms (transforms_in c.args.ctx.now) c.transform_small_into.new.out (λ i. listed_polynomial small)) c.small.ensures.value
    c.transform_small_into.ensures.transforms in
    let product : EachRepresents n (data_in c.args.ctx.now) c.multiply_into.new.out (λ i. ring_product n (a i) s) =
    c.multiply_into.ensures.products a (λ i. s) mask_is factor in
    subst (λ (qs : List ℕ). EachRepresents n qs c.neg_into.new.out (λ i. ring_negative (ring_sum (ring_product n (a i) s) e))) named
    (c.neg_into.ensures.represents (λ i. ring_sum (ring_product n (a i) s) e)
    (c.add_into.ensures.represents (λ i. ring_product n (a i) s) (λ i. e)
    (subst (λ (qs : List ℕ). EachRepresents n qs c.multiply_into.new.out (λ i. ring_product n (a i) s)) (sym named) product) c.set_small.ensures.represents))
