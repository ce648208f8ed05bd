use Rattle.std.proofs.Common.{ℕ, sym, subst, List}
use Rattle.ring_law.specs.Polynomials.{ring_product, ring_sum}
use Rattle.ring_law.specs.Rows.{listed_polynomial}
use Rattle.rns_poly.specs.Rows.{EachRepresents}
use Rattle.bfv_params.specs.Contexts.{data_in}
use Rattle.bfv_encrypt.proofs.fresh_cipher.masked_part.Goals as goal

pub returns-clause-represents : goal.returns-clause-represents
returns-clause-represents g c = λ p u key_is mask_is.
    let n : ℕ = g.row.N in
    let named = c.data_moduli-moduli.ensures.value in
    let e = listed_polynomial c.args.error.now in
    let product : EachRepresents n (data_in c.args.ctx.now) c.product_into.new.out (λ i. ring_product n (p i) (u i)) =
    c.product_into.ensures.represents p u (c.transform_into.ensures.transforms p key_is) mask_is in
    subst (λ (qs : List ℕ). EachRepresents n qs c.add_into.new.out (λ i. ring_sum (ring_product n (p i) (u i)) e)) named
    (c.add_into.ensures.represents (λ i. ring_product n (p i) (u i)) (λ i. e)
    (subst (λ (qs : List ℕ). EachRepresents n qs c.product_into.new.out (λ i. ring_product n (p i) (u i))) (sym named) product) c.set_small.ensures.represents)
