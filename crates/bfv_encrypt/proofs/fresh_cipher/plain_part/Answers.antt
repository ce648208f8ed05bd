use Rattle.std.proofs.Common.{ℕ, sym, subst, List, slice_index}
use Rattle.set_table.specs.Sets.{plain_of}
use Rattle.ring_law.specs.Moduli.{product}
use Rattle.ring_law.specs.Polynomials.{ring_product, ring_sum}
use Rattle.ring_law.specs.Rows.{Represents, listed_polynomial, natural_polynomial}
use Rattle.rns_poly.specs.Rows.{EachRepresents}
use Rattle.bfv_model.specs.Plaintexts.{scaled_plain}
use Rattle.bfv_params.specs.Moduli.{data_at}
use Rattle.bfv_encrypt.proofs.fresh_cipher.plain_part.Goals as goal

pub returns-clause-represents : goal.returns-clause-represents
returns-clause-represents g c = λ p u key_is mask_is.
    let n : ℕ = g.row.N in
    let set = c.args.ctx.now.set in
    let moduli : List ℕ = data_at set c.args.ctx.now.level in
    let named = c.data_moduli-moduli.ensures.value in
    let e = listed_polynomial c.args.error.now in
    let scaled = natural_polynomial (λ k. scaled_plain (product moduli) (plain_of set) (slice_index c.args.plain.now k)) in
    let masked : EachRepresents n moduli c.masked_part.new.out (λ i. ring_sum (ring_product n (p i) (u i)) e) = c.masked_part.ensures.represents p u key_is mask_is in
    subst (λ (qs : List ℕ). EachRepresents n qs c.add_into.new.out (λ i. ring_sum (ring_sum (ring_product n (p i) (u i)) e) scaled)) named
    (c.add_into.ensures.represents (λ i. ring_sum (ring_product n (p i) (u i)) e) (λ i. scaled)
    (subst (λ (qs : List ℕ). EachRepresents n qs c.masked_part.new.out (λ i. ring_sum (ring_product n (p i) (u i)) e)) (sym named) masked)
    (subst (λ (qs : List ℕ). Represents n qs c.scaled_into.new.out scaled) (sym named) c.scaled_into.ensures.represents))
