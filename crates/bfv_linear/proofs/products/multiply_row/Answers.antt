use Rattle.std.proofs.Common.{◌≡◌, ◌*ℤ◌, ℕ, List, [], get_or, get_or-set_same, slice_index, slice_set, sym, subst, arith}
use Rattle.ring_law.specs.Polynomials.{ring_product}
use Rattle.ring_law.specs.Residues.{residue}
use Rattle.ring_law.specs.Rows.{RowRepresents}
use Rattle.neg_ntt.specs.Parameters.{IsTransformBy, Parameters}
use Rattle.bfv_linear.proofs.OneRow.{listed_represents}
use Rattle.bfv_linear.proofs.TransformedProducts.{transform_of_product}
use Rattle.bfv_linear.proofs.products.multiply_row.Goals as goal

pub returns-clause-represents : goal.returns-clause-represents
returns-clause-represents g c = λ x y row factor.
    let n : ℕ = g.row.N in
    let t : Parameters = c.args.transform.now in
    let q : ℕ = c.modulus-modulus.result.now in
    let modulus : q ≡ t.modulus = c.modulus-modulus.ensures.value in
    let factors : List (List ℕ) = c.args.factor.rows.now in
    let turned : List (List ℕ) = slice_set c.args.row.now 0 c.forward.new.row in
    let products : List (List ℕ) = c.pointwise_into.new.out in
    let first : get_or turned 0 [] ≡ c.forward.new.row = get_or-set_same c.args.row.now 0 c.forward.new.row [] (omega arith) in
    let product : IsTransformBy t (get_or products 0 []) (ring_product n x y) =
    transform_of_product n t x y c.forward.new.row (get_or factors 0 []) (get_or products 0 []) c.modulus-modulus.ensures.parameters c.forward.ensures.reduced c.requires.factor_reduced
    (c.forward.ensures.transform x row) factor
    (λ u v of_row of_factor k below. subst (λ m. slice_index (get_or products 0 []) k ≡ residue m (u k *ℤ v k)) modulus
    (c.pointwise_into.ensures.represents (λ j. u) (λ j. v)
    (listed_represents n q turned u (subst (λ m. RowRepresents n m (get_or turned 0 []) u) (sym modulus) (subst (λ r. RowRepresents n t.modulus r u) (sym first) of_row)))
    (listed_represents n q factors v (subst (λ m. RowRepresents n m (get_or factors 0 []) v) (sym modulus) of_factor)) 0 k (omega arith) below)) in
    subst (λ r. RowRepresents n t.modulus r (ring_product n x y))
    (sym (get_or-set_same products 0 c.inverse.new.row [] (let same = c.pointwise_into.auto.out in omega arith))) (c.inverse.ensures.unique (ring_product n x y) product)
