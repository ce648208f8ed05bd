use Rattle.std.proofs.Common.{◌≡◌, ◌+◌, ◌<◌, ◌∙◌, ℕ, List, [], Some, arith, get_or, length, lit<, subst, sym}
use Rattle.std.specs.Prelude.{slice_get}
use Rattle.std.proofs.lemmas.Option.{get_or_from_slice_get}
use Rattle.ring_law.specs.Rows.{RowRepresents}
use Rattle.neg_ntt.specs.Parameters.{IsTransformBy, Parameters}
use Rattle.bfv_params.specs.Rows.{ReducedInTurn}
use Rattle.bfv_params.specs.Transforms.{transform_of}
use Rattle.bfv_tensor.specs.Rows.{AreProductRows, product_moduli, product_part, product_transforms}
use Rattle.bfv_tensor.proofs.JoinedRows.{pair_reduced}
use Rattle.bfv_tensor.proofs.ProductModuli.{modulus_at_is, part_rows_is, transform_at_is, transform_is}
use Rattle.bfv_tensor.proofs.WordProducts.{rows_written}
use Rattle.bfv_tensor.proofs.row_products.multiply_rows.Goals as goal

pub multiply_row-requires : goal.multiply_row-requires
multiply_row-requires g c =
    let n : ℕ = g.row.N in
    let ctx = c.args.ctx.now in
    let i : ℕ = c.loop-i.i in
    let count : ℕ = c.rows_of_part-count.result in
    let qs : List ℕ = product_moduli ctx in
    let t : Parameters = c.transform_at.result.now in
    let q = modulus_at_is ctx.set qs i t c.transform_at.ensures in
    let limit = c.rows_of_part-count.ensures.limit in
    let value = c.rows_of_part-count.ensures.value in
    let a_reduced : ReducedInTurn n count qs c.args.a.rows.now = subst (λ m. ReducedInTurn n m qs c.args.a.rows.now) (sym value) c.requires.a_reduced in
    let b_reduced : ReducedInTurn n count qs c.args.b.rows.now = subst (λ m. ReducedInTurn n m qs c.args.b.rows.now) (sym value) c.requires.b_reduced in
    let first = pair_reduced n count qs c.args.a.rows.now c.pair_at.result.first.now t.modulus 0 i i a_reduced (omega arith) c.loop-i-test.true c.pair_at.ensures.first q in
    let second = pair_reduced n count qs c.args.a.rows.now c.pair_at.result.second.now t.modulus 1 i (count + i) a_reduced (omega arith) c.loop-i-test.true c.pair_at.ensures.second q in
    let third = pair_reduced n count qs c.args.b.rows.now c.pair_at-in-loop-i.result.first.now t.modulus 0 i i b_reduced (omega arith) c.loop-i-test.true c.pair_at-in-loop-i.ensures.first q in
    let fourth = pair_reduced n count qs c.args.b.rows.now c.pair_at-in-loop-i.result.second.now t.modulus 1 i (count + i) b_reduced (omega arith) c.loop-i-test.true c.pair_at-in-loop-i.ensures.second q in
    (lit< tt, (lit< tt, (lit< tt, (omega (arith, limit), (limit, (first, (second, (third, fourth))))))))

pub loop-i-preserved : goal.loop-i-preserved
loop-i-preserved g c =
    let n : ℕ = g.row.N in
    let ctx = c.args.ctx.now in
    let i : ℕ = c.loop-i.i in
    let count : ℕ = c.rows_of_part-count.result in
    let qs : List ℕ = product_moduli ctx in
    let t : Parameters = c.transform_at.result.now in
    let a : List (List ℕ) = c.args.a.rows.now in
    let b : List (List ℕ) = c.args.b.rows.now in
    let d0 : List ℕ = c.multiply_row.new.first in
    let d1 : List ℕ = c.multiply_row.new.middle in
    let d2 : List ℕ = c.multiply_row.new.last in
    let a0 = get_or_from_slice_get a i c.pair_at.result.first.now [] c.pair_at.ensures.first in
    let a1 = get_or_from_slice_get a (count + i) c.pair_at.result.second.now [] c.pair_at.ensures.second in
    let b0 = get_or_from_slice_get b i c.pair_at-in-loop-i.result.first.now [] c.pair_at-in-loop-i.ensures.first in
    let b1 = get_or_from_slice_get b (count + i) c.pair_at-in-loop-i.result.second.now [] c.pair_at-in-loop-i.ensures.second in
    let Q : Parameters → Type 0 = λ u. AreProductRows n u (get_or a i []) (get_or a (count + i) []) (get_or b i []) (get_or b (count + i) []) d0 d1 d2 in
    let made : Q t = λ x y of_a0 of_a1 of_b0 of_b1. c.multiply_row.ensures.products x y (subst (λ r. IsTransformBy t r (x 0)) a0 of_a0) (subst (λ r. IsTransformBy t r (x 1)) a1 of_a1)
    (subst (λ r. IsTransformBy t r (y 0)) b0 of_b0) (subst (λ r. IsTransformBy t r (y 1)) b1 of_b1) in
    rows_written
    (λ j x y z. (u : Parameters) → slice_get (product_transforms ctx) j ≡ Some u
    → AreProductRows n u (get_or a j []) (get_or a (count + j) []) (get_or b j []) (get_or b (count + j) []) x y z)
    c.loop-i.first c.loop-i.middle c.loop-i.last i d0 d1 d2 (omega (arith, c.loop-i.auto.first, c.requires.first_count, c.rows_of_part-count.ensures.value))
    (omega (arith, c.loop-i.auto.middle, c.requires.middle_count, c.rows_of_part-count.ensures.value))
    (omega (arith, c.loop-i.auto.last, c.requires.last_count, c.rows_of_part-count.ensures.value)) c.loop-i.invariant
    (λ u is. subst Q (sym (transform_at_is ctx.set qs i t c.transform_at.ensures) ∙ transform_at_is ctx.set qs i u is) made)

pub returns : goal.returns
returns g c = record {
  products = λ x y of_a of_b.
      let n : ℕ = g.row.N in
      let ctx = c.args.ctx.now in
      let count : ℕ = c.rows_of_part-count.result in
      let qs : List ℕ = product_moduli ctx in
      let a : List (List ℕ) = c.args.a.rows.now in
      let b : List (List ℕ) = c.args.b.rows.now in
      let all : (i : ℕ) → i < length qs → RowRepresents n (get_or qs i 0) (get_or c.loop-i.first i []) (product_part n x y 0)
      × RowRepresents n (get_or qs i 0) (get_or c.loop-i.middle i []) (product_part n x y 1) × RowRepresents n (get_or qs i 0) (get_or c.loop-i.last i []) (product_part n x y 2) =
      λ i within.
      let t : Parameters = transform_of ctx.set (get_or qs i 0) in
      let is : slice_get (product_transforms ctx) i ≡ Some t = transform_is ctx.set qs i within in
      let inside : i < c.loop-i.i = omega (arith, part_rows_is ctx c.rows_of_part-count.ensures.within, c.rows_of_part-count.ensures.value) in
      c.loop-i.invariant i inside t is x y
      (subst (λ p. IsTransformBy t (get_or a p []) (x 0)) (omega arith) (of_a 0 i t (lit< tt) is))
      (subst (λ p. IsTransformBy t (get_or a p []) (x 1)) (omega (arith, c.rows_of_part-count.ensures.value)) (of_a 1 i t (lit< tt) is))
      (subst (λ p. IsTransformBy t (get_or b p []) (y 0)) (omega arith) (of_b 0 i t (lit< tt) is))
      (subst (λ p. IsTransformBy t (get_or b p []) (y 1)) (omega (arith, c.rows_of_part-count.ensures.value)) (of_b 1 i t (lit< tt) is)) in
      (λ i k within less. (all i within).0 k less, λ i k within less. (all i within).1 k less, λ i k within less. (all i within).2 k less);
}
