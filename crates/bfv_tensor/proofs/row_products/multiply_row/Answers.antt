use Rattle.std.proofs.Common.{ℕ, List, subst}
use Rattle.neg_ntt.specs.Parameters.{Parameters}
use Rattle.bfv_tensor.specs.Rows.{AreWordProducts, product_part}
use Rattle.bfv_tensor.proofs.WordProducts.{transform_of_product, transform_of_sum}
use Rattle.bfv_tensor.proofs.row_products.multiply_row.Goals as goal

pub returns : goal.returns
returns g c = record {
  products = λ x y of_a0 of_a1 of_b0 of_b1.
      let n : ℕ = g.row.N in
      let t : Parameters = c.args.transform.now in
      let a0 : List ℕ = c.args.a.first.now in
      let a1 : List ℕ = c.args.a.second.now in
      let b0 : List ℕ = c.args.b.first.now in
      let b1 : List ℕ = c.args.b.second.now in
      let first : List ℕ = c.multiply_words.new.first in
      let middle : List ℕ = c.multiply_words.new.middle in
      let last : List ℕ = c.multiply_words.new.last in
      let fit = c.modulus.ensures.parameters in
      let words : AreWordProducts t.modulus n a0 a1 b0 b1 first middle last =
      subst (λ q. AreWordProducts q n a0 a1 b0 b1 first middle last) c.modulus.ensures.value c.multiply_words.ensures.products in (
        c.inverse.ensures.unique (product_part n x y 0) (transform_of_product n t fit (x 0) (y 0) a0 b0 first of_a0 of_b0 words.first),
        c.inverse-2.ensures.unique (product_part n x y 1) (transform_of_sum n t fit (x 0) (y 1) (x 1) (y 0) a0 b1 a1 b0 middle of_a0 of_b1 of_a1 of_b0 words.middle),
        c.inverse-3.ensures.unique (product_part n x y 2) (transform_of_product n t fit (x 1) (y 1) a1 b1 last of_a1 of_b1 words.last),
      );
}
