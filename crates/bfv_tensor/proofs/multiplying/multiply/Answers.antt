use Rattle.std.proofs.Common.{◌≡◌, ◌*◌, ◌∙◌, ℕ, ap, arith, length, lit<}
use Rattle.std.proofs.lemmas.List.{length-take-le}
use Rattle.bfv_model.specs.Holds.{listed_word}
use Rattle.bfv_tensor.specs.Rows.{AreSmallParts}
use Rattle.bfv_tensor.proofs.Products.{HoldsIn-product, product_written, small_parts}
use Rattle.bfv_tensor.proofs.ProductModuli.{enough_rows}
use Rattle.bfv_tensor.proofs.multiplying.multiply.Goals as goal

pub write_parts-requires : goal.write_parts-requires
write_parts-requires g c =
    let n : ℕ = g.row.N in
    let ctx = c.args.ctx.now in
    let count = c.rows_of_part-count.ensures in
    let a = c.transform_parts.ensures.lifted in
    let b = c.transform_parts-2.ensures.lifted in
    let small : AreSmallParts n ctx c.multiply_parts.new.out =
    small_parts n ctx count.degree count.within (listed_word ctx.level c.args.a.now.rows) (listed_word ctx.level c.args.b.now.rows) c.transform_parts.new.out c.transform_parts-2.new.out
    c.multiply_parts.new.out a b c.multiply_parts.ensures.products in
    let whole : length c.view_mut.result.now ≡ length c.args.scratch.now = ap length c.view_mut.ensures.value in
    let rows : length c.multiply_parts.new.out ≡ 3 * c.rows_of_part-count.result =
    c.multiply_parts.auto.out ∙ ap length c.split-products.ensures.first
    ∙ length-take-le (3 * c.rows_of_part-count.result) c.view_mut.result.now (omega (arith, whole, enough_rows ctx, c.requires.scratch_rows, count.value)) in
    (lit< tt, (omega (arith, count.limit), (lit< tt, (c.requires.out_of, (omega (arith, rows, count.value), small)))))

pub returns-clause-words : goal.returns-clause-words
returns-clause-words g c =
    let n : ℕ = g.row.N in
    let ctx = c.args.ctx.now in
    let count = c.rows_of_part-count.ensures in
    let a = c.transform_parts.ensures.lifted in
    let b = c.transform_parts-2.ensures.lifted in
    let small : AreSmallParts n ctx c.multiply_parts.new.out =
    small_parts n ctx count.degree count.within (listed_word ctx.level c.args.a.now.rows) (listed_word ctx.level c.args.b.now.rows) c.transform_parts.new.out c.transform_parts-2.new.out
    c.multiply_parts.new.out a b c.multiply_parts.ensures.products in
    product_written n ctx count.degree count.within c.args.a.now c.args.b.now c.write_parts.new.out c.transform_parts.new.out c.transform_parts-2.new.out a b
    (c.write_parts.ensures.words small)

pub returns-clause-product : goal.returns-clause-product
returns-clause-product g c = λ s m other bound more ternary of_a small of_b small_too.
    let count = c.rows_of_part-count.ensures in
    HoldsIn-product g.row.N c.args.ctx.now count.degree count.within c.args.a.now c.args.b.now c.write_parts.new.out c.requires.a_of c.transform_parts.ensures.kept c.requires.a_parts
    c.requires.b_of c.transform_parts-2.ensures.kept c.requires.b_parts (returns-clause-words g c) ternary of_a small of_b small_too
