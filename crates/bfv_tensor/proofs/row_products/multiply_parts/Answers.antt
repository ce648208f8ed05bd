use Rattle.std.proofs.Common.{◌≡◌, ◌*◌, ◌∙◌, ℕ, ap, arith, length}
use Rattle.std.proofs.lemmas.List.{length-drop, length-take-le}
use Rattle.bfv_tensor.specs.Rows.{part_rows, product_moduli, product_part}
use Rattle.bfv_tensor.proofs.JoinedRows.{three_parts}
use Rattle.bfv_tensor.proofs.ProductModuli.{part_rows_is}
use Rattle.bfv_tensor.proofs.row_products.multiply_parts.Goals as goal

pub returns : goal.returns
returns g c = record {
  products = λ x y of_a of_b.
      let n : ℕ = g.row.N in
      let ctx = c.args.ctx.now in
      let count : ℕ = c.rows_of_part-count.result in
      let value = c.rows_of_part-count.ensures.value in
      let made = c.multiply_rows.ensures.products x y of_a of_b in
      let first : length c.multiply_rows.new.first ≡ part_rows ctx =
      c.multiply_rows.auto.first ∙ ap length c.split-first.ensures.first ∙ length-take-le count c.args.out.now (omega (arith, c.requires.count, value)) ∙ value in
      let rest : length c.split-first.result.1.now ≡ 2 * part_rows ctx =
      ap length c.split-first.ensures.second ∙ length-drop count c.args.out.now ∙ omega (arith, c.requires.count, value) in
      let middle : length c.multiply_rows.new.middle ≡ part_rows ctx =
      c.multiply_rows.auto.middle ∙ ap length c.split-middle.ensures.first ∙ length-take-le count c.split-first.result.1.now (omega (arith, rest, value)) ∙ value in
      three_parts n (part_rows ctx) (product_moduli ctx) c.multiply_rows.new.first c.multiply_rows.new.middle c.multiply_rows.new.last (product_part n x y)
      (part_rows_is ctx c.rows_of_part-count.ensures.within) first middle made.0 made.1 made.2;
}
