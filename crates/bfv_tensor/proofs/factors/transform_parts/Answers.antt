use Rattle.std.proofs.Common.{◌≡◌, ◌∙◌, ℕ, List, ap, arith, length, subst}
use Rattle.std.proofs.lemmas.List.{length-drop, length-take-le}
use Rattle.rns_poly.specs.Rows.{AreReduced}
use Rattle.bfv_model.specs.Holds.{listed_word}
use Rattle.bfv_params.proofs.Parts.{data_of_cipher}
use Rattle.bfv_tensor.specs.Rows.{part_rows, product_moduli}
use Rattle.bfv_tensor.proofs.LiftedParts.{parts_lifted, some_polynomial, words_of_part}
use Rattle.bfv_tensor.proofs.JoinedRows.{reduced_pair}
use Rattle.bfv_tensor.proofs.ProductModuli.{part_rows_is}
use Rattle.bfv_tensor.proofs.factors.transform_parts.Goals as goal

pub returns-clause-lifted : goal.returns-clause-lifted
returns-clause-lifted g c =
    let n : ℕ = g.row.N in
    let ctx = c.args.ctx.now in
    let cipher = c.args.cipher.now in
    let of = c.requires.cipher_of in
    let within = c.rows_of_part.ensures.within in
    let same = data_of_cipher ctx cipher of in
    let zeroth : List (List ℕ) = c.part.result.rows.now in
    let first : List (List ℕ) = c.part-2.result.rows.now in
    let x0 = some_polynomial n ctx zeroth (subst (λ (qs : List ℕ). AreReduced n qs zeroth) same c.part.ensures.reduced) in
    let x1 = some_polynomial n ctx first (subst (λ (qs : List ℕ). AreReduced n qs first) same c.part-2.ensures.reduced) in
    let lift0 = c.transform_part.ensures.lifted x0.0 x0.1 in
    let lift1 = c.transform_part-2.ensures.lifted x1.0 x1.1 in
    let count : length c.transform_part.new.out ≡ part_rows ctx =
    c.transform_part.auto.out ∙ ap length c.split-first.ensures.first
    ∙ length-take-le c.rows_of_part.result c.args.out.now (omega (arith, c.requires.count, c.rows_of_part.ensures.value)) ∙ c.rows_of_part.ensures.value in
    parts_lifted n ctx (listed_word ctx.level cipher.rows) c.transform_part.new.out c.transform_part-2.new.out within count x0.0 x1.0 lift0.0 lift1.0 lift0.2 lift1.2
    (words_of_part n ctx cipher 0 zeroth x0.0 of within c.part.ensures.value x0.1) (words_of_part n ctx cipher 1 first x1.0 of within c.part-2.ensures.value x1.1)
    lift0.1 lift1.1

pub returns-clause-reduced : goal.returns-clause-reduced
returns-clause-reduced g c =
    let ctx = c.args.ctx.now in
    let value = c.rows_of_part.ensures.value in
    let first : length c.transform_part.new.out ≡ part_rows ctx =
    c.transform_part.auto.out ∙ ap length c.split-first.ensures.first ∙ length-take-le c.rows_of_part.result c.args.out.now (omega (arith, c.requires.count, value)) ∙ value in
    let second : length c.transform_part-2.new.out ≡ part_rows ctx =
    c.transform_part-2.auto.out ∙ ap length c.split-first.ensures.second ∙ length-drop c.rows_of_part.result c.args.out.now ∙ omega (arith, c.requires.count, value) in
    reduced_pair g.row.N (part_rows ctx) (product_moduli ctx) c.transform_part.new.out c.transform_part-2.new.out (part_rows_is ctx c.rows_of_part.ensures.within) first second
    c.transform_part.ensures.reduced c.transform_part-2.ensures.reduced
