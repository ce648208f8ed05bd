use Rattle.std.proofs.Common.{◌≡◌, ◌+◌, ◌*◌, ◌∙◌, ℕ, List, ap, arith, length, lit<, slice_index, subst, sym}
use Rattle.std.proofs.lemmas.List.{length-take-le}
use Rattle.ring_law.specs.Rows.{word_at}
use Rattle.rns_poly.specs.Rows.{AreReduced}
use Rattle.bfv_params.specs.Contexts.{data_in}
use Rattle.bfv_params.proofs.Coprimality.{data_length}
use Rattle.bfv_params.proofs.Parts.{data_of_cipher}
use Rattle.bfv_tensor.proofs.JoinedRows.{reduced_by_residues}
use Rattle.bfv_tensor.proofs.ProductModuli.{data_above_one}
use Rattle.bfv_tensor.proofs.WrittenParts.{scaled_back}
use Rattle.bfv_tensor.proofs.scaling.write_part.Goals as goal

pub set_part-requires : goal.set_part-requires
set_part-requires g c =
    let n : ℕ = g.row.N in
    let ctx = c.args.ctx.now in
    let out = c.args.out.now in
    let back : List (List ℕ) = c.back.new.to in
    let level = c.data_moduli.ensures in
    let found = scaled_back n ctx c.args.rows.now c.split-data.result.0.now c.split-data.result.1.now c.floor.new.to back c.floor_conv.result.now c.back_conv.result.now
    (length c.data_moduli.result.now) level.degree level.within level.count c.split-data.ensures.first c.split-data.ensures.second c.floor_conv.ensures c.back_conv.ensures
    c.floor.ensures c.back.ensures c.requires.small in
    let reduced : AreReduced n (data_in ctx) back = reduced_by_residues n (data_in ctx) back found.0 (data_above_one ctx) found.2 in
    let count : length back ≡ out.level =
    c.back.auto.to ∙ ap length c.split-data.ensures.first ∙ length-take-le (length c.data_moduli.result.now) c.args.rows.now (omega (arith, c.requires.count, level.count))
    ∙ level.count ∙ sym c.requires.out_of.level in
    (lit< tt, (lit< tt, (omega (arith, c.requires.place, c.requires.out_parts), (count, subst (λ (qs : List ℕ). AreReduced n qs back) (sym (data_of_cipher ctx out c.requires.out_of)) reduced))))

pub returns-clause-words : goal.returns-clause-words
returns-clause-words g c = λ d.
    let n : ℕ = g.row.N in
    let ctx = c.args.ctx.now in
    let out = c.args.out.now in
    let back : List (List ℕ) = c.back.new.to in
    let level = c.data_moduli.ensures in
    let found = scaled_back n ctx c.args.rows.now c.split-data.result.0.now c.split-data.result.1.now c.floor.new.to back c.floor_conv.result.now c.back_conv.result.now
    (length c.data_moduli.result.now) level.degree level.within level.count c.split-data.ensures.first c.split-data.ensures.second c.floor_conv.ensures c.back_conv.ensures
    c.floor.ensures c.back.ensures d in
    record {
      quotient = found.0;
      scaled = found.1;
      represents = λ i k in_list less.
          ap (λ (l : ℕ). word_at c.set_part.new.self.rows (c.args.j * l + i) k) (sym c.requires.out_of.level)
          ∙ ap (λ (row : List ℕ). slice_index row k) (c.set_part.ensures.written.written i (omega (arith, data_length ctx.set ctx.level level.within, c.requires.out_of.level)))
          ∙ found.2 i k in_list less;
    }
