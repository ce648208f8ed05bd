use Rattle.std.proofs.Common.{◌≡◌, ◌-◌, ◌*◌, ◌∙◌, ℕ, ℤ, List, [], ap, arith, get_or, length, slice_index, subst, sym}
use Rattle.std.proofs.lemmas.List.{get_or_default, length-drop}
use Rattle.set_table.specs.Sets.{gamma, plain_of}
use Rattle.ring_law.specs.Rows.{RowRepresents, listed_polynomial, natural_polynomial}
use Rattle.bfv_model.specs.Holds.{listed_word, phase}
use Rattle.behz_decrypt.proofs.Decrypted.{decrypted}
use Rattle.behz_decrypt.proofs.Splits.{front_length}
use Rattle.behz_decrypt.proofs.decrypting.decrypt_in_rows.Goals as goal

pub returns-clause-plain : goal.returns-clause-plain
returns-clause-plain g c = λ m W h small k less.
    let n = g.row.N in
    let set = c.args.ctx.now.set in
    let level : ℕ = c.args.ctx.now.level in
    let t = plain_of set in
    let s = listed_polynomial c.args.secret.now.small in
    let word = listed_word level c.args.cipher.now.rows in
    let count : ℕ = length c.data_moduli-level.result.now in
    let rows : List (List ℕ) = c.convert_phase.new.out in
    let rest : length c.split-phase.result.1.now ≡ length c.args.rows.now - count = ap length c.split-phase.ensures.second ∙ length-drop count c.args.rows.now in
    let last : length c.split-scratch.result.1.now ≡ length c.split-phase.result.1.now - 4 * count =
    ap length c.split-scratch.ensures.second ∙ length-drop (4 * count) c.split-phase.result.1.now in
    let two : length rows ≡ 2 =
    c.convert_phase.auto.out
    ∙ front_length 2 c.split-scratch.result.1.now c.split-converted.result.0.now c.split-converted.ensures.first
    (omega (arith, rest, last, c.data_moduli-level.ensures.count, c.requires.room)) in
    let in_plain : c.index-converted-0.result ≡ get_or rows 0 [] = c.index-converted-0.is ∙ get_or_default rows 0 c.index-converted-0.result [] (omega (arith, two)) in
    let in_gamma : c.index-converted-1.result ≡ get_or rows 1 [] = c.index-converted-1.is ∙ get_or_default rows 1 c.index-converted-1.result [] (omega (arith, two)) in
    let x0 = natural_polynomial (h.part 0) in
    let x1 = natural_polynomial (h.part 1) in
    let x2 = natural_polynomial (h.part 2) in
    let converted = c.convert_phase.ensures (phase n x0 x1 x2 s)
    (c.phase_into.ensures.represents x0 x1 x2 (h.represents 0 (omega arith)) (h.represents 1 (omega arith)) (h.represents 2 (omega arith))) in
    let y : ℕ → ℤ = converted.0 in
    let rounded = c.round_row.ensures.rounded y
    (subst (λ (row : List ℕ). RowRepresents n t row y) (sym in_plain) (λ j inside. converted.2 0 j (omega arith) inside))
    (subst (λ (row : List ℕ). RowRepresents n gamma row y) (sym in_gamma) (λ j inside. converted.2 1 j (omega arith) inside)) k less in
    decrypted n set level word s m W c.data_moduli-level.ensures.within h small k less (y k) (slice_index c.round_row.new.row k) (converted.1 k less) rounded
