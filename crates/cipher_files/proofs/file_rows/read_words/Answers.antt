use Rattle.std.proofs.Common.{◌≡◌, ℕ, ◌+◌, ◌-◌, ◌*◌, ◌<◌, ◌≤◌, ◌∙◌, ap, rules, arith, length, take, drop, length-take, length-drop}
use Rattle.std.proofs.lemmas.Slice.{take-put_mid}
use Rattle.outer_io.specs.Store.{contents}
use Rattle.file_model.specs.Bytes.{bytes_from}
use Rattle.cipher_files.proofs.FileRows.{one_more_piece}
use Rattle.cipher_files.proofs.file_rows.read_words.Goals as goal

pub pieces-init : goal.pieces-init
pieces-init g c = record {
  keeps = search rules;
  within = omega arith;
  told = λ files told. record { there = λ some. absurd (omega arith); inside = λ some. absurd (omega arith); words = λ k below. absurd (omega arith) };
}

pub pieces-preserved : goal.pieces-preserved
pieces-preserved g c =
    let done = c.pieces.done in
    let count = c.min-count.result in
    let long = c.min-count.array_long in
    let room : length (take (8 * count) c.pieces.buf) ≡ 8 * count = simp length-take (omega arith) in
    record {
      keeps = search rules;
      within = omega arith;
      told = λ files told.
          let bytes = contents files c.args.name.now in
          let read = (c.in_ok-read_again.ensures.told files (c.pieces.invariant.keeps.files ∙ told)).ok in
          let ends : (0 < length (take (8 * count) c.pieces.buf) → c.args.at + 8 * done + length (take (8 * count) c.pieces.buf) ≤ length bytes) → c.args.at + 8 * done + 8 * count ≤ length bytes =
          λ inside. let here = inside (omega arith) in omega arith in
          let asked : length (take (done + count - done) (drop done c.pieces.out)) ≡ count = simp (length-take, length-drop) (omega arith) in
          one_more_piece files c.args.name.now c.args.at done count c.read_again.new.buf c.pieces.out _ c.decode.new.out
          (c.pieces.invariant.told files told) read.0
          (take-put_mid done (done + count - done) c.pieces.out c.decode.new.out (done + count) (omega arith) (omega arith)) (omega arith)
          (ends read.1.1)
          (read.1.0 ∙ ap (λ (x : ℕ). bytes_from (c.args.at + 8 * done) x bytes) room)
          (λ k below. c.decode.ensures k (omega arith));
    }

pub returns-clause-told : goal.returns-clause-told
returns-clause-told g c = λ files told.
    let so_far = c.pieces.invariant.told files told in
    let whole = so_far.inside (omega arith) in
    let inside : c.args.at + 8 * length c.args.out.now ≤ length (contents files c.args.name.now) = omega arith in
    record {
      ok = (so_far.there (omega arith), (inside, λ k below. so_far.words k (omega arith)));
      missing = search rules;
      fault = search rules;
    }
