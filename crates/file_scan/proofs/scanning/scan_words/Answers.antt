use Rattle.std.proofs.Common.{◌≡◌, ℕ, ◌+◌, ◌*◌, ◌∙◌, ◌++◌, sym, ap, rules, arith, length, take, length-take, zero-add}
use Rattle.std.specs.Prelude.{Option, find}
use Rattle.std.specs.List.{range_with_len}
use Rattle.std.specs.Option.{option_or}
use Rattle.std.proofs.lemmas.List.{append-nil}
use Rattle.outer_io.specs.Store.{contents}
use Rattle.sha2.specs.Hashers.{Holds256}
use Rattle.file_model.specs.Bytes.{bytes_from}
use Rattle.file_model.proofs.Bytes.{bytes_from-zero}
use Rattle.file_model.specs.Scan.{is_unreduced}
use Rattle.file_scan.proofs.Parts.{words_held}
use Rattle.file_model.proofs.Ranges.{find-range_add}
use Rattle.file_scan.proofs.ScanFaults.{below_or, ends_kept}
use Rattle.std.proofs.lemmas.Result.{err_from_is_err_and}
use Rattle.file_scan.proofs.scanning.scan_words.Goals as goal

pub pieces-init : goal.pieces-init
pieces-init g c = record {
  keeps = search rules;
  within = omega arith;
  below = search rules;
  tested = search rules;
  hashed = λ files told m before. rw (bytes_from-zero 64 (contents files c.args.name.now), append-nil m) before;
}

pub pieces-preserved : goal.pieces-preserved
pieces-preserved g c = record {
  keeps = search rules;
  within = omega arith;
  below =
      let count = c.min-count.result in
      let room : length (take (8 * count) c.pieces.bytes) ≡ 8 * count = simp length-take (omega (arith, c.min-count.array_long)) in
      let new_room : length c.read_part.new.buf ≡ 8 * count = c.read_part.auto.buf ∙ room in
      below_or c.pieces.done count (length c.read_part.new.buf) c.pieces.unreduced c.first_unreduced.result _ new_room c.pieces.invariant.below c.first_unreduced.ensures.inside c.or-unreduced.ensures;
  tested = λ files told.
      let bytes = contents files c.args.name.now in
      let read = (c.in_ok-read_part.ensures.told files (c.pieces.invariant.keeps.files ∙ told)).ok in
      let done = c.pieces.done in
      let count = c.min-count.result in
      let room : length (take (8 * count) c.pieces.bytes) ≡ 8 * count = simp length-take (omega (arith, c.min-count.array_long)) in
      let new_room : length c.read_part.new.buf ≡ 8 * count = c.read_part.auto.buf ∙ room in
      let here = c.first_unreduced.ensures.first bytes count new_room (read.1.0 ∙ ap (λ (n : ℕ). bytes_from (64 + 8 * done) n bytes) (sym c.read_part.auto.buf)) in
      c.or-unreduced.ensures
      ∙ ap (λ (o : Option ℕ). option_or o c.first_unreduced.result) (c.pieces.invariant.tested files told)
      ∙ ap (option_or (find (is_unreduced c.args.head.now.kind c.args.head.now.set bytes) (range_with_len 0 done)))
      (here ∙ ap (λ (from : ℕ). find (is_unreduced c.args.head.now.kind c.args.head.now.set bytes) (range_with_len from count)) (sym (zero-add done)))
      ∙ sym (find-range_add (is_unreduced c.args.head.now.kind c.args.head.now.set bytes) 0 done count);
  hashed = λ files told m before.
      let bytes = contents files c.args.name.now in
      let read = (c.in_ok-read_part.ensures.told files (c.pieces.invariant.keeps.files ∙ told)).ok in
      let done = c.pieces.done in
      let count = c.min-count.result in
      let room : length (take (8 * count) c.pieces.bytes) ≡ 8 * count = simp length-take (omega (arith, c.min-count.array_long)) in
      words_held (Holds256 c.update.new.self) m c.read_part.new.buf bytes done count _ read.1.0 room
      (c.update.ensures (m ++ bytes_from 64 (8 * done) bytes) (c.pieces.invariant.hashed files told m before));
}

pub returns-in_err-read_part-clause-kept : goal.returns-in_err-read_part-clause-kept
returns-in_err-read_part-clause-kept g c =
    let p = err_from_is_err_and c.from_residual.result c.from_residual.ensures.1 in
    rw (p.1, p.2) (λ wanted.
    let count = c.min-count.result in
    let room : length (take (8 * count) c.pieces.bytes) ≡ 8 * count = simp length-take (omega (arith, c.min-count.array_long)) in
    ends_kept wanted _ _ c.args.size c.in_err-read_part.field-0.0 (omega arith) c.in_err-read_part.ensures.ended)
