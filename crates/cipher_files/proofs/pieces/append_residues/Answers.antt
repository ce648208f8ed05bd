use Rattle.std.proofs.Common.{◌≡◌, ◌<◌, ◌≤◌, ◌++◌, ◌+◌, ℕ, List, length, length-take, length-drop, map, take, sym, ◌∙◌, ap, subst, arith, rules, append_assoc}
use Rattle.std.specs.Prelude.{slice_range}
use Rattle.std.proofs.lemmas.List.{append-nil}
use Rattle.sha2.specs.Hashers.{Holds256}
use Rattle.file_model.specs.Bytes.{word_bytes}
use Rattle.ring_law.specs.Residues.{residue}
use Rattle.cipher_files.proofs.Contents.{residues-more}
use Rattle.cipher_files.proofs.RowWords.{word_bytes-none}
use Rattle.cipher_files.proofs.pieces.append_residues.Goals as goal

pub pieces-init : goal.pieces-init
pieces-init g c = record {
  within = omega arith;
  keeps = search rules;
  files = search rules;
  pending = search rules;
  written = λ files told. sym (ap (λ (l : List ℕ). (g.S.Store.state c.args.store.now).written ++ l) word_bytes-none ∙ append-nil (g.S.Store.state c.args.store.now).written);
  hashed = λ m holds. rw (word_bytes-none, append-nil m) holds;
}

pub pieces-preserved : goal.pieces-preserved
pieces-preserved g c =
    let old = (g.S.Store.state c.args.store.now).written in
    let coefficients = c.args.coefficients.now in
    let done = c.pieces.done in
    let count = c.min-count.result in
    let so_far = c.pieces.invariant in
    let add = c.in_ok-append_words.ensures in
    let front = word_bytes (take done (map (residue 3) coefficients)) in
    let piece = c.fill_residues.new.words in
    let within : done + count ≤ length coefficients = omega arith in
    let part : length (slice_range coefficients done (done + count)) ≡ count = simp (length-take, length-drop) (omega arith) in
    let size : length piece ≡ count = c.fill_residues.ensures.size ∙ part in
    let step : word_bytes (take (done + count) (map (residue 3) coefficients)) ≡ front ++ word_bytes piece =
    residues-more coefficients done count piece (omega arith) size (λ i below.
    let inside : i < length (slice_range coefficients done (done + count)) = omega arith in
    c.fill_residues.ensures.values i inside) in
    record {
      within = omega arith;
      keeps = search rules;
      files = search rules;
      pending = search rules;
      written = λ files told.
          add.written files (so_far.files ∙ told)
          ∙ ap (λ (l : List ℕ). l ++ word_bytes piece) (so_far.written files told)
          ∙ append_assoc old front (word_bytes piece)
          ∙ ap (λ (l : List ℕ). old ++ l) (sym step);
      hashed = λ m holds. subst (Holds256 c.append_words.new.hasher) (append_assoc m front (word_bytes piece) ∙ ap (λ (l : List ℕ). m ++ l) (sym step)) (add.hashed (m ++ front) (so_far.hashed m holds));
    }
