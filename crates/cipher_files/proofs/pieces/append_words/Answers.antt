use Rattle.std.proofs.Common.{◌≡◌, ◌++◌, ◌+◌, ◌-◌, ℕ, List, take, drop, sym, ◌∙◌, ap, subst, arith, rules, append_assoc}
use Rattle.std.proofs.lemmas.List.{append-nil}
use Rattle.sha2.specs.Hashers.{Holds256}
use Rattle.file_model.specs.Bytes.{word_bytes}
use Rattle.file_model.proofs.Words.{word_bytes-take-add}
use Rattle.cipher_files.proofs.RowWords.{word_bytes-none}
use Rattle.cipher_files.proofs.pieces.append_words.Goals as goal

pub pieces-init : goal.pieces-init
pieces-init g c = record {
  within = omega arith;
  keeps = search rules;
  files = search rules;
  pending = search rules;
  written = λ files told. sym (ap (λ (l : List ℕ). (g.S.Store.state c.args.store.now).written ++ l) word_bytes-none ∙ append-nil (g.S.Store.state c.args.store.now).written);
  hashed = λ m holds. rw (word_bytes-none, append-nil m) holds;
}

pub pieces-preserved : goal.pieces-preserved
pieces-preserved g c =
    let old = (g.S.Store.state c.args.store.now).written in
    let ws = c.args.words.now in
    let done = c.pieces.done in
    let count = c.min-count.result in
    let so_far = c.pieces.invariant in
    let add = c.in_ok-append_hashed.ensures in
    let front = word_bytes (take done ws) in
    let piece = c.encode.new.bytes in
    let same : done + count - done ≡ count = omega arith in
    let step : word_bytes (take (done + count) ws) ≡ front ++ piece =
    word_bytes-take-add ws done count ∙ ap (λ (l : List ℕ). front ++ l) (sym (c.encode.ensures ∙ ap (λ (x : ℕ). word_bytes (take x (drop done ws))) same)) in
    record {
      within = omega arith;
      keeps = search rules;
      files = search rules;
      pending = search rules;
      written = λ files told.
          add.written files (so_far.files ∙ told)
          ∙ ap (λ (l : List ℕ). l ++ piece) (so_far.written files told)
          ∙ append_assoc old front piece
          ∙ ap (λ (l : List ℕ). old ++ l) (sym step);
      hashed = λ m holds. subst (Holds256 c.append_hashed.new.hasher) (append_assoc m front piece ∙ ap (λ (l : List ℕ). m ++ l) (sym step)) (add.hashed (m ++ front) (so_far.hashed m holds));
    }
