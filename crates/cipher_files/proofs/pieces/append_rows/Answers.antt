use Rattle.std.proofs.Common.{◌≡◌, ◌≤◌, ◌++◌, ℕ, List, [], length, take, get_or, sym, ◌∙◌, ap, subst, arith, rules, append_assoc, ⊎_elim}
use Rattle.std.specs.List.{concat}
use Rattle.std.proofs.lemmas.Bool.{cases_lt}
use Rattle.std.proofs.lemmas.List.{append-nil, get_or_default}
use Rattle.sha2.specs.Hashers.{Holds256}
use Rattle.file_model.specs.Bytes.{word_bytes}
use Rattle.cipher_files.proofs.RowWords.{row_bytes-more, word_bytes-none}
use Rattle.cipher_files.proofs.pieces.append_rows.Goals as goal

pub rows-init : goal.rows-init
rows-init g c = record {
  keeps = search rules;
  files = search rules;
  pending = search rules;
  written = λ files told. sym (ap (λ (l : List ℕ). (g.S.Store.state c.args.store.now).written ++ l) word_bytes-none ∙ append-nil (g.S.Store.state c.args.store.now).written);
  hashed = λ m holds. rw (word_bytes-none, append-nil m) holds;
  sizes = λ i below. absurd (omega arith);
}

pub rows-preserved : goal.rows-preserved
rows-preserved g c =
    let old = (g.S.Store.state c.args.store.now).written in
    let rows = c.args.rows.rows.now in
    let i = c.rows.row-index in
    let so_far = c.rows.invariant in
    let add = c.in_ok-append_words.ensures in
    let front = word_bytes (concat (take i rows)) in
    let piece = word_bytes c.row-item.result in
    let step = row_bytes-more rows i c.row-item.result c.rows-test.true (sym c.row-item.is) in
    record {
      keeps = search rules;
      files = search rules;
      pending = search rules;
      written = λ files told.
          add.written files (so_far.files ∙ told)
          ∙ ap (λ (l : List ℕ). l ++ piece) (so_far.written files told)
          ∙ append_assoc old front piece
          ∙ ap (λ (l : List ℕ). old ++ l) (sym step);
      hashed = λ m holds. subst (Holds256 c.append_words.new.hasher) (append_assoc m front piece ∙ ap (λ (l : List ℕ). m ++ l) (sym step)) (add.hashed (m ++ front) (so_far.hashed m holds));
      sizes = λ j below.
          ⊎_elim (so_far.sizes j)
          (λ (past : i ≤ j).
          let last : j ≡ i = omega arith in
          ap (λ (k : ℕ). length (get_or rows k [])) last
          ∙ ap length (get_or_default rows i [] c.row-item.result c.rows-test.true ∙ sym c.row-item.is)
          ∙ c.has_its_length.ensures)
          (cases_lt j i);
    }
