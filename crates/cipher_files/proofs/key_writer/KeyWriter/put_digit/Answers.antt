use Rattle.std.proofs.Common.{◌≡◌, ◌∙◌, ◌<◌, ◌≤◌, ◌+◌, sym, subst, ℕ, List, [], length, get_or, arith, ⊎_elim}
use Rattle.std.specs.Prelude.{slice_index}
use Rattle.std.specs.List.{concat}
use Rattle.std.proofs.lemmas.Bool.{cases_lt}
use Rattle.set_table.specs.Sets.{data_of, degree_of, key_of}
use Rattle.bfv_params.specs.Rows.{ReducedInTurn}
use Rattle.bfv_model.specs.Holds.{listed_word}
use Rattle.file_model.specs.KeyWords.{digit_words}
use Rattle.cipher_files.specs.Contents.{IsFront}
use Rattle.cipher_files.proofs.Contents.{digit_reduced, digit_words-more, front-more}
use Rattle.cipher_files.proofs.key_writer.KeyWriter.put_digit.Goals as goal

pub returns-clause-written : goal.returns-clause-written
returns-clause-written g c = λ name word has is_digit.
    let head = c.args.self.now.head in
    let set = head.set in
    let put = c.args.self.now.put in
    let rows = c.args.rows.rows.now in
    let appended = c.in_ok-append_rows.ensures in
    let before = g.S.Store.state c.args.store.now in
    let after = g.S.Store.state c.append_rows.new.store in
    let same : (j r k : ℕ) → j < 2 → r < length (data_of set) + 1 → k < degree_of set → listed_word (length (data_of set) + 1) rows j r k ≡ word put j r k =
    λ j r k part row place. is_digit j r k part row (subst (λ (d : ℕ). k < d) (sym c.requires.degree) place) in
    let each : (i : ℕ) → i < length rows → length (get_or rows i []) ≡ degree_of set = λ i below. appended.sizes i below ∙ c.requires.degree in
    let reduced : ReducedInTurn (degree_of set) (length (data_of set) + 1) (key_of set) rows =
    subst (λ (d : ℕ). ReducedInTurn d (length (data_of set) + 1) (key_of set) rows) c.requires.degree c.requires.reduced in
    let more = digit_words-more set put word rows c.requires.count each same in
    record {
      name_is = appended.pending ∙ has.name_is;
      bytes = λ files told.
          subst (λ (w : List ℕ). IsFront head w after.written) (sym more)
          (front-more head (digit_words set put word) (concat rows) before.written after.written (has.bytes files (sym appended.files ∙ told))
          (appended.written files (sym appended.files ∙ told)));
      reduced = λ i j r k digit part row place.
          ⊎_elim (λ (lt : i < put). has.reduced i j r k lt part row place)
          (λ (past : put ≤ i).
          let last : put ≡ i = omega arith in
          subst (λ (d : ℕ). word d j r k < slice_index (key_of set) r) last
          (digit_reduced set put word rows c.requires.count reduced same j r k part row place))
          (cases_lt i put);
    }
