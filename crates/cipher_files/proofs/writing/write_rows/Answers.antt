use Rattle.std.proofs.Common.{◌≡◌, ◌∙◌, ◌*◌, sym, ap, subst, ℕ, List, [], length}
use Rattle.std.specs.List.{concat}
use Rattle.std.specs.Prelude.{Option, OnOk}
use Rattle.outer_io.specs.Store.{Files, with_file}
use Rattle.file_model.specs.FileText.{file_text}
use Rattle.bfv_model.specs.Holds.{listed_word, listed_words}
use Rattle.cipher_files.specs.Contents.{IsFront}
use Rattle.file_model.specs.Heads.{content_with}
use Rattle.cipher_files.proofs.Contents.{ended, front-more, front_of_head}
use Rattle.cipher_files.proofs.ListedWords.{length-listed_words}
use Rattle.cipher_files.proofs.RowWords.{listed_words-rows}
use Rattle.cipher_files.proofs.writing.write_rows.Goals as goal

pub returns-clause-ok : goal.returns-clause-ok
returns-clause-ok g c = λ count parts size.
    let n = g.row.N in
    let rows = c.args.rows.rows.now in
    let head = c.args.head.now in
    let name = c.args.name.now in
    let words = listed_words n count parts (listed_word count rows) in
    let begun = c.in_ok-hasher.ensures in
    let appended = c.in_ok-append_rows.ensures in
    let before = g.S.Store.state c.begin_file.new.store in
    let after = g.S.Store.state c.append_rows.new.store in
    let joined : words ≡ concat rows = listed_words-rows n count parts rows c.requires.some size appended.sizes in
    let counted : length words ≡ head.words =
    length-listed_words n count parts (listed_word count rows) ∙ ap (λ (r : ℕ). r * n) (sym size) ∙ c.requires.words in
    let text = ended after.files after.pending after.written name head words (appended.pending ∙ begun.pending) counted
    (λ files told.
    subst (λ (w : List ℕ). IsFront head w after.written) (sym joined)
    (front-more head [] (concat rows) before.written after.written
    (front_of_head head before.written (begun.written files (sym begun.files ∙ sym appended.files ∙ told)))
    (appended.written files (sym appended.files ∙ told)))) in
    let same = ap (λ (told : Option Files). with_file told name (file_text (content_with head words))) (appended.files ∙ begun.files) in
    subst (λ (files : Option Files). OnOk c.finish_file.result ((g.S.Store.state c.finish_file.new.store).files ≡ files)) (text ∙ same) c.finish_file.ensures.ok
