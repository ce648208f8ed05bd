use Rattle.std.proofs.Common.{◌≡◌, ◌∙◌, sym, ap, subst, [], length, map}
use Rattle.std.specs.Prelude.{Option, OnOk}
use Rattle.std.proofs.lemmas.List.{length-map}
use Rattle.outer_io.specs.Store.{Files, with_file}
use Rattle.ring_law.specs.Residues.{residue}
use Rattle.file_model.specs.FileText.{file_text}
use Rattle.file_model.specs.Heads.{content_with}
use Rattle.cipher_files.proofs.Contents.{ended, front-more, front_of_head}
use Rattle.cipher_files.proofs.writing.write_residues.Goals as goal

pub returns-clause-ok : goal.returns-clause-ok
returns-clause-ok g c =
    let head = c.args.head.now in
    let name = c.args.name.now in
    let words = map (residue 3) c.args.coefficients.now in
    let begun = c.in_ok-hasher.ensures in
    let appended = c.in_ok-append_residues.ensures in
    let before = g.S.Store.state c.begin_file.new.store in
    let after = g.S.Store.state c.append_residues.new.store in
    let counted : length words ≡ head.words = length-map c.args.coefficients.now (residue 3) ∙ c.requires.count in
    let text = ended after.files after.pending after.written name head words (appended.pending ∙ begun.pending) counted
    (λ files told.
    front-more head [] words before.written after.written
    (front_of_head head before.written (begun.written files (sym begun.files ∙ sym appended.files ∙ told)))
    (appended.written files (sym appended.files ∙ told))) in
    let same = ap (λ (told : Option Files). with_file told name (file_text (content_with head words))) (appended.files ∙ begun.files) in
    subst (λ (files : Option Files). OnOk c.finish_file.result ((g.S.Store.state c.finish_file.new.store).files ≡ files)) (text ∙ same) c.finish_file.ensures.ok
