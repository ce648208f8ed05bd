use Rattle.std.proofs.Common.{◌≡◌, ◌<◌, sym, subst, ℕ}
use Rattle.std.specs.Prelude.{Option, OnOk}
use Rattle.outer_io.specs.Store.{Files}
use Rattle.file_model.specs.KeyWords.{digit_words, key_words}
use Rattle.cipher_files.specs.Contents.{IsFront}
use Rattle.cipher_files.proofs.Contents.{ended, key_keeps_rules, key_words-count}
use Rattle.cipher_files.proofs.key_writer.KeyWriter.finish.Goals as goal

pub returns-clause-ok : goal.returns-clause-ok
returns-clause-ok g c = λ name word has.
    let head = c.args.self.head in
    let before = g.S.Store.state c.args.store.now in
    let writing = c.requires.writing in
    let text = ended before.files before.pending before.written name head (key_words head.set word) has.name_is
    (key_words-count head word writing.rules writing.is_key)
    (λ files told. subst (λ (put : ℕ). IsFront head (digit_words head.set put word) before.written) c.requires.all_put (has.bytes files told)) in
    subst (λ (files : Option Files). OnOk c.finish_file.result ((g.S.Store.state c.finish_file.new.store).files ≡ files)) text c.finish_file.ensures.ok

pub returns-clause-rules : goal.returns-clause-rules
returns-clause-rules g c = λ name word has.
    let writing = c.requires.writing in
    key_keeps_rules c.args.self.head word writing.rules writing.is_key
    (λ i j r k digit. has.reduced i j r k (subst (λ (put : ℕ). i < put) (sym c.requires.all_put) digit))
