use Rattle.std.proofs.Common.{◌≡◌, List, ℕ, ap, length, map, sym, subst, ◌∙◌, lit<}
use Rattle.std.specs.Prelude.{Ok, Err}
use Rattle.std.specs.String.{string_bytes}
use Rattle.std.proofs.lemmas.Result.{err_from_is_err_and}
use Rattle.outer_io.specs.Store.{Files, with_file}
use Rattle.set_table.specs.Sets.{data_of}
use Rattle.file_model.specs.FileText.{file_text}
use Rattle.file_model.specs.Heads.{content_with}
use Rattle.file_model.specs.declared.head.Head.{Head}
use Rattle.cipher_files.specs.Contents.{part_words}
use Rattle.command_words.specs.Line.{word_at}
use Rattle.command_model.specs.Plan.{IsFreshCipher}
use Rattle.command_stages.specs.Operands.{HasContent}
use Rattle.command_stages.specs.Stages.{Wrote}
use Rattle.command_stages.proofs.Writing.{wrote_file, unwritten, unmade_unwritten}
use Rattle.key_commands.proofs.Sealing.{fresh_text}
use Rattle.key_commands.proofs.FreshBounds.{fresh_bound_fits}
use Rattle.key_commands.proofs.encrypt.write_of_degree.Goals as goal

pub returns-in_err-cipher : goal.returns-in_err-cipher
returns-in_err-cipher g c = λ content.
    let p = err_from_is_err_and c.from_residual.result c.from_residual.ensures.1 in
    let made = c.in_err-cipher.ensures.made content in
    rw (p.1, p.2) (unmade_unwritten _ _ c.in_err-cipher.field-0.0 made.keeps made.err)

pub of_cipher-head-requires-clause-bound : goal.of_cipher-head-requires-clause-bound
of_cipher-head-requires-clause-bound g c = fresh_bound_fits c.args.public.now.set c.fresh.result.m c.fresh.result.e c.fresh.ensures.rounded

pub write_cipher-requires : goal.write_cipher-requires
write_cipher-requires g c =
    let is = sym c.of_cipher-head.ensures.is in
    let set = ap (λ (head : Head). head.set) is in
    let level = ap (λ (head : Head). length (data_of head.set)) is in
    let parts = ap (λ (head : Head). head.parts) is in (
      lit< tt,
      (
        c.of_cipher-head.ensures.rules,
        (
          ap (λ (head : Head). head.kind) c.of_cipher-head.ensures.is,
          (c.in_ok-cipher.ensures.set ∙ set, (c.in_ok-cipher.ensures.level ∙ level, c.in_ok-cipher.ensures.parts ∙ parts)),
        ),
      ),
    )

pub returns-in-Ok : goal.returns-in-Ok
returns-in-Ok g c = λ content.
    let words = map string_bytes c.args.words.now in
    let state = g.S.Store.state in
    let Is : List ℕ → Type 0 = IsFreshCipher content c.args.values.now c.args.seed.now in
    let same : Files → Type 0 = λ files. HasContent words files 1 c.args.public.now content in
    let sealed = c.in_ok-cipher.ensures.made content in
    subst (λ (name : List ℕ). Wrote name (λ w. w ≡ 1) same Is (state c.args.store.now) (state c.write_cipher.new.store) (Ok tt)) c.name_of.ensures
    (wrote_file c.name_of.result.now (λ w. w ≡ 1) same Is (state c.args.store.now) (state c.sealed.new.store) (state c.write_cipher.new.store) _ sealed.keeps
    c.in-Ok.ensures.keeps c.in-Ok.ensures.idle
    (c.in-Ok.ensures.ok ∙ ap (λ (head : Head). with_file (state c.sealed.new.store).files c.name_of.result.now
    (file_text (content_with head (part_words g.row.N head.set head.parts c.in_ok-cipher.cipher.rows)))) c.of_cipher-head.ensures.is)
    (λ files told held. fresh_text c.args.public.now content g.row.N c.fresh.result 0 c.in_ok-cipher.cipher.rows c.args.values.now c.args.seed.now c.requires.degree held.head_is
    c.fresh.ensures.rounded (sealed.ok files told held)))

pub returns : goal.returns
returns g c = λ content.
    let words = map string_bytes c.args.words.now in
    let state = g.S.Store.state in
    let Is : List ℕ → Type 0 = IsFreshCipher content c.args.values.now c.args.seed.now in
    let same : Files → Type 0 = λ files. HasContent words files 1 c.args.public.now content in
    let sealed = c.in_ok-cipher.ensures.made content in
    subst (λ status. Wrote (word_at words 4) (λ w. w ≡ 1) same Is (state c.args.store.now) (state c.write_cipher.new.store) (Err status)) (sym c.write_status.ensures)
    (unwritten (word_at words 4) (λ w. w ≡ 1) same Is (state c.args.store.now) (state c.sealed.new.store) (state c.write_cipher.new.store) c.in-Err.fault sealed.keeps c.in-Err.ensures.keeps c.in-Err.ensures.err)
