use Rattle.std.proofs.Common.{◌≡◌, List, ℕ, ap, map, sym, subst, ◌∙◌}
use Rattle.std.specs.Prelude.{Ok, Err}
use Rattle.std.specs.String.{string_bytes}
use Rattle.std.proofs.lemmas.Result.{err_from_is_err_and}
use Rattle.outer_io.specs.Store.{Files}
use Rattle.file_model.specs.DrawnFiles.{drawn_public_file}
use Rattle.file_model.specs.FileText.{FileContent, file_text}
use Rattle.file_model.specs.Heads.{content_with}
use Rattle.file_model.specs.declared.head.Head.{Head}
use Rattle.cipher_files.specs.Contents.{part_words}
use Rattle.command_words.specs.Line.{word_at}
use Rattle.command_model.specs.Plan.{seed_word}
use Rattle.command_stages.specs.Operands.{HasContent}
use Rattle.command_stages.specs.Stages.{Wrote}
use Rattle.command_stages.proofs.Writing.{wrote_file, unwritten, unmade_unwritten}
use Rattle.key_commands.proofs.DrawnContents.{public_content}
use Rattle.key_commands.proofs.public.write_of_degree.Goals as goal

pub returns-in_err-public : goal.returns-in_err-public
returns-in_err-public g c = λ content.
    let p = err_from_is_err_and c.from_residual.result c.from_residual.ensures.1 in
    let made = c.in_err-public.ensures.made content in
    rw (p.1, p.2) (unmade_unwritten _ _ c.in_err-public.field-0.0 made.keeps made.err)

pub returns-in-Ok : goal.returns-in-Ok
returns-in-Ok g c = λ content.
    let words = map string_bytes c.args.words.now in
    let state = g.S.Store.state in
    let Is : List ℕ → Type 0 = λ bytes. bytes ≡ file_text (drawn_public_file content (seed_word c.args.seed.now)) in
    let same : Files → Type 0 = λ files. HasContent words files 1 c.args.secret.now content in
    let drawn = c.in_ok-public.ensures.made content in
    let rows = c.in_ok-public.public.rows in
    let head_is = ap (λ (head : Head). content_with head (part_words g.row.N head.set 2 rows)) c.of_public-head.ensures.is in
    subst (λ (name : List ℕ). Wrote name (λ w. w ≡ 1) same Is (state c.args.store.now) (state c.write_public.new.store) (Ok tt)) c.name_of.ensures
    (wrote_file c.name_of.result.now (λ w. w ≡ 1) same Is (state c.args.store.now) (state c.drawn_key.new.store) (state c.write_public.new.store) _ drawn.keeps
    c.in-Ok.ensures.keeps c.in-Ok.ensures.idle c.in-Ok.ensures.ok (λ files told held.
    let set = ap (λ (z : FileContent). z.set) held.head_is.states in
    let id = ap (λ (z : FileContent). z.key_id) held.head_is.states in
    ap file_text (head_is ∙ public_content c.args.secret.now.set g.row.N 0 c.args.secret.now.id rows content (seed_word c.args.seed.now) c.requires.degree set id (drawn.ok files told held))))

pub returns : goal.returns
returns g c = λ content.
    let words = map string_bytes c.args.words.now in
    let state = g.S.Store.state in
    let Is : List ℕ → Type 0 = λ bytes. bytes ≡ file_text (drawn_public_file content (seed_word c.args.seed.now)) in
    let same : Files → Type 0 = λ files. HasContent words files 1 c.args.secret.now content in
    let drawn = c.in_ok-public.ensures.made content in
    subst (λ status. Wrote (word_at words 3) (λ w. w ≡ 1) same Is (state c.args.store.now) (state c.write_public.new.store) (Err status)) (sym c.write_status.ensures)
    (unwritten (word_at words 3) (λ w. w ≡ 1) same Is (state c.args.store.now) (state c.drawn_key.new.store) (state c.write_public.new.store) c.in-Err.fault drawn.keeps c.in-Err.ensures.keeps c.in-Err.ensures.err)
