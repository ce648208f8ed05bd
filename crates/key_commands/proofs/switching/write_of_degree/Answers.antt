use Rattle.std.proofs.Common.{◌≡◌, List, ℕ, ap, map, sym, subst, ◌∙◌}
use Rattle.std.specs.Prelude.{Err}
use Rattle.std.specs.String.{string_bytes}
use Rattle.std.proofs.lemmas.Result.{err_from_is_err_and}
use Rattle.outer_io.specs.Store.{Files}
use Rattle.ring_law.specs.Rows.{listed_polynomial}
use Rattle.file_model.specs.DrawnFiles.{drawn_switch_file}
use Rattle.file_model.specs.FileText.{FileContent, IsFile, KeepsRules, file_text}
use Rattle.file_model.specs.declared.head.Head.{Head}
use Rattle.command_model.specs.Plan.{seed_word}
use Rattle.command_stages.specs.Operands.{HasContent}
use Rattle.command_stages.specs.Stages.{Wrote}
use Rattle.command_stages.proofs.Writing.{wrote_file, unwritten, unmade_unwritten}
use Rattle.key_commands.specs.SwitchKeys.{content_drawn}
use Rattle.key_commands.proofs.DrawnKeys.{content_is}
use Rattle.key_commands.proofs.switching.write_of_degree.Goals as goal

pub returns-in_err-room : goal.returns-in_err-room
returns-in_err-room g c = λ content.
    let p = err_from_is_err_and c.from_residual.result c.from_residual.ensures.1 in
    let made = c.in_err-room.ensures.made content in
    rw (p.1, p.2) (unmade_unwritten _ _ c.in_err-room.field-0.0 made.keeps made.err)

pub returns-in-Ok : goal.returns-in-Ok
returns-in-Ok g c = λ content.
    let words = map string_bytes c.args.words.now in
    let state = g.S.Store.state in
    let draw = c.args.draw.now in
    let secret = c.args.secret.now in
    let Is : List ℕ → Type 0 = λ bytes. IsFile bytes (drawn_switch_file draw.kind draw.element content (seed_word draw.seed)) in
    let same : Files → Type 0 = λ files. HasContent words files 1 secret content in
    let made = c.in_ok-room.ensures.made content in
    let s = listed_polynomial c.in_ok-room.room.secret.small in
    let drawn = λ (head : Head). content_drawn g.row.N head draw.kind draw.element s (seed_word draw.seed) in
    wrote_file c.args.out.now (λ w. w ≡ 1) same Is (state c.args.store.now) (state c.room_of.new.store) (state c.put_key.new.store) (file_text (drawn c.of_switch_key-head.result)) made.keeps
    c.in-Ok.ensures.keeps c.in-Ok.ensures.idle c.in-Ok.ensures.ok (λ files told held.
    let set = ap (λ (z : FileContent). z.set) held.head_is.states in
    let id = ap (λ (z : FileContent). z.key_id) held.head_is.states in
    let is = ap drawn c.of_switch_key-head.ensures.is
    ∙ content_is g.row.N secret.set secret.id draw.kind draw.element s content (seed_word draw.seed) c.requires.degree set id (made.ok files told held) in
    record { text = ap file_text is; rules = subst KeepsRules is c.in-Ok.ensures.rules })

pub returns : goal.returns
returns g c = λ content.
    let words = map string_bytes c.args.words.now in
    let state = g.S.Store.state in
    let draw = c.args.draw.now in
    let Is : List ℕ → Type 0 = λ bytes. IsFile bytes (drawn_switch_file draw.kind draw.element content (seed_word draw.seed)) in
    let same : Files → Type 0 = λ files. HasContent words files 1 c.args.secret.now content in
    let made = c.in_ok-room.ensures.made content in
    subst (λ status. Wrote c.args.out.now (λ w. w ≡ 1) same Is (state c.args.store.now) (state c.put_key.new.store) (Err status)) (sym c.write_status.ensures)
    (unwritten c.args.out.now (λ w. w ≡ 1) same Is (state c.args.store.now) (state c.room_of.new.store) (state c.put_key.new.store) c.in-Err.fault made.keeps c.in-Err.ensures.keeps
    c.in-Err.ensures.err)
