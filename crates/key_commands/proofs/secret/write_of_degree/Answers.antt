use Rattle.std.proofs.Common.{◌≡◌, List, ℕ, ap, sym, subst}
use Rattle.std.specs.Prelude.{Err}
use Rattle.file_model.specs.DrawnFiles.{drawn_secret_file}
use Rattle.file_model.specs.FileText.{file_text}
use Rattle.command_model.specs.Plan.{seed_word}
use Rattle.command_stages.specs.Stages.{Wrote}
use Rattle.command_stages.proofs.Causes.{reads_nothing}
use Rattle.command_stages.proofs.Writing.{wrote_file, unwritten}
use Rattle.key_commands.proofs.secret.write_of_degree.Goals as goal

pub returns-in-Ok-write_secret : goal.returns-in-Ok-write_secret
returns-in-Ok-write_secret g c =
    let old = g.S.Store.state c.args.store.now in
    let new = g.S.Store.state c.write_secret.new.store in
    let Is : List ℕ → Type 0 = λ bytes. bytes ≡ file_text (drawn_secret_file c.args.set (seed_word c.args.seed.now)) in
    wrote_file c.args.name.now (λ w. ⊥) (λ files. Unit {0}) Is old old new _ (reads_nothing old) c.in-Ok-write_secret.ensures.keeps c.in-Ok-write_secret.ensures.idle
    c.in-Ok-write_secret.ensures.ok (λ files told same. ap file_text c.in-Ok.ensures.content)

pub returns : goal.returns
returns g c =
    let old = g.S.Store.state c.args.store.now in
    let new = g.S.Store.state c.write_secret.new.store in
    let Is : List ℕ → Type 0 = λ bytes. bytes ≡ file_text (drawn_secret_file c.args.set (seed_word c.args.seed.now)) in
    subst (λ status. Wrote c.args.name.now (λ w. ⊥) (λ files. Unit {0}) Is old new (Err status)) (sym c.write_status.ensures)
    (unwritten c.args.name.now (λ w. ⊥) (λ files. Unit {0}) Is old old new c.in-Err.fault (reads_nothing old) c.in-Err.ensures.keeps c.in-Err.ensures.err)
