use Rattle.std.proofs.Common.{◌≡◌, ◌<◌, ◌≤◌, ℕ, List, length, map, sym, subst, ap, ◌∙◌}
use Rattle.std.specs.String.{string_bytes}
use Rattle.std.specs.Prelude.{slice_index, Ok, Err}
use Rattle.std.proofs.lemmas.Result.{err_from_is_err_and}
use Rattle.outer_io.specs.Store.{Files}
use Rattle.bfv_model.specs.Holds.{secret_polynomial}
use Rattle.bfv_params.specs.Values.{CipherValue}
use Rattle.bfv_params.specs.Ciphers.{IsCipherOf}
use Rattle.script_text.specs.Value.{value_of}
use Rattle.noise_check.specs.ExactBounds.{exact_bounds}
use Rattle.script_run.specs.Runs.{Carries}
use Rattle.script_run.specs.Workspaces.{whole_context}
use Rattle.command_words.specs.Line.{word_at}
use Rattle.command_model.specs.Plan.{stated_bounds}
use Rattle.command_stages.specs.Stages.{Wrote}
use Rattle.command_stages.proofs.Writing.{wrote_file, unwritten, unmade_unwritten}
use Rattle.run_operands.specs.BoundFiles.{AreHeld}
use Rattle.bfv_commands.specs.RunStages.{IsRunOf, IsWordOf, run_with}
use Rattle.bfv_commands.proofs.RunOutputs.{run_made, stated_of_heads}
use Rattle.bfv_commands.proofs.run_output.write_of_degree.Goals as goal

pub returns-in_err-space : goal.returns-in_err-space
returns-in_err-space g c = λ contents plains keyed listed.
    let made = c.in_err-space.ensures.made contents in
    let p = err_from_is_err_and c.from_residual.result c.from_residual.ensures.1 in
    rw (p.1, p.2) (unmade_unwritten _ _ c.in_err-space.field-0.0 made.keeps made.err)

pub returns-in-Ok : goal.returns-in-Ok
returns-in-Ok g c = λ contents plains keyed listed.
    let words = map string_bytes c.args.words.now in
    let state = g.S.Store.state in
    let script = c.args.script.now in
    let ciphers = c.args.ciphers.now in
    let cipher = c.result-cipher.result.now in
    let name = c.name_of.result.now in
    let made = c.in_ok-space.ensures.made contents in
    let Is = IsRunOf (run_with script contents plains c.args.head.now) in
    let AreSame : Files → Type 0 = λ files. AreHeld words files ciphers contents in
    subst (λ (name : List ℕ). Wrote {B = Unit {0}} name (IsWordOf ciphers) AreSame Is (state c.args.store.now) (state c.write_cipher.new.store) (Ok tt)) c.name_of.ensures
    (wrote_file name (IsWordOf ciphers) AreSame Is (state c.args.store.now) (state c.executed.new.store) (state c.write_cipher.new.store) _ made.keeps
    c.in-Ok.ensures.keeps c.in-Ok.ensures.idle c.in-Ok.ensures.ok (λ files told held.
    run_made g.row.N (length c.args.words.now) words files script ciphers contents plains c.args.head.now cipher c.requires.degree c.set-set.ensures.sound c.requires.head c.requires.room
    c.requires.bound c.requires.cipher_count (stated_of_heads ciphers contents held.count (λ r cipher there. (held.each r cipher there).head_is)) held keyed
    (subst (λ (x : CipherValue). IsCipherOf (whole_context script.set) x) (sym c.result-cipher.ensures) c.in_ok-space.ensures.of_context) c.parts-parts.ensures.kept
    (ap (λ (x : CipherValue). x.parts) c.result-cipher.ensures ∙ c.in_ok-space.ensures.parts) c.in-Ok.ensures.rules
    (λ owner lists sealed quiet.
    subst (λ (x : CipherValue). Carries g.row.N (whole_context script.set) (secret_polynomial owner.secret) x (value_of script lists) (slice_index (exact_bounds script (stated_bounds contents)) script.output))
    (sym c.result-cipher.ensures) (made.ok files told held owner plains lists listed sealed quiet))))

pub returns : goal.returns
returns g c = λ contents plains keyed listed.
    let words = map string_bytes c.args.words.now in
    let state = g.S.Store.state in
    let ciphers = c.args.ciphers.now in
    let made = c.in_ok-space.ensures.made contents in
    let Is = IsRunOf (run_with c.args.script.now contents plains c.args.head.now) in
    let AreSame : Files → Type 0 = λ files. AreHeld words files ciphers contents in
    subst (λ status. Wrote {B = Unit {0}} (word_at words 2) (IsWordOf ciphers) AreSame Is (state c.args.store.now) (state c.write_cipher.new.store) (Err status)) (sym c.write_status.ensures)
    (unwritten (word_at words 2) (IsWordOf ciphers) AreSame Is (state c.args.store.now) (state c.executed.new.store) (state c.write_cipher.new.store) c.in-Err.fault made.keeps
    c.in-Err.ensures.keeps c.in-Err.ensures.err)
