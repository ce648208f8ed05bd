use Rattle.std.proofs.Common.{◌≡◌, inl, inr, ⊎_elim, refl, sym, ap, subst, ◌∙◌}
use Rattle.std.specs.Prelude.{Err}
use Rattle.std.proofs.lemmas.Result.{IfOk-weaker, IfErr-weaker}
use Rattle.command_words.specs.declared.status.Status.TheVariants.{BadScript}
use Rattle.command_model.specs.Reading.{script_file, or_refused}
use Rattle.command_stages.specs.Stages.{Took}
use Rattle.command_stages.proofs.Taking.{RefusedBy, took_text, script_refused}
use Rattle.command_stages.proofs.Checking.{script_of_front}
use Rattle.command_stages.proofs.operand.read_script.Goals as goal

pub returns-in-Ok : goal.returns-in-Ok
returns-in-Ok g c =
    let state = g.S.Store.state in
    let word = c.args.word in
    let text = c.deref.result.now in
    subst (λ name. Took name word script_file (λ said script. script ≡ said) (state c.args.store.now) (state c.read_front.new.store) c.take_script.result) c.name_of.ensures
    (took_text c.name_of.result.now word script_file (λ said script. script ≡ said) (state c.args.store.now) (state c.read_front.new.store) c.take_script.result 1048577 text c.in-Ok.ensures.keeps
    (λ files told. let read = (c.in-Ok.ensures.told files told).ok in (read.0, c.deref.ensures.value ∙ read.1.0))
    (λ bytes. ap (or_refused BadScript) (script_of_front bytes)) (λ said bytes. tt)
    (IfOk-weaker c.take_script.result _ _ (λ script is. (script, (refl, is))) c.take_script.ensures.ok)
    (IfErr-weaker c.take_script.result _ _ (λ status is. ⊎_elim inl (λ (place, (status_is, refused)).
    inr (subst (RefusedBy word script_file text) (sym status_is) (script_refused word text place (refused ∙ ap Err status_is)))) is) c.take_script.ensures.err))
