use Rattle.std.proofs.Common.{◌≡◌, inl, inr, ⊎_elim, sym, ap, subst, ◌∙◌, map, refl}
use Rattle.std.specs.Prelude.{Err}
use Rattle.std.specs.String.{string_bytes}
use Rattle.std.proofs.lemmas.Result.{IfOk-weaker, IfErr-weaker}
use Rattle.batch_text.specs.Reading.{texts}
use Rattle.command_words.specs.declared.status.Status.TheVariants.{BadScript}
use Rattle.command_model.specs.Reading.{batch_file, or_refused}
use Rattle.command_stages.specs.Stages.{Took}
use Rattle.command_stages.proofs.Taking.{RefusedBy, took_text, batch_refused}
use Rattle.bfv_commands.proofs.BatchForms.{commands_of_front}
use Rattle.bfv_commands.proofs.batch.read_batch.Goals as goal

pub returns-in-Ok-clause-took : goal.returns-in-Ok-clause-took
returns-in-Ok-clause-took g c =
    let state = g.S.Store.state in
    let text = c.deref.result.now in
    subst (λ name. Took name 1 batch_file (λ said v. texts v.items ≡ said) (state c.args.store.now) (state c.read_front.new.store) c.take_commands.result) c.name_of.ensures
    (took_text c.name_of.result.now 1 batch_file (λ said v. texts v.items ≡ said) (state c.args.store.now) (state c.read_front.new.store) c.take_commands.result 1048577 text c.in-Ok.ensures.keeps
    (λ files told. let read = (c.in-Ok.ensures.told files told).ok in (read.0, c.deref.ensures.value ∙ read.1.0))
    (λ bytes. ap (or_refused BadScript) (commands_of_front bytes)) (λ said bytes. tt)
    (IfOk-weaker c.take_commands.result _ _ (λ v is. (texts v.items, (refl, ap (or_refused BadScript) is))) c.take_commands.ensures.ok)
    (IfErr-weaker c.take_commands.result _ _ (λ status is. ⊎_elim inl (λ (place, (status_is, refused)).
    inr (subst (RefusedBy 1 batch_file text) (sym status_is) (batch_refused 1 text place (ap (or_refused BadScript) refused)))) is) c.take_commands.ensures.err))
