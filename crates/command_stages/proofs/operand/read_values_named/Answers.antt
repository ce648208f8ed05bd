use Rattle.std.proofs.Common.{◌≡◌, inl, inr, ⊎_elim, refl, sym, ap, subst, ◌∙◌}
use Rattle.std.specs.Prelude.{Err}
use Rattle.std.proofs.lemmas.Result.{IfOk-weaker, IfErr-weaker}
use Rattle.set_table.specs.Sets.{degree_of, plain_of}
use Rattle.command_words.specs.declared.status.Status.TheVariants.{BadValues}
use Rattle.command_model.specs.Reading.{values_file, or_refused}
use Rattle.command_stages.specs.Stages.{Untaken}
use Rattle.command_stages.proofs.Taking.{RefusedBy, took_text, unread, values_refused}
use Rattle.command_stages.proofs.ValueTexts.{values_of_front, values_of_taken}
use Rattle.command_stages.proofs.operand.read_values_named.Goals as goal

pub returns-in-Ok-clause-took : goal.returns-in-Ok-clause-took
returns-in-Ok-clause-took g c =
    let set = c.args.set in
    let word = c.args.word in
    let text = c.deref.result.now in
    took_text c.args.name.now word (values_file set) (λ said v. v.items ≡ said) _ _ c.take_values.result 4194305 text c.in-Ok.ensures.keeps
    (λ files told. let read = (c.in-Ok.ensures.told files told).ok in (read.0, c.deref.ensures.value ∙ read.1.0))
    (λ bytes. ap (or_refused (BadValues word)) (values_of_front bytes (degree_of set) (plain_of set))) (λ said bytes. tt)
    (IfOk-weaker c.take_values.result _ _ (λ values is. (values.items, (refl, is))) c.take_values.ensures.ok)
    (IfErr-weaker c.take_values.result _ _ (λ status is. ⊎_elim inl (λ (place, (status_is, refused)).
    inr (subst (RefusedBy word (values_file set) text) (sym status_is) (values_refused word set text place (refused ∙ ap Err status_is)))) is) c.take_values.ensures.err)

pub returns-in-Ok-clause-values : goal.returns-in-Ok-clause-values
returns-in-Ok-clause-values g c = IfOk-weaker c.take_values.result _ _ (λ values is. values_of_taken c.args.set c.args.word c.deref.result.now values.items is) c.take_values.ensures.ok

pub returns-in-Err-clause-took : goal.returns-in-Err-clause-took
returns-in-Err-clause-took g c = record {
  keeps = c.in-Err.ensures.keeps;
  ok = tt;
  err = subst (Untaken c.args.name.now c.args.word (values_file c.args.set) _ _) (sym c.unread.ensures)
      (unread c.args.name.now c.args.word (values_file c.args.set) _ _ c.in-Err.fault c.in-Err.ensures.cause c.in-Err.ensures.told);
}
