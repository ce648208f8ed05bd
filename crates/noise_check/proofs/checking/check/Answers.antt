use Rattle.std.proofs.Common.{sym, ap, ◌∙◌}
use Rattle.set_table.specs.Sets.{data_of}
use Rattle.bfv_model.specs.Limit.{limit}
use Rattle.noise_check.specs.declared.verdict.Verdict.TheVariants.{Accepted}
use Rattle.noise_check.specs.Numbers.{numbers}
use Rattle.noise_check.proofs.Verdicts.{first_above_is, accepted_is, too_noisy_is, register_within}
use Rattle.noise_check.proofs.checking.check.Goals as goal

pub register_line-requires : goal.register_line-requires
register_line-requires c =
    register_within c.args.script.now c.args.inputs.now _ _ c.requires.each c.in_ok-bounds.ensures.values
    (first_above_is c.args.script.now _ _ _ _ _ (sym c.in-Some.is ∙ c.first_above.ensures) c.limit-limit.ensures.value c.set.ensures.value c.deref.ensures.value)

pub returns-in-None : goal.returns-in-None
returns-in-None c =
    ap Accepted c.new.ensures
    ∙ accepted_is c.args.script.now (numbers c.args.inputs.now) _ c.in_ok-bounds.ensures.canonical c.in_ok-bounds.ensures.values
    (first_above_is c.args.script.now _ _ _ _ _ (sym c.in-None.is ∙ c.first_above.ensures) c.limit-limit.ensures.value c.set.ensures.value c.deref.ensures.value)

pub returns-in-Some : goal.returns-in-Some
returns-in-Some c =
    too_noisy_is c.args.script.now (numbers c.args.inputs.now) _ c.in-Some.register _ _ _ c.in_ok-bounds.ensures.canonical c.in_ok-bounds.ensures.values
    (first_above_is c.args.script.now _ _ _ _ _ (sym c.in-Some.is ∙ c.first_above.ensures) c.limit-limit.ensures.value c.set.ensures.value c.deref.ensures.value)
    c.register_line.ensures.value c.index.ensures c.limit-limit.ensures.canonical
    (c.limit-limit.ensures.value ∙ ap (λ set. limit (data_of set)) c.set.ensures.value)
