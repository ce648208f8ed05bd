use Rattle.std.proofs.Common.{◌≡◌, List, ℕ, sym, ◌∙◌, ap, subst}
use Rattle.std.specs.Prelude.{Option, None}
use Rattle.noise_check.specs.Numbers.{numbers}
use Rattle.noise_check.specs.Verdicts.{verdict_of, fresh_bounds}
use Rattle.command_words.specs.declared.status.Status.{Status}
use Rattle.command_model.specs.Reading.{unless}
use Rattle.command_model.specs.Plan.{judged_by, no_special}
use Rattle.command_stages.specs.Stages.{Came}
use Rattle.text_commands.proofs.judge.judge_fresh.Goals as goal

pub returns-clause-came : goal.returns-clause-came
returns-clause-came c = λ output.
    let script = c.args.script.now in
    let none : no_special script ≡ None = sym c.no_special.ensures.is ∙ c.in_default.is in
    let bounds : numbers c.deref.result.now ≡ fresh_bounds script = ap numbers c.deref.ensures.value ∙ c.in-Ok.ensures.values in
    subst (λ (r : Option Status). Came (unless r (judged_by (verdict_of script (fresh_bounds script)) output)) output c.judge.result) (sym none)
    (subst (λ (b : List ℕ). Came (judged_by (verdict_of script b) output) output c.judge.result) bounds (c.judge.ensures.came output))
