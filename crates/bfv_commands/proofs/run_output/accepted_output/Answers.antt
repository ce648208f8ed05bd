use Rattle.std.proofs.Common.{◌≤◌, All, List, length, sym, subst, ap, ◌∙◌, arith}
use Rattle.std.specs.Prelude.{Result, Ok, Err, IfOk}
use Rattle.std.proofs.lemmas.List.{length-map}
use Rattle.bound_num.specs.declared.Bound.{Bound}
use Rattle.script_text.specs.Scripts.{Script}
use Rattle.command_words.specs.declared.status.Status.{Status}
use Rattle.noise_check.specs.Numbers.{numbers, AllCanonical}
use Rattle.noise_check.specs.Verdicts.{verdict_of}
use Rattle.command_model.specs.Reading.{Output, accepted}
use Rattle.command_model.specs.Plan.{judged}
use Rattle.command_stages.specs.Stages.{Came}
use Rattle.bfv_commands.specs.RunStages.{LeavesRoom, bounds_of}
use Rattle.bfv_commands.proofs.AcceptedRuns.{leaves_room}
use Rattle.bfv_commands.proofs.RunOutputs.{accepted_is, stated_canonical, stated_small}
use Rattle.bfv_commands.proofs.run_output.accepted_output.Goals as goal

pub output_bound-requires-clause-canonical : goal.output_bound-requires-clause-canonical
output_bound-requires-clause-canonical c =
    subst AllCanonical (sym (c.deref.ensures.value ∙ c.in-Ok.ensures)) (stated_canonical c.args.script.now.set (length c.args.words.now) c.args.ciphers.now c.requires.bound)

pub output_bound-requires-clause-small : goal.output_bound-requires-clause-small
output_bound-requires-clause-small c =
    subst (λ (bounds : List Bound). All (λ bound. bound.e ≤ 500000) bounds) (sym (c.deref.ensures.value ∙ c.in-Ok.ensures))
    (stated_small c.args.script.now.set (length c.args.words.now) c.args.ciphers.now c.requires.bound)

pub output_bound-requires-clause-special : goal.output_bound-requires-clause-special
output_bound-requires-clause-special c = let none = ap length c.requires.keyless in λ some. absurd (omega (arith, some, none))

pub returns-clause-came : goal.returns-clause-came
returns-clause-came c = λ output.
    let script = c.args.script.now in
    subst (λ (bounds : List Bound). Came (judged script (verdict_of script (numbers bounds)) output) output c.output_bound.result) (c.deref.ensures.value ∙ c.in-Ok.ensures)
    (c.output_bound.ensures output)

pub returns-clause-room : goal.returns-clause-room
returns-clause-room c = of_result c.output_bound.result (c.output_bound.ensures accepted)
  where
    script : Script
    script = c.args.script.now

    of_result : (result : Result Bound Status) → Came (judged script (verdict_of script (numbers c.deref.result.now)) accepted) accepted result
        → IfOk result (LeavesRoom script (numbers (bounds_of c.args.ciphers.now)))
    of_result (Ok bound) came =
        let bounds_are = c.deref.ensures.value ∙ c.in-Ok.ensures in
        let found = accepted_is script (verdict_of script (numbers c.deref.result.now)) bound came.ok in
        let canonical = stated_canonical script.set (length c.args.words.now) c.args.ciphers.now c.requires.bound in
        let count = length-map c.args.ciphers.now (λ cipher. cipher.head.bound) ∙ c.requires.count in
        let verdict = ap (λ (bounds : List Bound). verdict_of script (numbers bounds)) (sym bounds_are) ∙ found.1.0 in
        subst (λ (bound : Bound). LeavesRoom script (numbers (bounds_of c.args.ciphers.now)) bound) found.1.1
        (leaves_room script (bounds_of c.args.ciphers.now) found.0 c.set-set.ensures.sound count canonical verdict)
    of_result (Err status) came = tt
