use Rattle.std.proofs.Common.{◌≡◌, sym, ◌∙◌}
use Rattle.noise_check.specs.Numbers.{numbers}
use Rattle.noise_check.specs.Verdicts.{verdict_of}
use Rattle.noise_check.specs.declared.verdict.Verdict.TheVariants.{Accepted}
use Rattle.command_stages.proofs.Checking.{accepted_count}
use Rattle.text_commands.proofs.judge.judge.Goals as goal

pub returns-in-Ok-Accepted-clause-count : goal.returns-in-Ok-Accepted-clause-count
returns-in-Ok-Accepted-clause-count c =
    let is : Accepted c.in-Ok-Accepted.bounds ≡ verdict_of c.args.script.now (numbers c.args.inputs.now) = sym c.in-Ok-Accepted.field-0-is ∙ c.in-Ok-Accepted.ensures in
    accepted_count c.args.script.now c.args.inputs.now c.in-Ok-Accepted.bounds c.requires.each is
