-- What is said of scripts that are judged by their noise.
use Rattle.std.proofs.Common.{◌≡◌, List, refl, subst}
use Rattle.bound_num.specs.declared.Bound.{Bound}
use Rattle.script_text.specs.Scripts.{Script}
use Rattle.noise_check.specs.declared.verdict.Verdict.{Verdict}
use Rattle.noise_check.specs.declared.verdict.Verdict.TheVariants.{Accepted, TooNoisy}
use Rattle.command_words.specs.declared.status.Status.{Status}
use Rattle.command_words.specs.declared.status.Status.TheVariants as status
use Rattle.command_model.specs.Reading.{Output, refused}
use Rattle.command_model.specs.Plan.{judged, judged_by, bound_at}
use Rattle.command_stages.specs.Causes.{OwesNothing}

-- a verdict owes to no file
pub judged_by_owes : (verdict : Verdict) (output : List Bound → Output) (refusal : Status) → judged_by verdict output ≡ refused refusal → OwesNothing refusal
judged_by_owes (Accepted bounds) output refusal is = absurd (cc)
judged_by_owes (TooNoisy line bound limit) output refusal is =
    let same : status.TooNoisy line bound limit ≡ refusal = cc in subst OwesNothing same (record { none = tt; nameless = refl })

pub judged_owes : (script : Script) (verdict : Verdict) (output : Bound → Output) (refusal : Status) → judged script verdict output ≡ refused refusal → OwesNothing refusal
judged_owes script verdict output = judged_by_owes verdict (λ bounds. output (bound_at bounds script.output))
