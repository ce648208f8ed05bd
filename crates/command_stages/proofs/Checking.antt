-- Scripts that are read and checked.
use Rattle.std.proofs.Common.{◌≡◌, ℕ, ◌+◌, ◌<◌, List, length, take, refl, map, sym, ◌∙◌, ap, subst}
use Rattle.std.specs.Prelude.{Option, Some, None, Err}
use Rattle.std.proofs.lemmas.Bool.{lt-ltb}
use Rattle.std.proofs.lemmas.List.{length-map}
use Rattle.bound_num.specs.declared.Bound.{Bound}
use Rattle.script_text.specs.declared.faults.ScriptPlace.TheVariants.{TooLong}
use Rattle.script_text.specs.Grammar.{script_of}
use Rattle.script_text.specs.Scripts.{Script, IsSound, cipher_inputs}
use Rattle.script_text.proofs.Registers.{length-registers}
use Rattle.noise_check.specs.Numbers.{numbers, bound_of}
use Rattle.noise_check.specs.RoundedBounds.{rounded_bounds, rounded_bound}
use Rattle.noise_check.specs.Verdicts.{verdict_of, verdict_at, first_above}
use Rattle.noise_check.specs.declared.verdict.Verdict.TheVariants.{Accepted}
use Rattle.noise_check.proofs.BoundLists.{length-numbers}
use Rattle.command_stages.proofs.Fronts.{front_enough}

too_long : (text : List ℕ) → 1048576 < length text → script_of text ≡ Err TooLong
too_long text long = rw (lt-ltb 1048576 (length text) long) refl

pub script_of_front : (text : List ℕ) → script_of (take 1048577 text) ≡ script_of text
script_of_front text = front_enough script_of 1048576 (Err TooLong) too_long text

-- where a script is accepted, each of its registers has a bound
pub accepted_count : (script : Script) (inputs bounds : List Bound) → length inputs ≡ length (cipher_inputs script.inputs)
    → Accepted bounds ≡ verdict_of script (numbers inputs) → length bounds ≡ length (cipher_inputs script.inputs) + length script.steps
unfolding rounded_bounds
accepted_count script inputs bounds count is = of_first (first_above script (rounded_bounds script (numbers inputs))) is
  where
    of_first : (first : Option ℕ) → Accepted bounds ≡ verdict_at script (rounded_bounds script (numbers inputs)) first
        → length bounds ≡ length (cipher_inputs script.inputs) + length script.steps
    of_first None is =
        let same : bounds ≡ map bound_of (rounded_bounds script (numbers inputs)) = cc in
        ap length same ∙ length-map (rounded_bounds script (numbers inputs)) bound_of ∙ length-registers (rounded_bound script.set) (numbers inputs) script.steps
        ∙ ap (λ (n : ℕ). n + length script.steps) (length-numbers inputs ∙ count)
    of_first (Some register) is = absurd (cc)

-- the output of a sound script is one of the registers whose bounds are given
pub output_within : (script : Script) (inputs bounds : List Bound) → IsSound script → length inputs ≡ length (cipher_inputs script.inputs)
    → Accepted bounds ≡ verdict_of script (numbers inputs) → script.output < length bounds
output_within script inputs bounds sound count is = subst (λ (n : ℕ). script.output < n) (sym (accepted_count script inputs bounds count is)) sound.output
