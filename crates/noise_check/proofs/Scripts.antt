-- What the inputs and the steps of a script say.
use Rattle.std.proofs.Common.{◌≡◌, ℕ, ◌+◌, ◌-◌, ◌<◌, ◌≤◌, ap, ◌∙◌, subst, arith, List, [], length, get_or, drop, length-append}
use Rattle.std.specs.Prelude.{slice_get, IfSome}
use Rattle.std.specs.List.{flat_map}
use Rattle.std.proofs.lemmas.Option.{slice_get-get_or}
use Rattle.std.proofs.lemmas.List.{drop_more, drop_all}
use Rattle.std.proofs.lemmas.List.Folds.{length-flat_map-take}
use Rattle.script_text.specs.declared.script.Op.TheVariants.{Neg}
use Rattle.script_text.specs.declared.script.Step.{Step}
use Rattle.script_text.specs.Scripts.{Script, keys_needed, needs_of}
use Rattle.set_table.specs.Sets.{degree_of}

abbrev pub no_step : Step
no_step = record { name = []; op = Neg 0; line = 0 }

-- an element that an accessor reads
pub read : {X : Type 0} (P : X → Type 0) (xs : List X) (i : ℕ) (d : X) → i < length xs → IfSome (slice_get xs i) P → P (get_or xs i d)
read P xs i d within is = subst (λ o. IfSome o P) (slice_get-get_or xs i d within) is

-- the keys that the steps from place i on need
abbrev pub needs_from : Script → ℕ → ℕ
needs_from script i = length (flat_map (λ step. keys_needed (degree_of script.set) step.op) (drop i script.steps))

pub needs_from-step : (script : Script) (i : ℕ) → i < length script.steps →
    needs_from script i ≡ length (keys_needed (degree_of script.set) (get_or script.steps i no_step).op) + needs_from script (i + 1)
needs_from-step script i within =
    ap (λ steps. length (flat_map (λ step. keys_needed (degree_of script.set) step.op) steps)) (drop_more script.steps i no_step within)
    ∙ length-append (keys_needed (degree_of script.set) (get_or script.steps i no_step).op) _

pub needs_from-end : (script : Script) (i : ℕ) → length script.steps ≤ i → needs_from script i ≡ 0
needs_from-end script i past = ap (λ steps. length (flat_map (λ step. keys_needed (degree_of script.set) step.op) steps)) (drop_all i script.steps past)

-- a step needs no more keys than the script
pub step_needs : (script : Script) (i : ℕ) → i < length script.steps →
    length (keys_needed (degree_of script.set) (get_or script.steps i no_step).op) ≤ length (needs_of script)
step_needs script i within =
    let some = length-flat_map-take (λ (step : Step). keys_needed (degree_of script.set) step.op) script.steps i no_step within in
    omega arith
