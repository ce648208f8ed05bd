-- What is asked of a run gives what is asked of each of its steps.
use Rattle.std.proofs.Common.{arith, ◌≡◌, ℕ, ℤ, ◌+◌, ◌*◌, ◌-◌, ◌%◌, ◌^◌, ◌<◌, ◌≤◌, refl, ap, subst, ◌∙◌, List, [], ◌∷◌, length, take, get_or, slice_index, Some, All}
use Rattle.std.specs.Prelude.{slice_get}
use Rattle.std.specs.List.{flat_map}
use Rattle.std.proofs.lemmas.List.Concat.{get_or-flat_map}
use Rattle.std.proofs.lemmas.List.Folds.{length-flat_map-take}
use Rattle.set_table.specs.declared.SetName.{SetName}
use Rattle.set_table.specs.declared.KeyKind.{KeyKind}
use Rattle.set_table.specs.declared.KeyKind.TheVariants as kind
use Rattle.set_table.specs.Sets.{degree_of}
use Rattle.bfv_params.specs.Contexts.{modulus_in}
use Rattle.bfv_params.specs.Values.{ContextValue}
use Rattle.script_text.specs.declared.script.Op.{Op}
use Rattle.script_text.specs.declared.script.Op.TheVariants.{Add, Sub, Neg, AddPlain, SubPlain, MulPlain, MulConst, Mul, Relin, Turn, Swap}
use Rattle.script_text.specs.declared.script.Step.{Step}
use Rattle.script_text.specs.Scripts.{Script, keys_needed, needs_of, registers}
use Rattle.script_text.specs.Evaluating.{IsWithin}
use Rattle.noise_check.specs.ExactBounds.{exact_bound, exact_bounds}
use Rattle.key_switch.specs.Providers.{Digits}
use Rattle.script_run.specs.Registers.{input_count}
use Rattle.script_run.specs.Premises.{IsQuiet, RunPremise, StepPremise, TellsKey}
use Rattle.script_text.proofs.Registers.{length-registers}
use Rattle.script_run.proofs.KeyNeeds.{step_needs}
use Rattle.script_run.proofs.Registers.{registers-kept}

-- the bounds of the registers before step i
abbrev pub bounds_before : SetName → Script → List ℕ → ℕ → List ℕ
bounds_before set script bounds i = registers (exact_bound set) bounds (take i script.steps)

-- no register before a step is too noisy
quiet_before : (ctx : ContextValue) (script : Script) (bounds : List ℕ) (i r : ℕ) → script.set ≡ ctx.set → length bounds ≡ input_count script → IsQuiet ctx script bounds
    → i ≤ length script.steps → r < input_count script + i → 4 * slice_index (bounds_before ctx.set script bounds i) r ≤ modulus_in ctx
unfolding exact_bounds
quiet_before ctx script bounds i r same bounded quiet within defined =
    let all = length-registers (exact_bound script.set) bounds script.steps in
    let kept = registers-kept (exact_bound script.set) bounds script.steps i r 0 within (omega (arith, bounded, defined)) in
    subst (λ (set : SetName). 4 * slice_index (bounds_before set script bounds i) r ≤ modulus_in ctx) same
    (subst (λ (bound : ℕ). 4 * bound ≤ modulus_in ctx) kept (quiet r 0 (omega (arith, all, bounded, within, defined))))

-- the key that a step needs is among those of the script
needed : (script : Script) (i : ℕ) (op : Op) (step : Step) (key : KeyKind × ℕ) (P : KeyKind × ℕ → Type 0) → i < length script.steps → slice_get script.steps i ≡ Some step
    → op ≡ step.op → keys_needed (degree_of script.set) op ≡ key ∷ [] → All P (needs_of script) → P key
needed script i op step key P below is same one all =
    let needs : Step → List (KeyKind × ℕ) = λ (x : Step). keys_needed (degree_of script.set) x.op in
    let here : needs (get_or script.steps i step) ≡ key ∷ [] = step_needs (degree_of script.set) script.steps i op step is same step ∙ one in
    let count : length (needs (get_or script.steps i step)) ≡ 1 = ap length here in
    let place : ℕ = length (flat_map needs (take i script.steps)) in
    let inside : place + 0 < length (needs_of script) = let few = length-flat_map-take needs script.steps i step below in omega arith in
    subst P (get_or-flat_map needs script.steps i 0 step key below (omega (arith, count)) ∙ ap (λ (keys : List (KeyKind × ℕ)). get_or keys 0 key) here) (all (place + 0) key inside)

pub step_premise : (n : ℕ) (ctx : ContextValue) (told : Digits → Type 0) (s : ℕ → ℤ) (script : Script) (bounds : List ℕ) (i : ℕ) (op : Op) (step : Step) (t plains : ℕ)
    → script.set ≡ ctx.set → length bounds ≡ input_count script → RunPremise n ctx told s script bounds → i < length script.steps → slice_get script.steps i ≡ Some step
    → op ≡ step.op → IsWithin t plains (input_count script + i) op → StepPremise n ctx told s (bounds_before ctx.set script bounds i) op
step_premise n ctx told s script bounds i op step t plains set bounded premise below is same within = by op same within
  where
    quiet : (r : ℕ) → r < input_count script + i → 4 * slice_index (bounds_before ctx.set script bounds i) r ≤ modulus_in ctx
    quiet r defined = quiet_before ctx script bounds i r set bounded premise.quiet (omega (arith, below)) defined

    tells : (kind : KeyKind) (element : ℕ) (op : Op) → op ≡ step.op → keys_needed (degree_of script.set) op ≡ (kind, element) ∷ [] → TellsKey told ctx.set s kind element
    tells kind element op same one =
        subst (λ (x : SetName). TellsKey told x s kind element) set
        (needed script i op step (kind, element) (λ key. TellsKey told script.set s key.0 key.1) below is same one premise.keys)

    degree : degree_of script.set ≡ degree_of ctx.set
    degree = ap degree_of set

    by : (op : Op) → op ≡ step.op → IsWithin t plains (input_count script + i) op → StepPremise n ctx told s (bounds_before ctx.set script bounds i) op
    by (Add a b) same within = tt
    by (Sub a b) same within = tt
    by (Neg a) same within = tt
    by (AddPlain a p) same within = tt
    by (SubPlain a p) same within = tt
    by (MulPlain a p) same within = tt
    by (MulConst a k) same within = tt
    by (Mul a b) same within = (premise.ternary, quiet a within.0.0, quiet b within.0.1.0)
    by (Relin a) same within = (premise.ternary, tells kind.Relin 0 (Relin a) same refl)
    by (Turn a k) same within = (premise.ternary, subst (λ (n : ℕ). TellsKey told ctx.set s kind.Turn (3 ^ k % (2 * n))) degree (tells kind.Turn _ (Turn a k) same refl))
    by (Swap a) same within = (premise.ternary, subst (λ (n : ℕ). TellsKey told ctx.set s kind.Turn (2 * n - 1)) degree (tells kind.Turn _ (Swap a) same refl))
