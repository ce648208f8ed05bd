-- The verdict from the bounds of all registers.
use Rattle.std.proofs.Common.{◌≡◌, ℕ, ◌+◌, ◌<◌, nat_lt, sym, ap, ap₂, ◌∙◌, subst, arith, List, [], ◌∷◌, ◌++◌, length, get_or, slice_index, position, Option, Some, None, length-append}
use Rattle.std.specs.Prelude.{fold}
use Rattle.std.proofs.lemmas.List.{get_or-map}
use Rattle.std.proofs.lemmas.List.Quantifiers.{position-Some}
use Rattle.set_table.specs.declared.SetName.{SetName}
use Rattle.set_table.specs.Sets.{data_of}
use Rattle.bound_num.specs.declared.Bound.{Bound}
use Rattle.bound_num.specs.Bound.{bound_value, IsCanonical}
use Rattle.bfv_model.specs.Limit as limits
use Rattle.script_text.specs.declared.script.Step.{Step}
use Rattle.script_text.specs.Scripts.{Script, cipher_inputs, register_lines}
use Rattle.noise_check.specs.Numbers.{numbers, bound_of, AllCanonical}
use Rattle.noise_check.specs.RoundedBounds.{rounded_bound, rounded_bounds}
use Rattle.noise_check.specs.declared.verdict.Verdict.TheVariants.{Accepted, TooNoisy}
use Rattle.noise_check.specs.Verdicts.{first_above, verdict_at, verdict_of}
use Rattle.noise_check.proofs.BoundLists.{length-numbers, bound_of-value, map-bound_of}

-- the limit, the set and the list as the code has them
pub first_above_is : (script : Script) (limit : ℕ) (set : SetName) (given bounds : List Bound) (found : Option ℕ) →
    found ≡ position (nat_lt limit) (numbers given) → limit ≡ limits.limit (data_of set) → set ≡ script.set → given ≡ bounds →
    found ≡ first_above script (numbers bounds)
first_above_is script limit set given bounds found is limit_is set_is given_is =
    is ∙ ap (λ l. position (nat_lt l) (numbers given)) (limit_is ∙ ap (λ s. limits.limit (data_of s)) set_is)
    ∙ ap (λ list. position (nat_lt (limits.limit (data_of script.set))) (numbers list)) given_is

verdict_from : (script : Script) (inputs bounds : List ℕ) (found : Option ℕ) → bounds ≡ rounded_bounds script inputs → found ≡ first_above script bounds →
    verdict_at script bounds found ≡ verdict_of script inputs
verdict_from script inputs bounds found is found_is =
    ap (verdict_at script bounds) found_is ∙ ap (λ list. verdict_at script list (first_above script list)) is

pub accepted_is : (script : Script) (inputs : List ℕ) (bounds : List Bound) → AllCanonical bounds →
    numbers bounds ≡ rounded_bounds script inputs → None ≡ first_above script (numbers bounds) → Accepted bounds ≡ verdict_of script inputs
accepted_is script inputs bounds canonical is found =
    ap Accepted (sym (map-bound_of bounds canonical)) ∙ verdict_from script inputs (numbers bounds) None is found

pub too_noisy_is : (script : Script) (inputs : List ℕ) (bounds : List Bound) (register line : ℕ) (bound limit : Bound) → AllCanonical bounds →
    numbers bounds ≡ rounded_bounds script inputs → Some register ≡ first_above script (numbers bounds) →
    line ≡ slice_index (register_lines script) register → bound ≡ get_or bounds register bound →
    IsCanonical limit.m limit.e → bound_value limit.m limit.e ≡ limits.limit (data_of script.set) →
    TooNoisy line bound limit ≡ verdict_of script inputs
too_noisy_is script inputs bounds register line bound limit canonical is found line_is bound_is limit_canonical limit_is =
    ap (λ line. TooNoisy line bound limit) line_is
    ∙ ap₂ (λ bound limit. TooNoisy (slice_index (register_lines script) register) bound limit) bound_same limit_same
    ∙ verdict_from script inputs (numbers bounds) (Some register) is found
  where
    within : register < length bounds
    within =
        let place = position-Some (nat_lt (limits.limit (data_of script.set))) (numbers bounds) register 0 (sym found) in
        let same = length-numbers bounds in
        omega (arith, place.0)

    bound_same : bound ≡ bound_of (slice_index (numbers bounds) register)
    bound_same =
        sym (bound_of-value bound (subst (λ b. IsCanonical b.m b.e) (sym bound_is) (canonical register bound within)))
        ∙ ap bound_of (ap (λ b. bound_value b.m b.e) bound_is ∙ sym (get_or-map (λ b. bound_value b.m b.e) bounds register bound 0 within))

    limit_same : limit ≡ bound_of (limits.limit (data_of script.set))
    limit_same = sym (bound_of-value limit limit_canonical) ∙ ap bound_of limit_is

-- as many registers as lines
length-registers : (made : List ℕ → Step → ℕ) (inputs : List ℕ) (steps : List Step) →
    length (fold (λ so_far step. so_far ++ made so_far step ∷ []) inputs steps) ≡ length inputs + length steps
length-registers made inputs [] = omega arith
length-registers made inputs (step ∷ steps) =
    let rest = length-registers made (inputs ++ made inputs step ∷ []) steps in
    let longer = length-append inputs (made inputs step ∷ []) in
    omega arith

pub register_within : (script : Script) (inputs : List Bound) (bounds : List Bound) (register : ℕ) → length inputs ≡ length (cipher_inputs script.inputs) →
    numbers bounds ≡ rounded_bounds script (numbers inputs) → Some register ≡ first_above script (numbers bounds) → register < length (cipher_inputs script.inputs) + length script.steps
unfolding rounded_bounds
register_within script inputs bounds register each is found =
    let place = position-Some (nat_lt (limits.limit (data_of script.set))) (numbers bounds) register 0 (sym found) in
    let all = ap length is in
    let count = length-registers (λ so_far step. rounded_bound script.set so_far step.op) (numbers inputs) script.steps in
    let given = length-numbers inputs in
    omega (arith, place.0)
