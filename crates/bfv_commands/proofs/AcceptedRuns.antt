-- What the verdict on a script says of its exact bounds, where its inputs have the bounds that files state.
use Rattle.std.proofs.Common.{◌≡◌, ⊎_elim, ℕ, ◌*◌, ◌^◌, ◌<◌, ◌≤◌, zero, suc, All, List, [], ◌∷◌, length, get_or, refl, sym, ◌∙◌, ap, subst, arith}
use Rattle.std.specs.Prelude.{true, IsTrue, slice_index}
use Rattle.std.proofs.Math.Nat.{mul-le-mul_left}
use Rattle.std.proofs.Math.Pow.{pow_mono}
use Rattle.std.proofs.lemmas.Bool.{cases_lt}
use Rattle.std.proofs.lemmas.List.{take_all, get_or-map, get_or_default, get_or_past, length-map}
use Rattle.set_table.specs.declared.SetName.{SetName}
use Rattle.set_table.specs.Sets.{data_of}
use Rattle.ring_law.specs.Moduli.{product}
use Rattle.bound_num.specs.declared.Bound.{Bound}
use Rattle.bound_num.specs.Bound.{bound_value}
use Rattle.file_model.specs.declared.file_kind.FileKind.TheVariants.{Cipher}
use Rattle.file_model.specs.FileText.{bound_fits}
use Rattle.bfv_model.specs.Limit.{limit}
use Rattle.file_model.proofs.DrawnFiles.{bound_fits-from_canonical}
use Rattle.bfv_model.proofs.Limits.{limit_le, limit_lt}
use Rattle.file_model.proofs.Rules.{cipher_bound}
use Rattle.bfv_params.specs.Moduli.{data_at}
use Rattle.script_text.specs.Scripts.{Script, IsSound, cipher_inputs}
use Rattle.noise_check.specs.ExactBounds.{exact_bounds}
use Rattle.noise_check.specs.RoundedBounds.{rounded_bounds}
use Rattle.noise_check.specs.Numbers.{numbers, AllCanonical}
use Rattle.noise_check.specs.Verdicts.{verdict_of}
use Rattle.noise_check.specs.declared.verdict.Verdict.TheVariants.{Accepted}
use Rattle.noise_check.proofs.Registers.{exact-le-rounded}
use Rattle.noise_check.proofs.VerdictLaws.{accepted_values, accepted_canonical, accepted_within}
use Rattle.command_model.specs.Plan.{bound_at}
use Rattle.bfv_commands.specs.RunStages.{LeavesRoom}
use Rattle.command_stages.proofs.Checking.{output_within}

-- ---- the bounds of files
-- the exponent of the bound that a cipher states is small
pub stated_exponent : (set : SetName) (mantissa exponent : ℕ) → IsTrue (bound_fits Cipher set mantissa exponent) → exponent ≤ 500000
unfolding bound_value
stated_exponent set mantissa exponent fits =
    let b = cipher_bound set mantissa exponent fits in
    ⊎_elim (λ (below : exponent < 400). omega arith)
    (λ (above : 400 ≤ exponent).
    let positive : 0 < mantissa = ⊎_elim (λ (none : exponent ≡ 0). absurd (omega arith)) (λ (full : 2147483648 ≤ mantissa). omega arith) b.full in
    let high : 2 ^ 400 ≤ 2 ^ exponent = pow_mono above in
    let scaled : 2 ^ exponent * 1 ≤ 2 ^ exponent * mantissa = mul-le-mul_left (2 ^ exponent) positive in
    let within = b.within in
    let low = limit_lt set in
    absurd (omega arith))
    (cases_lt exponent 400)

-- ---- an accepted script
-- the bound at a place of a list
bound_in : (bounds : List Bound) (r : ℕ) (d : Bound) → r < length bounds → bound_at bounds r ≡ get_or bounds r d
bound_in [] r d below = absurd (omega arith)
bound_in (bound ∷ bounds) zero d below = refl
bound_in (bound ∷ bounds) (suc r) d below = bound_in bounds r d (omega arith)

-- a rounded bound of an accepted script is at most the limit
rounded_within : (script : Script) (inputs bounds : List Bound) → AllCanonical inputs → verdict_of script (numbers inputs) ≡ Accepted bounds → (r : ℕ)
    → slice_index (rounded_bounds script (numbers inputs)) r ≤ limit (data_of script.set)
rounded_within script inputs bounds canonical accepted r =
    let values = accepted_values script inputs bounds canonical accepted in
    subst (λ (rounded : List ℕ). slice_index rounded r ≤ limit (data_of script.set)) values
    (⊎_elim
    (λ (inside : r < length bounds).
    let none : Bound = record { m = 0; e = 0 } in
    subst (λ (value : ℕ). value ≤ limit (data_of script.set)) (sym (get_or-map (λ b. bound_value b.m b.e) bounds r none 0 inside))
    (accepted_within script inputs bounds canonical accepted r none inside))
    (λ (past : length bounds ≤ r).
    let count = length-map bounds (λ b. bound_value b.m b.e) in
    let zero_there : slice_index (numbers bounds) r ≡ 0 = get_or_past (numbers bounds) r 0 (omega arith) in
    omega arith)
    (cases_lt r (length bounds)))

pub leaves_room : (script : Script) (inputs bounds : List Bound) → IsSound script → length inputs ≡ length (cipher_inputs script.inputs) → AllCanonical inputs
    → verdict_of script (numbers inputs) ≡ Accepted bounds → LeavesRoom script (numbers inputs) (bound_at bounds script.output)
leaves_room script inputs bounds sound count canonical accepted =
    let none : Bound = record { m = 0; e = 0 } in
    let inside = output_within script inputs bounds sound count (sym accepted) in
    let at = bound_in bounds script.output none inside in
    let values = accepted_values script inputs bounds canonical accepted in
    let bound = get_or bounds script.output none in
    subst (LeavesRoom script (numbers inputs)) (sym at) record {
      fits = bound_fits-from_canonical script.set bound.m bound.e (accepted_canonical script inputs bounds canonical accepted script.output none inside)
          (accepted_within script inputs bounds canonical accepted script.output none inside);
      above =
          let exact = exact-le-rounded script (numbers inputs) script.output in
          let rounded : slice_index (rounded_bounds script (numbers inputs)) script.output ≡ bound_value bound.m bound.e =
          ap (λ (rounded : List ℕ). slice_index rounded script.output) (sym values)
          ∙ get_or-map (λ b. bound_value b.m b.e) bounds script.output none 0 inside in
          omega arith;
      quiet = λ r d below.
          let exact = exact-le-rounded script (numbers inputs) r in
          let within = rounded_within script inputs bounds canonical accepted r in
          let quarter = limit_le (data_of script.set) in
          let default : get_or (exact_bounds script (numbers inputs)) r d ≡ slice_index (exact_bounds script (numbers inputs)) r = get_or_default (exact_bounds script (numbers inputs)) r d 0 below in
          let moduli : data_at script.set (length (data_of script.set)) ≡ data_of script.set = take_all (length (data_of script.set)) (data_of script.set) (omega arith) in
          subst (λ (qs : List ℕ). 4 * get_or (exact_bounds script (numbers inputs)) r d ≤ product qs) (sym moduli) (omega arith);
    }
