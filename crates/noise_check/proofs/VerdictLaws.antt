-- What a verdict says of canonical bounds.
use Rattle.std.proofs.Common.{◌≡◌, ℕ, ◌-◌, ◌*◌, ◌/◌, ◌^◌, ◌<◌, ◌≤◌, inl, ⊎_elim, Bool, true, false, cond, nat_lt, refl, sym, ap, ◌∙◌, subst, arith, List, [], ◌∷◌, ◌++◌, length, get_or, map, position, Option, Some, None, All}
use Rattle.std.specs.Int.{div_ceil}
use Rattle.std.specs.List.{position_or_len}
use Rattle.std.proofs.Math.ListN.{get_or-map}
use Rattle.std.proofs.lemmas.Bool.{cases_lt, ltb-true, ltb-false}
use Rattle.std.proofs.lemmas.List.{get_or_past, get_or-map as get_or-map_within}
use Rattle.std.proofs.lemmas.List.Elements.{All-push}
use Rattle.std.proofs.lemmas.List.Quantifiers.{position-Some}
use Rattle.std.proofs.lemmas.List.Sums.{fails_before_first}
use Rattle.set_table.specs.declared.SetName.{SetName}
use Rattle.set_table.specs.declared.SetName.TheVariants.{One16, Toy16, S4096, S8192, S16384}
use Rattle.set_table.specs.Sets.{data_of}
use Rattle.bound_num.specs.declared.Bound.{Bound}
use Rattle.bound_num.specs.Bound.{bound_value, IsCanonical, IsUp, IsDown, bit_length, up, down}
use Rattle.bound_num.proofs.Rounding.{ceiling_of, floor_of, up_of_mantissa, up_of_carry, down_of_mantissa}
use Rattle.bound_num.proofs.Digits.{Leads, bit_length-leads}
use Rattle.bound_num.proofs.Closed.{div_ceil-le_leads, div-lt_leads, up_value, down_value}
use Rattle.ring_law.specs.Moduli.{product}
use Rattle.bfv_model.specs.Limit.{limit}
use Rattle.bfv_model.proofs.Limits.{limit_le}
use Rattle.script_text.specs.Limits.{max_steps}
use Rattle.script_text.specs.declared.script.Op.{Op}
use Rattle.script_text.specs.declared.script.Op.TheVariants.{Add, Sub, Neg, AddPlain, SubPlain, MulPlain, MulConst, Mul, Relin, Turn, Swap}
use Rattle.script_text.specs.declared.script.Step.{Step}
use Rattle.script_text.specs.Scripts.{Script, registers}
use Rattle.noise_check.specs.Numbers.{numbers, bound_of, AllCanonical}
use Rattle.noise_check.specs.ExactBounds.{exact_bounds}
use Rattle.noise_check.specs.RoundedBounds.{rounded_bound, rounded_bounds}
use Rattle.noise_check.specs.declared.verdict.Verdict.TheVariants.{Accepted, TooNoisy}
use Rattle.noise_check.specs.Verdicts.{first_above, verdict_at, verdict_of}
use Rattle.noise_check.proofs.Registers.{above_limit-exact, exact-le-rounded}
use Rattle.noise_check.proofs.BoundLists.{zero_bound, length-numbers, numbers_push, bound_of-value, map-bound_of}

-- x is the number of a canonical bound
record IsBound (x : ℕ) : Type 0 where
  bound : Bound
  canonical : IsCanonical bound.m bound.e
  value : bound_value bound.m bound.e ≡ x

bound_up : (x : ℕ) → IsBound (up x)
bound_up x = by (bit_length x - 32) (bit_length-leads x (bit_length x - 32) refl)
  where
    of : (m e : ℕ) → IsUp x m e → IsBound (up x)
    of m e is = record { bound = record { m = m; e = e }; canonical = is.canonical; value = up_value x m e is }

    by : (s : ℕ) → Leads x s → IsBound (up x)
    by s leads = ⊎_elim
        (λ (fits : div_ceil x (2 ^ s) < 2 ^ 32). of _ _ (up_of_mantissa x s (div_ceil x (2 ^ s)) (ceiling_of x s leads.fills) fits))
        (λ (over : 2 ^ 32 ≤ div_ceil x (2 ^ s)). of _ _ (up_of_carry x s (div_ceil x (2 ^ s)) (ceiling_of x s leads.fills) (let most = div_ceil-le_leads x s leads in omega arith)))
        (cases_lt (div_ceil x (2 ^ s)) (2 ^ 32))

bound_at : (bounds : List Bound) (i : ℕ) → AllCanonical bounds → IsBound (get_or (numbers bounds) i 0)
unfolding bound_value
bound_at bounds i all = record {
  bound = get_or bounds i zero_bound;
  canonical = ⊎_elim
      (λ (within : i < length bounds). all i zero_bound within)
      (λ (past : length bounds ≤ i). subst (λ (bound : Bound). IsCanonical bound.m bound.e) (sym (get_or_past bounds i zero_bound past)) zero_canonical)
      (cases_lt i (length bounds));
  value = sym (get_or-map (λ (bound : Bound). bound_value bound.m bound.e) bounds i zero_bound);
}
  where
    zero_canonical : IsCanonical 0 0
    zero_canonical = record { word = omega arith; full = inl refl }

bound_result : (set : SetName) (bounds : List Bound) (op : Op) → AllCanonical bounds → IsBound (rounded_bound set (numbers bounds) op)
bound_result set bounds (Add a b) all = bound_up _
bound_result set bounds (Sub a b) all = bound_up _
bound_result set bounds (Neg a) all = bound_at bounds a all
bound_result set bounds (AddPlain a p) all = bound_up _
bound_result set bounds (SubPlain a p) all = bound_up _
bound_result set bounds (MulPlain a p) all = bound_up _
bound_result set bounds (MulConst a k) all = bound_up _
bound_result set bounds (Mul a b) all = bound_up _
bound_result set bounds (Relin a) all = bound_up _
bound_result set bounds (Turn a k) all = bound_up _
bound_result set bounds (Swap a) all = bound_up _

-- the numbers are those of canonical bounds
pub record AreBounds (values : List ℕ) : Type 0 where
  pub bounds : List Bound
  pub canonical : AllCanonical bounds
  pub numbers_are : numbers bounds ≡ values

bounds_from : (set : SetName) (steps : List Step) (values : List ℕ) → AreBounds values → AreBounds (registers (rounded_bound set) values steps)
bounds_from set [] values are = are
bounds_from set (step ∷ steps) values are =
    bounds_from set steps (values ++ rounded_bound set values step.op ∷ []) (push (bound_result set are.bounds step.op are.canonical))
  where
    push : IsBound (rounded_bound set (numbers are.bounds) step.op) → AreBounds (values ++ rounded_bound set values step.op ∷ [])
    push made = record {
      bounds = are.bounds ++ made.bound ∷ [];
      canonical = All-push (λ bound. IsCanonical bound.m bound.e) are.bounds made.bound are.canonical made.canonical;
      numbers_are =
          numbers_push are.bounds made.bound
          ∙ ap (λ x. numbers are.bounds ++ x ∷ []) made.value
          ∙ ap (λ list. list ++ rounded_bound set list step.op ∷ []) are.numbers_are;
    }

pub rounded_are_bounds : (script : Script) (inputs : List Bound) → AllCanonical inputs → AreBounds (rounded_bounds script (numbers inputs))
unfolding rounded_bounds
rounded_are_bounds script inputs canonical = bounds_from script.set script.steps (numbers inputs) (record { bounds = inputs; canonical = canonical; numbers_are = refl })

-- ---- accepted scripts
none_above : (p : ℕ → Bool) (xs : List ℕ) (i : ℕ) → position p xs ≡ None → i < length xs → p (get_or xs i 0) ≡ false
none_above p xs i none within = fails_before_first p xs i 0 (by (nat_lt (position_or_len p xs) (length xs)) refl none)
  where
    by : (test : Bool) → nat_lt (position_or_len p xs) (length xs) ≡ test → cond test (Some (position_or_len p xs)) None ≡ None → i < position_or_len p xs
    by true is same = absurd (cc)
    by false is same = let past = ltb-false (position_or_len p xs) (length xs) is in omega arith

record IsAccepted (script : Script) (values : List ℕ) (bounds : List Bound) : Type 0 where
  listed : map bound_of values ≡ bounds
  none : first_above script values ≡ None

accepted : (script : Script) (values : List ℕ) (bounds : List Bound) → verdict_at script values (first_above script values) ≡ Accepted bounds → IsAccepted script values bounds
accepted script values bounds same = by (first_above script values) refl same
  where
    by : (found : Option ℕ) → first_above script values ≡ found → verdict_at script values found ≡ Accepted bounds → IsAccepted script values bounds
    by None is same = record { listed = cc; none = is }
    by (Some register) is same = absurd (cc)

accepted_bounds : (script : Script) (inputs bounds : List Bound) (canonical : AllCanonical inputs) →
    verdict_of script (numbers inputs) ≡ Accepted bounds → (rounded_are_bounds script inputs canonical).bounds ≡ bounds
accepted_bounds script inputs bounds canonical same =
    let are = rounded_are_bounds script inputs canonical in
    sym (map-bound_of are.bounds are.canonical) ∙ ap (map bound_of) are.numbers_are ∙ (accepted script (rounded_bounds script (numbers inputs)) bounds same).listed

pub accepted_values : (script : Script) (inputs bounds : List Bound) → AllCanonical inputs →
    verdict_of script (numbers inputs) ≡ Accepted bounds → numbers bounds ≡ rounded_bounds script (numbers inputs)
accepted_values script inputs bounds canonical same =
    ap numbers (sym (accepted_bounds script inputs bounds canonical same)) ∙ (rounded_are_bounds script inputs canonical).numbers_are

pub accepted_canonical : (script : Script) (inputs bounds : List Bound) → AllCanonical inputs →
    verdict_of script (numbers inputs) ≡ Accepted bounds → AllCanonical bounds
accepted_canonical script inputs bounds canonical same =
    subst AllCanonical (accepted_bounds script inputs bounds canonical same) (rounded_are_bounds script inputs canonical).canonical

pub accepted_within : (script : Script) (inputs bounds : List Bound) → AllCanonical inputs →
    verdict_of script (numbers inputs) ≡ Accepted bounds → All (λ bound. bound_value bound.m bound.e ≤ limit (data_of script.set)) bounds
accepted_within script inputs bounds canonical same = λ i d below.
    let values = accepted_values script inputs bounds canonical same in
    let count = length-numbers bounds in
    let long = ap length values in
    let not_above = none_above (nat_lt (limit (data_of script.set))) (rounded_bounds script (numbers inputs)) i
    (accepted script (rounded_bounds script (numbers inputs)) bounds same).none (omega arith) in
    subst (λ x. x ≤ limit (data_of script.set))
    (ap (λ list. get_or list i 0) (sym values) ∙ get_or-map_within (λ (bound : Bound). bound_value bound.m bound.e) bounds i d 0 below)
    (ltb-false (limit (data_of script.set)) (get_or (rounded_bounds script (numbers inputs)) i 0) not_above)

-- no rounded bound of an accepted script is above the limit, and no exact one above the rounded one
pub accepted_quiet : (script : Script) (inputs : List ℕ) (bounds : List Bound) → verdict_of script inputs ≡ Accepted bounds →
    (register : ℕ) → 4 * get_or (exact_bounds script inputs) register 0 ≤ product (data_of script.set)
accepted_quiet script inputs bounds same register =
    let rounded = rounded_bounds script inputs in
    let within : get_or rounded register 0 ≤ limit (data_of script.set) = ⊎_elim
    (λ (below : register < length rounded). ltb-false (limit (data_of script.set)) (get_or rounded register 0)
    (none_above (nat_lt (limit (data_of script.set))) rounded register (accepted script rounded bounds same).none below))
    (λ (past : length rounded ≤ register). let nothing = get_or_past rounded register 0 past in omega arith)
    (cases_lt register (length rounded)) in
    let exact = exact-le-rounded script inputs register in
    let quarter = limit_le (data_of script.set) in
    omega arith

-- ---- scripts that are too noisy
bound_down : (x : ℕ) → IsBound (down x)
bound_down x = by (bit_length x - 32) (bit_length-leads x (bit_length x - 32) refl)
  where
    of : (m e : ℕ) → IsDown x m e → IsBound (down x)
    of m e is = record { bound = record { m = m; e = e }; canonical = is.canonical; value = down_value x m e is }

    by : (s : ℕ) → Leads x s → IsBound (down x)
    by s leads = of _ _ (down_of_mantissa x s (x / 2 ^ s) (floor_of x s leads.fills) (div-lt_leads x s leads))

bound_limit : (set : SetName) → IsBound (limit (data_of set))
unfolding limit
bound_limit One16 = bound_down _
bound_limit Toy16 = bound_down _
bound_limit S4096 = bound_down _
bound_limit S8192 = bound_down _
bound_limit S16384 = bound_down _

canonical_bound_of : (x : ℕ) → IsBound x → IsCanonical (bound_of x).m (bound_of x).e
canonical_bound_of x is =
    subst (λ (bound : Bound). IsCanonical bound.m bound.e) (sym (bound_of-value is.bound is.canonical) ∙ ap bound_of is.value) is.canonical

value_bound_of : (x : ℕ) → IsBound x → bound_value (bound_of x).m (bound_of x).e ≡ x
value_bound_of x is =
    ap (λ (bound : Bound). bound_value bound.m bound.e) (ap bound_of (sym is.value) ∙ bound_of-value is.bound is.canonical) ∙ is.value

record IsTooNoisy (script : Script) (values : List ℕ) (bound most : Bound) : Type 0 where
  register : ℕ
  found : first_above script values ≡ Some register
  bound_is : bound_of (get_or values register 0) ≡ bound
  most_is : bound_of (limit (data_of script.set)) ≡ most

too_noisy : (script : Script) (values : List ℕ) (line : ℕ) (bound most : Bound) → verdict_at script values (first_above script values) ≡ TooNoisy line bound most → IsTooNoisy script values bound most
too_noisy script values line bound most same = by (first_above script values) refl same
  where
    by : (found : Option ℕ) → first_above script values ≡ found → verdict_at script values found ≡ TooNoisy line bound most → IsTooNoisy script values bound most
    by None is same = absurd (cc)
    by (Some register) is same = record { register = register; found = is; bound_is = cc; most_is = cc }

pub too_noisy_above : (script : Script) (inputs : List Bound) (line : ℕ) (bound most : Bound) → AllCanonical inputs →
    verdict_of script (numbers inputs) ≡ TooNoisy line bound most → limit (data_of script.set) < bound_value bound.m bound.e
too_noisy_above script inputs line bound most canonical same =
    let is = too_noisy script (rounded_bounds script (numbers inputs)) line bound most same in
    let are = rounded_are_bounds script inputs canonical in
    let place = position-Some (nat_lt (limit (data_of script.set))) (rounded_bounds script (numbers inputs)) is.register 0 is.found in
    let made = subst (λ list. IsBound (get_or list is.register 0)) are.numbers_are (bound_at are.bounds is.register are.canonical) in
    subst (λ x. limit (data_of script.set) < x)
    (sym (value_bound_of _ made) ∙ ap (λ (bound : Bound). bound_value bound.m bound.e) is.bound_is)
    (ltb-true (limit (data_of script.set)) (get_or (rounded_bounds script (numbers inputs)) is.register 0) place.1)

pub too_noisy_canonical : (script : Script) (inputs : List Bound) (line : ℕ) (bound most : Bound) → AllCanonical inputs →
    verdict_of script (numbers inputs) ≡ TooNoisy line bound most → IsCanonical bound.m bound.e
too_noisy_canonical script inputs line bound most canonical same =
    let is = too_noisy script (rounded_bounds script (numbers inputs)) line bound most same in
    let are = rounded_are_bounds script inputs canonical in
    let made = subst (λ list. IsBound (get_or list is.register 0)) are.numbers_are (bound_at are.bounds is.register are.canonical) in
    subst (λ (bound : Bound). IsCanonical bound.m bound.e) is.bound_is (canonical_bound_of _ made)

pub too_noisy_exactly : (script : Script) (inputs : List ℕ) (line : ℕ) (bound most : Bound) → length script.steps ≤ max_steps →
    verdict_of script inputs ≡ TooNoisy line bound most → (register : ℕ) × (product (data_of script.set) < 8 * get_or (exact_bounds script inputs) register 0)
too_noisy_exactly script inputs line bound most few same =
    let is = too_noisy script (rounded_bounds script inputs) line bound most same in
    let place = position-Some (nat_lt (limit (data_of script.set))) (rounded_bounds script inputs) is.register 0 is.found in
    (is.register, above_limit-exact script inputs is.register few (ltb-true (limit (data_of script.set)) (get_or (rounded_bounds script inputs) is.register 0) place.1))

pub limit_canonical : (script : Script) (inputs : List ℕ) (line : ℕ) (bound most : Bound) →
    verdict_of script inputs ≡ TooNoisy line bound most → IsCanonical most.m most.e
limit_canonical script inputs line bound most same =
    subst (λ (bound : Bound). IsCanonical bound.m bound.e) (too_noisy script (rounded_bounds script inputs) line bound most same).most_is
    (canonical_bound_of _ (bound_limit script.set))

pub limit_value : (script : Script) (inputs : List ℕ) (line : ℕ) (bound most : Bound) →
    verdict_of script inputs ≡ TooNoisy line bound most → bound_value most.m most.e ≡ limit (data_of script.set)
limit_value script inputs line bound most same =
    ap (λ (bound : Bound). bound_value bound.m bound.e) (sym (too_noisy script (rounded_bounds script inputs) line bound most same).most_is)
    ∙ value_bound_of _ (bound_limit script.set)
