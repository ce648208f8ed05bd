-- One more register's bound.
use Rattle.std.proofs.Common.{◌≡◌, ℕ, ◌+◌, ◌*◌, ◌<◌, ◌≤◌, sym, ap, ◌∙◌, subst, arith, List, [], ◌∷◌, ◌++◌, length, get_or, take, All, length-append}
use Rattle.std.proofs.lemmas.List.Sums.{fold_more}
use Rattle.std.proofs.lemmas.List.{take_all}
use Rattle.std.proofs.lemmas.List.Elements.{All-push}
use Rattle.set_table.specs.declared.SetName.{SetName}
use Rattle.set_table.specs.Sets.{degree_of, special_of}
use Rattle.std.specs.Prelude.{IsSome}
use Rattle.bound_num.specs.declared.Bound.{Bound}
use Rattle.bound_num.specs.Bound.{bound_value, IsCanonical}
use Rattle.script_text.specs.declared.script.Op.{Op}
use Rattle.script_text.specs.declared.script.Step.{Step}
use Rattle.script_text.specs.Scripts.{Script, registers, keys_needed, needs_of}
use Rattle.noise_check.specs.Numbers.{numbers, AllCanonical}
use Rattle.noise_check.specs.Operands.{HasOperands}
use Rattle.noise_check.specs.RoundedBounds.{rounded_bound, rounded_bounds}
use Rattle.noise_check.proofs.BoundLists.{numbers_push}
use Rattle.noise_check.proofs.Scripts.{no_step, step_needs}

-- the set, the number of registers and the operation as the code has them
pub same_operands : (set s : SetName) (count n : ℕ) (op o : Op) → set ≡ s → count ≡ n → op ≡ o → HasOperands s n o → HasOperands set count op
same_operands set s count n op o set_is count_is op_is has =
    subst (λ s. HasOperands s count op) (sym set_is) (subst (λ n. HasOperands s n op) (sym count_is) (subst (λ o. HasOperands s n o) (sym op_is) has))

pub step_special : (script : Script) (set : SetName) (i : ℕ) (op : Op) → i < length script.steps → set ≡ script.set → op ≡ (get_or script.steps i no_step).op →
    (0 < length (needs_of script) → IsSome (special_of script.set)) → 0 < length (keys_needed (degree_of set) op) → IsSome (special_of set)
step_special script set i op within set_is op_is special needed =
    subst (λ s. IsSome (special_of s)) (sym set_is) (special (by (length (keys_needed (degree_of set) op)) _ _ same needed (step_needs script i within)))
  where
    same : length (keys_needed (degree_of set) op) ≡ length (keys_needed (degree_of script.set) (get_or script.steps i no_step).op)
    same = ap (λ s. length (keys_needed (degree_of s) op)) set_is ∙ ap (λ o. length (keys_needed (degree_of script.set) o)) op_is

    by : (own step all : ℕ) → own ≡ step → 0 < own → step ≤ all → 0 < all
    by own step all is some most = omega arith

pub values_push : (set s : SetName) (steps : List Step) (i : ℕ) (op : Op) (before given after : List Bound) (bound : Bound) (inputs : List ℕ) → i < length steps →
    set ≡ s → op ≡ (get_or steps i no_step).op → given ≡ before → after ≡ before ++ bound ∷ [] →
    bound_value bound.m bound.e ≡ rounded_bound set (numbers given) op →
    numbers before ≡ registers (rounded_bound s) inputs (take i steps) → numbers after ≡ registers (rounded_bound s) inputs (take (i + 1) steps)
values_push set s steps i op before given after bound inputs within set_is op_is given_is after_is value values =
    ap numbers after_is ∙ numbers_push before bound
    ∙ ap (λ x. numbers before ++ x ∷ []) (value ∙ ap (λ s. rounded_bound s (numbers given) op) set_is ∙ ap (λ o. rounded_bound s (numbers given) o) op_is ∙ ap (λ list. rounded_bound s (numbers list) (get_or steps i no_step).op) given_is)
    ∙ ap (λ list. list ++ rounded_bound s list (get_or steps i no_step).op ∷ []) values
    ∙ sym (fold_more (λ so_far (step : Step). so_far ++ rounded_bound s so_far step.op ∷ []) inputs steps i no_step within)

pub all_values : (script : Script) (inputs bounds : List ℕ) (i : ℕ) → length script.steps ≤ i → bounds ≡ registers (rounded_bound script.set) inputs (take i script.steps) →
    bounds ≡ rounded_bounds script inputs
unfolding rounded_bounds
all_values script inputs bounds i past is = is ∙ ap (registers (rounded_bound script.set) inputs) (take_all i script.steps past)

pub exponents_push : (before given after : List Bound) (bound : Bound) (i : ℕ) → given ≡ before → after ≡ before ++ bound ∷ [] →
    All (λ bound. bound.e ≤ 500000 + 66 * i) before →
    ((most : ℕ) → All (λ bound. bound.e ≤ most) given → bound.e ≤ most + 66) →
    All (λ bound. bound.e ≤ 500000 + 66 * (i + 1)) after
exponents_push before given after bound i given_is after_is small grows =
    let last = grows (500000 + 66 * i) (subst (All (λ bound. bound.e ≤ 500000 + 66 * i)) (sym given_is) small) in
    subst (All (λ bound. bound.e ≤ 500000 + 66 * (i + 1))) (sym after_is)
    (All-push (λ bound. bound.e ≤ 500000 + 66 * (i + 1)) before bound (λ k d below. let own = small k d below in omega arith) (omega arith))

pub canonical_push : (before after : List Bound) (bound : Bound) → after ≡ before ++ bound ∷ [] → AllCanonical before →
    IsCanonical bound.m bound.e → AllCanonical after
canonical_push before after bound after_is all last =
    subst AllCanonical (sym after_is) (All-push (λ bound. IsCanonical bound.m bound.e) before bound all last)

pub length_push : (before after : List Bound) (bound : Bound) (n i : ℕ) → after ≡ before ++ bound ∷ [] → length before ≡ n + i → length after ≡ n + (i + 1)
length_push before after bound n i after_is count =
    let longer = length-append before (bound ∷ []) in
    let same = ap length after_is in
    omega arith
