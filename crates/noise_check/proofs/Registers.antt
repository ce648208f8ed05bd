-- The exact and the rounded bounds of a script's registers side by side.
use Rattle.std.proofs.Common.{◌≡◌, ℕ, suc, ◌+◌, ◌*◌, ◌<◌, ◌≤◌, ◌⊎◌, inl, inr, refl, sym, ap, ◌∙◌, subst, arith, List, [], ◌∷◌, ◌++◌, length, slice_index, length-append}
use Rattle.std.proofs.lemmas.Bool.{cases_lt, cases_eq}
use Rattle.std.proofs.lemmas.List.{get_or_push, get_or_append_left, get_or_past}
use Rattle.set_table.specs.declared.SetName.{SetName}
use Rattle.set_table.specs.Sets.{plain_of, data_of}
use Rattle.script_text.specs.Limits.{max_steps}
use Rattle.script_text.specs.declared.script.Op.{Op}
use Rattle.script_text.specs.declared.script.Op.TheVariants.{Add, Sub, Neg, AddPlain, SubPlain, MulPlain, MulConst, Mul, Relin, Turn, Swap}
use Rattle.script_text.specs.declared.script.Step.{Step}
use Rattle.script_text.specs.Scripts.{Script, registers}
use Rattle.ring_law.specs.Moduli.{product}
use Rattle.bfv_model.specs.Limit.{limit}
use Rattle.noise_check.specs.ExactBounds.{constant_size, switch_noise, exact_bound, exact_bounds}
use Rattle.noise_check.specs.RoundedBounds.{rounded_bound, rounded_bounds}
use Rattle.noise_check.proofs.Ratios.{Near, near_exact, near_kept, near_added, near_raised, near_scaled, near_switched, near_product, near_within, near_least}
use Rattle.noise_check.proofs.Limits.{product-lt_above}

-- each register's rounded bound is near its exact one
pub record AllNear (count : ℕ) (exact rounded : List ℕ) : Type 0 where
  pub lengths : length exact ≡ length rounded
  pub near : (i : ℕ) → Near count (slice_index exact i) (slice_index rounded i)

near_result : (count : ℕ) (set : SetName) (exact rounded : List ℕ) (op : Op) → AllNear count exact rounded →
    Near (suc (suc (suc count))) (exact_bound set exact op) (rounded_bound set rounded op)
near_result count set exact rounded (Add a b) all = near_added count _ _ _ _ (all.near a) (all.near b)
near_result count set exact rounded (Sub a b) all = near_added count _ _ _ _ (all.near a) (all.near b)
near_result count set exact rounded (Neg a) all = near_kept count _ _ (all.near a)
near_result count set exact rounded (AddPlain a p) all = near_raised count _ _ (plain_of set) (all.near a)
near_result count set exact rounded (SubPlain a p) all = near_raised count _ _ (plain_of set) (all.near a)
near_result count set exact rounded (MulPlain a p) all = near_scaled count _ _ _ (all.near a)
near_result count set exact rounded (MulConst a k) all = near_scaled count _ _ (constant_size set k) (all.near a)
near_result count set exact rounded (Mul a b) all = near_product count _ _ _ _ _ _ (all.near a) (all.near b)
near_result count set exact rounded (Relin a) all = near_switched count _ _ (switch_noise set) (all.near a)
near_result count set exact rounded (Turn a k) all = near_switched count _ _ (switch_noise set) (all.near a)
near_result count set exact rounded (Swap a) all = near_switched count _ _ (switch_noise set) (all.near a)

near_push : (count : ℕ) (exact rounded : List ℕ) (b r : ℕ) → AllNear count exact rounded → Near (suc (suc (suc count))) b r →
    AllNear (suc (suc (suc count))) (exact ++ b ∷ []) (rounded ++ r ∷ [])
near_push count exact rounded b r all last = record {
  lengths = length-append exact (b ∷ []) ∙ ap (λ n. n + 1) all.lengths ∙ sym (length-append rounded (r ∷ []));
  near = λ i. by i (cases_lt i (length exact)) (cases_eq i (length exact));
}
  where
    moved : (x b y r : ℕ) → x ≡ b → y ≡ r → Near (suc (suc (suc count))) b r → Near (suc (suc (suc count))) x y
    moved x b y r left right is = subst (λ x. Near (suc (suc (suc count))) x y) (sym left) (subst (λ y. Near (suc (suc (suc count))) b y) (sym right) is)

    by : (i : ℕ) → (i < length exact) ⊎ (length exact ≤ i) → (i ≡ length exact) ⊎ (i ≡ length exact → ⊥) →
        Near (suc (suc (suc count))) (slice_index (exact ++ b ∷ []) i) (slice_index (rounded ++ r ∷ []) i)
    by i (inl before) order =
        let same = all.lengths in
        moved _ _ _ _ (get_or_append_left exact (b ∷ []) 0 i before) (get_or_append_left rounded (r ∷ []) 0 i (omega arith)) (near_kept count _ _ (all.near i))
    by i (inr after) (inl here) = moved _ _ _ _ (get_or_push exact b 0 i (sym here)) (get_or_push rounded r 0 i (sym (here ∙ all.lengths))) last
    by i (inr after) (inr beyond) =
        let same = all.lengths in
        let exact_length = length-append exact (b ∷ []) in
        let rounded_length = length-append rounded (r ∷ []) in
        moved _ _ _ _ (get_or_past (exact ++ b ∷ []) i 0 (omega arith)) (get_or_past (rounded ++ r ∷ []) i 0 (omega arith)) (near_exact (suc (suc (suc count))) 0)

near_steps : (set : SetName) (steps : List Step) (count : ℕ) (exact rounded : List ℕ) → AllNear count exact rounded →
    AllNear (count + 3 * length steps) (registers (exact_bound set) exact steps) (registers (rounded_bound set) rounded steps)
near_steps set [] count exact rounded all = subst (λ count. AllNear count exact rounded) (none count) all
  where
    none : (count : ℕ) → count ≡ count + 3 * 0
    none count = omega arith
near_steps set (step ∷ steps) count exact rounded all =
    subst (λ count. AllNear count (registers (exact_bound set) exact (step ∷ steps)) (registers (rounded_bound set) rounded (step ∷ steps)))
    (next count (length steps))
    (near_steps set steps (suc (suc (suc count))) _ _ (near_push count exact rounded _ _ all (near_result count set exact rounded step.op all)))
  where
    next : (count n : ℕ) → suc (suc (suc count)) + 3 * n ≡ count + 3 * suc n
    next count n = omega arith

near_registers : (script : Script) (inputs : List ℕ) → AllNear (3 * length script.steps) (exact_bounds script inputs) (rounded_bounds script inputs)
unfolding exact_bounds rounded_bounds
near_registers script inputs =
    subst (λ count. AllNear count (registers (exact_bound script.set) inputs script.steps) (registers (rounded_bound script.set) inputs script.steps))
    (none (length script.steps))
    (near_steps script.set script.steps 0 inputs inputs (record { lengths = refl; near = λ i. near_exact 0 (slice_index inputs i) }))
  where
    none : (n : ℕ) → 0 + 3 * n ≡ 3 * n
    none n = omega arith

-- ---- the laws
pub exact-le-rounded : (script : Script) (inputs : List ℕ) (i : ℕ) → slice_index (exact_bounds script inputs) i ≤ slice_index (rounded_bounds script inputs) i
exact-le-rounded script inputs i = near_least (3 * length script.steps) _ _ ((near_registers script inputs).near i)

pub rounded-near_exact : (script : Script) (inputs : List ℕ) (i : ℕ) → length script.steps ≤ max_steps →
    65536 * slice_index (rounded_bounds script inputs) i ≤ 65537 * slice_index (exact_bounds script inputs) i
rounded-near_exact script inputs i few = near_within (3 * length script.steps) _ _ (omega arith) ((near_registers script inputs).near i)

pub above_limit-exact : (script : Script) (inputs : List ℕ) (i : ℕ) → length script.steps ≤ max_steps →
    limit (data_of script.set) < slice_index (rounded_bounds script inputs) i → product (data_of script.set) < 8 * slice_index (exact_bounds script inputs) i
above_limit-exact script inputs i few above = product-lt_above script.set _ _ above (rounded-near_exact script inputs i few)
