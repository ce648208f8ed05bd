-- Which steps need switching keys.
use Rattle.std.proofs.Common.{arith, ◌≡◌, ℕ, suc, ◌<◌, Bool, true, false, cond, nat_lt, position, refl, sym, ap, subst, ◌∙◌, List, [], ◌∷◌, ◌++◌, length, get_or, Some, None}
use Rattle.std.specs.Prelude.{IfSome, slice_get}
use Rattle.std.specs.List.{flat_map}
use Rattle.std.proofs.lemmas.Bool.{lt-ltb, le-ltb}
use Rattle.std.proofs.lemmas.List.{nil_from_length}
use Rattle.std.proofs.lemmas.List.Concat.{flat_map-cons}
use Rattle.std.proofs.lemmas.List.Folds.{length-flat_map-take}
use Rattle.std.proofs.lemmas.List.Sums.{position_or_len_is}
use Rattle.std.proofs.lemmas.Option.{get_or_from_slice_get}
use Rattle.set_table.specs.declared.KeyKind.{KeyKind}
use Rattle.set_table.specs.Sets.{degree_of}
use Rattle.script_text.specs.declared.script.Op.{Op}
use Rattle.script_text.specs.declared.script.Op.TheVariants.{Neg}
use Rattle.script_text.specs.declared.script.Step.{Step}
use Rattle.script_text.specs.Scripts.{Script, keys_needed, needs_of}
use Rattle.script_run.proofs.Live.{step_found}

-- the keys of a step that is read are those of its operation
pub step_needs : (n : ℕ) (steps : List Step) (i : ℕ) (op : Op) (step : Step) → slice_get steps i ≡ Some step → op ≡ step.op
    → (d : Step) → keys_needed n (get_or steps i d).op ≡ keys_needed n op
step_needs n steps i op step is same d =
    ap (λ (x : Step). keys_needed n x.op) (get_or_from_slice_get steps i step d is) ∙ ap (keys_needed n) (sym same)

-- where a script needs no key none of its operations does
pub keyless_at : (script : Script) (i : ℕ) (op : Op) (step : Step) → needs_of script ≡ [] → i < length script.steps → slice_get script.steps i ≡ Some step → op ≡ step.op
    → keys_needed (degree_of script.set) op ≡ []
keyless_at script i op step none below is same =
    let needs : Step → List (KeyKind × ℕ) = λ (x : Step). keys_needed (degree_of script.set) x.op in
    let few = length-flat_map-take needs script.steps i step below in
    let nothing = ap length none in
    sym (step_needs (degree_of script.set) script.steps i op step is same step) ∙ nil_from_length (needs (get_or script.steps i step)) (omega arith)

-- ---- the first step that needs a key
abbrev pub asks : ℕ → Op → Bool
asks n op = nat_lt 0 (length (keys_needed n op))

abbrev pub no_step : Step
no_step = record { name = []; op = Neg 0; line = 0 }

-- a step that an accessor reads
pub asks_read : (n : ℕ) (steps : List Step) (i : ℕ) (op : Op) (test : Bool) → i < length steps → IfSome (slice_get steps i) (λ step. op ≡ step.op) → test ≡ asks n op
    → asks n (get_or steps i no_step).op ≡ test
asks_read n steps i op test below is same =
    let found = step_found steps i op below is in
    ap (λ (keys : List (KeyKind × ℕ)). nat_lt 0 (length keys)) (step_needs n steps i op found.0 found.1 found.2 no_step) ∙ sym same

pub first_is : (n : ℕ) (steps : List Step) (i : ℕ) → i < length steps → ((k : ℕ) → k < i → asks n (get_or steps k no_step).op ≡ false) → asks n (get_or steps i no_step).op ≡ true
    → Some i ≡ position (λ step. asks n step.op) steps
first_is n steps i below before here =
    subst (λ m. Some i ≡ cond (nat_lt m (length steps)) (Some m) None)
    (sym (position_or_len_is (λ step. asks n step.op) steps i no_step (omega arith) before (λ _. here)))
    (ap (λ test. cond test (Some i) None) (sym (lt-ltb i (length steps) below)))

pub none_is : (n : ℕ) (steps : List Step) → ((k : ℕ) → k < length steps → asks n (get_or steps k no_step).op ≡ false) → None ≡ position (λ step. asks n step.op) steps
none_is n steps all =
    subst (λ m. None ≡ cond (nat_lt m (length steps)) (Some m) None)
    (sym (position_or_len_is (λ step. asks n step.op) steps (length steps) no_step (omega arith) all (λ below. absurd (omega arith))))
    (ap (λ test. cond test (Some (length steps)) None) (sym (le-ltb (length steps) (length steps) (omega arith))))

nothing : {A : Type 0} (xs : List A) → nat_lt 0 (length xs) ≡ false → xs ≡ []
nothing [] none = refl
nothing (x ∷ xs) none = let some = lt-ltb 0 (length (x ∷ xs)) (omega arith) in absurd cc

pub none_needed : (n : ℕ) (steps : List Step) → ((k : ℕ) → k < length steps → asks n (get_or steps k no_step).op ≡ false) → flat_map (λ step. keys_needed n step.op) steps ≡ []
none_needed n [] all = refl
none_needed n (step ∷ steps) all =
    let needs : Step → List (KeyKind × ℕ) = λ (x : Step). keys_needed n x.op in
    flat_map-cons needs step steps
    ∙ ap (λ (keys : List (KeyKind × ℕ)). keys ++ flat_map needs steps) (nothing (keys_needed n step.op) (all 0 (omega arith)))
    ∙ none_needed n steps (λ k below. all (suc k) (omega (arith, below)))
