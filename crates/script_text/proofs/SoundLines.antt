-- Each line without fault keeps what holds of scripts.
use Rattle.std.proofs.Common.{◌≡◌, ◌≢◌, ◌<◌, ◌≤◌, ◌==◌, ◌/◌, ℕ, ◌+◌, List, [], ◌∷◌, ◌++◌, length, map, replicate, get_or, nat_le, nat_lt, true, cond, ◌&&◌, Option, Some, None, Ok, refl, sym, ap, ◌∙◌, subst, arith, append_assoc, length-append}
use Rattle.std.specs.Prelude.{is_none, IfSome, IsTrue, All}
use Rattle.std.specs.List.{AllPairs}
use Rattle.std.specs.Str.{bytes_eq}
use Rattle.std.proofs.lemmas.Bool.{and_parts}
use Rattle.std.proofs.lemmas.Bool.Decides.{nat_tests}
use Rattle.std.proofs.lemmas.List.{append-nil, map-append, length-map}
use Rattle.std.proofs.lemmas.List.Elements.{All-push}
use Rattle.std.proofs.lemmas.List.Quantifiers.{all_pairs_push, position-Some}
use Rattle.set_table.specs.declared.SetName.{SetName}
use Rattle.set_table.specs.Sets.{degree_of, plain_of}
use Rattle.script_text.specs.declared.keyword.Keyword.{Keyword}
use Rattle.script_text.specs.declared.keyword.Second.{Second}
use Rattle.script_text.specs.declared.keyword.Second.TheVariants.{Nothing, Register, Plain, Factor, Distance}
use Rattle.script_text.specs.declared.script.Input.{Input}
use Rattle.script_text.specs.declared.script.Step.{Step}
use Rattle.line_text.specs.Names.{written_number, is_name, is_number, is_number_in}
use Rattle.script_text.specs.Keywords.{second_of, operation}
use Rattle.script_text.specs.declared.script.Shape.{Shape}
use Rattle.script_text.specs.Scripts.{cipher_inputs, plain_inputs, names_of, shapes_of, shape_made, registers, AllFit, Fits, input_shape, has_shape}
use Rattle.script_text.specs.Grammar.{Draft, is_new, register_named, plain_named, is_second, second_value, takes_one, with_step, short_step, long_step, is_input_line, is_step_line}
use Rattle.script_text.proofs.Inversion.{demand_ok, demand_some_ok}
use Rattle.script_text.proofs.Registers.{length-shapes_of}
use Rattle.script_text.proofs.Fitting.{SecondFits, operation_fits}
use Rattle.script_text.proofs.NewNames.{new_name}

-- what holds of a draft
pub record DraftSound (draft : Draft) : Type 0 where
  pub names : All (λ name. IsTrue (is_name name)) (names_of draft.inputs draft.steps)
  pub distinct : AllPairs (λ name later. name ≢ later) (names_of draft.inputs draft.steps)
  pub fit : AllFit draft.set (length (plain_inputs draft.inputs)) (replicate (length (cipher_inputs draft.inputs)) input_shape) draft.steps
  pub output : IfSome draft.output (λ output. output < length (cipher_inputs draft.inputs) + length draft.steps)

-- what a line leaves: a sound draft with at most one more input, at a line that counts as one, and likewise for steps
pub record Kept (draft next : Draft) (words : List (List ℕ)) : Type 0 where
  pub sound : DraftSound next
  pub inputs : length next.inputs ≤ length draft.inputs + cond (is_input_line words) 1 0
  pub steps : length next.steps ≤ length draft.steps + cond (is_step_line words) 1 0

AllFit-push : (set : SetName) (plains : ℕ) (shapes : List Shape) (steps : List Step) (step : Step) → AllFit set plains shapes steps → Fits set plains (registers shape_made shapes steps) step.op
    → AllFit set plains shapes (steps ++ step ∷ [])
AllFit-push set plains shapes [] step all fits = (fits, tt)
AllFit-push set plains shapes (first ∷ steps) step all fits = (all.0, AllFit-push set plains (shapes ++ shape_made shapes first.op ∷ []) steps step all.1 fits)

pub none_some : {A : Type 0} (o : Option A) (P : A → Type 0) → is_none o ≡ true → IfSome o P
none_some None P none = tt
none_some (Some x) P none = absurd cc

pub empty_list : {A : Type 0} (xs : List A) → (length xs == 0) ≡ true → xs ≡ []
empty_list [] none = refl
empty_list (x ∷ xs) none = absurd (grind (arith, nat_tests))

-- a further name
names_input : (inputs : List Input) (input : Input) → names_of (inputs ++ input ∷ []) [] ≡ names_of inputs [] ++ input.name ∷ []
names_input inputs input =
    append-nil (map (λ (i : Input). i.name) (inputs ++ input ∷ [])) ∙ map-append (λ (i : Input). i.name) inputs (input ∷ [])
    ∙ ap (λ (names : List (List ℕ)). names ++ input.name ∷ []) (sym (append-nil (map (λ (i : Input). i.name) inputs)))

names_step : (inputs : List Input) (steps : List Step) (step : Step) → names_of inputs (steps ++ step ∷ []) ≡ names_of inputs steps ++ step.name ∷ []
names_step inputs steps step =
    ap (λ (names : List (List ℕ)). map (λ (i : Input). i.name) inputs ++ names) (map-append (λ (s : Step). s.name) steps (step ∷ []))
    ∙ sym (append_assoc (map (λ (i : Input). i.name) inputs) (map (λ (s : Step). s.name) steps) (step.name ∷ []))

all_names : (names all : List (List ℕ)) (name : List ℕ) → all ≡ names ++ name ∷ [] → All (λ name. IsTrue (is_name name)) names → is_name name ≡ true → All (λ name. IsTrue (is_name name)) all
all_names names all name are before is = subst (All (λ name. IsTrue (is_name name))) (sym are) (All-push (λ name. IsTrue (is_name name)) names name before is)

all_distinct : (names all : List (List ℕ)) (name : List ℕ) → all ≡ names ++ name ∷ [] → AllPairs (λ name later. name ≢ later) names
    → ((k : ℕ) (d : List ℕ) → k < length names → get_or names k d ≢ name) → AllPairs (λ name later. name ≢ later) all
all_distinct names all name are before new = subst (AllPairs (λ name later. name ≢ later)) (sym are) (all_pairs_push (λ name later. name ≢ later) names name before new)

pub input_sound : (draft : Draft) (input : Input) → draft.steps ≡ [] → is_none draft.output ≡ true → DraftSound draft → is_name input.name ≡ true → is_new draft input.name ≡ true
    → DraftSound (record draft { inputs = draft.inputs ++ input ∷ [] })
input_sound draft input no_steps no_output sound is new = record {
  names = all_names (names_of draft.inputs draft.steps) _ input.name named sound.names is;
  distinct = all_distinct (names_of draft.inputs draft.steps) _ input.name named sound.distinct (new_name draft input.name new);
  fit = subst (AllFit draft.set (length (plain_inputs (draft.inputs ++ input ∷ []))) (replicate (length (cipher_inputs (draft.inputs ++ input ∷ []))) input_shape)) (sym no_steps) tt;
  output = none_some draft.output _ no_output;
}
  where
    named : names_of (draft.inputs ++ input ∷ []) draft.steps ≡ names_of draft.inputs draft.steps ++ input.name ∷ []
    named = rw no_steps (names_input draft.inputs input)

pub step_sound : (draft : Draft) (step : Step) → is_none draft.output ≡ true → DraftSound draft → is_name step.name ≡ true → is_new draft step.name ≡ true
    → Fits draft.set (length (plain_inputs draft.inputs)) (shapes_of draft.inputs draft.steps) step.op
    → DraftSound (record draft { steps = draft.steps ++ step ∷ [] })
step_sound draft step no_output sound is new fits = record {
  names = all_names (names_of draft.inputs draft.steps) _ step.name (names_step draft.inputs draft.steps step) sound.names is;
  distinct = all_distinct (names_of draft.inputs draft.steps) _ step.name (names_step draft.inputs draft.steps step) sound.distinct (new_name draft step.name new);
  fit = AllFit-push draft.set (length (plain_inputs draft.inputs)) (replicate (length (cipher_inputs draft.inputs)) input_shape) draft.steps step sound.fit fits;
  output = none_some draft.output _ no_output;
}

-- a register that was found
pub register_below : (draft : Draft) (word : List ℕ) (register : ℕ) → register_named draft word ≡ Some register → register < length (cipher_inputs draft.inputs) + length draft.steps
unfolding register_named
register_below draft word register found =
    let inside = (position-Some (λ other. bytes_eq other word) (names_of (cipher_inputs draft.inputs) draft.steps) register [] found).0 in
    let both = length-append (map (λ (i : Input). i.name) (cipher_inputs draft.inputs)) (map (λ (s : Step). s.name) draft.steps) in
    let ciphers = length-map (cipher_inputs draft.inputs) (λ (i : Input). i.name) in
    let steps = length-map draft.steps (λ (s : Step). s.name) in
    omega arith

register_fits : (draft : Draft) (word : List ℕ) (register : ℕ) → register_named draft word ≡ Some register → register < length (shapes_of draft.inputs draft.steps)
register_fits draft word register found =
    let below = register_below draft word register found in
    let shapes = length-shapes_of draft.inputs draft.steps in
    omega arith

plain_fits : (draft : Draft) (word : List ℕ) (p : ℕ) → plain_named draft word ≡ Some p → p < length (plain_inputs draft.inputs)
unfolding plain_named
plain_fits draft word p found =
    let inside = (position-Some (λ other. bytes_eq other word) (map (λ (i : Input). i.name) (plain_inputs draft.inputs)) p [] found).0 in
    let plains = length-map (plain_inputs draft.inputs) (λ (i : Input). i.name) in
    omega arith

number_within : (low end : ℕ) (word : List ℕ) (number : ℕ) → is_number_in low end word ≡ true → Some (written_number word) ≡ Some number → (low ≤ number) × (number < end)
number_within low end word number is same =
    let both = and_parts (is_number word && nat_le low (written_number word)) (nat_lt (written_number word) end) is in
    let first = (and_parts (is_number word) (nat_le low (written_number word)) both.0).1 in
    let equal : written_number word ≡ number = cc in
    (grind (arith, nat_tests), grind (arith, nat_tests))

second_fits : (draft : Draft) (second : Second) (word : List ℕ) (b : ℕ) → is_second draft.set second word ≡ true → second_value draft second word ≡ Some b
    → SecondFits draft.set (length (plain_inputs draft.inputs)) (shapes_of draft.inputs draft.steps) second b
unfolding is_second second_value
second_fits draft Nothing word b is found = tt
second_fits draft Register word b is found = register_fits draft word b found
second_fits draft Plain word b is found = plain_fits draft word b found
second_fits draft Factor word b is found = (number_within 0 (plain_of draft.set) word b is found).1
second_fits draft Distance word b is found =
    let within = number_within 1 (degree_of draft.set / 2) word b is found in
    (omega (arith, within.0), within.1)

no_second : (set : SetName) (plains : ℕ) (shapes : List Shape) (second : Second) (b : ℕ) → takes_one second ≡ true → SecondFits set plains shapes second b
no_second set plains shapes Nothing b is = tt
no_second set plains shapes Register b is = absurd cc
no_second set plains shapes Plain b is = absurd cc
no_second set plains shapes Factor b is = absurd cc
no_second set plains shapes Distance b is = absurd cc

-- what a step's line leaves
pub record StepKept (draft next : Draft) : Type 0 where
  pub sound : DraftSound next
  pub inputs : next.inputs ≡ draft.inputs
  pub steps : length next.steps ≡ length draft.steps + 1

with_step_kept : (draft : Draft) (at : ℕ) (name : List ℕ) (k : Keyword) (a b : ℕ) (next : Draft) → is_none draft.output ≡ true → DraftSound draft → is_name name ≡ true → is_new draft name ≡ true
    → a < length (shapes_of draft.inputs draft.steps) → SecondFits draft.set (length (plain_inputs draft.inputs)) (shapes_of draft.inputs draft.steps) (second_of k) b
    → with_step draft at name (operation k a b) ≡ Ok next → StepKept draft next
unfolding with_step
with_step_kept draft at name k a b next no_output sound is new first second given =
    let step : Step = record { name = name; op = operation k a b; line = at } in
    let shape = demand_ok (has_shape (shapes_of draft.inputs draft.steps) (operation k a b)) _ (Ok (record draft { steps = draft.steps ++ step ∷ [] })) next given in
    let same : record draft { steps = draft.steps ++ step ∷ [] } ≡ next = cc in
    let fits = operation_fits draft.set (length (plain_inputs draft.inputs)) (shapes_of draft.inputs draft.steps) k a b first second shape.0 in
    subst (StepKept draft) same (record {
      sound = step_sound draft step no_output sound is new fits;
      inputs = refl;
      steps = length-append draft.steps (step ∷ []);
    })

pub short_step_kept : (draft : Draft) (at : ℕ) (name : List ℕ) (k : Keyword) (a : List ℕ) (next : Draft) → is_none draft.output ≡ true → DraftSound draft
    → short_step draft at name k a ≡ Ok next → StepKept draft next
unfolding short_step
short_step_kept draft at name k a next no_output sound given =
    let form = demand_ok _ _ _ _ given in
    let words = and_parts (is_name name && is_name a) (takes_one (second_of k)) form.0 in
    let named = and_parts (is_name name) (is_name a) words.0 in
    let new = demand_ok _ _ _ _ form.1 in
    let first = demand_some_ok _ _ _ _ new.1 in
    with_step_kept draft at name k first.0 0 next no_output sound named.0 new.0 (register_fits draft a first.0 first.1)
    (no_second draft.set (length (plain_inputs draft.inputs)) (shapes_of draft.inputs draft.steps) (second_of k) 0 words.1) first.2

pub long_step_kept : (draft : Draft) (at : ℕ) (name : List ℕ) (k : Keyword) (a b : List ℕ) (next : Draft) → is_none draft.output ≡ true → DraftSound draft
    → long_step draft at name k a b ≡ Ok next → StepKept draft next
unfolding long_step
long_step_kept draft at name k a b next no_output sound given =
    let form = demand_ok _ _ _ _ given in
    let words = and_parts (is_name name && is_name a) (is_second draft.set (second_of k) b) form.0 in
    let named = and_parts (is_name name) (is_name a) words.0 in
    let new = demand_ok _ _ _ _ form.1 in
    let first = demand_some_ok _ _ _ _ new.1 in
    let second = demand_some_ok _ _ _ _ first.2 in
    with_step_kept draft at name k first.0 second.0 next no_output sound named.0 new.0 (register_fits draft a first.0 first.1)
    (second_fits draft (second_of k) b second.0 words.1 second.1) second.2
