-- What lines give doesn't depend on their numbers, but for the numbers that it keeps.
use Rattle.std.proofs.Common.{◌≡◌, ◌==◌, ℕ, ◌+◌, List, [], ◌∷◌, ◌++◌, length, map, replicate, position, Bool, true, false, cond, ◌&&◌, Option, Some, None, Result, Ok, Err, codes, refl, sym, ap, ap₂, ◌∙◌}
use Rattle.std.specs.Prelude.{is_none}
use Rattle.std.specs.List.{filter}
use Rattle.std.specs.Option.{option_map}
use Rattle.std.specs.Str.{bytes_eq}
use Rattle.std.proofs.lemmas.List.{map-append, length-map}
use Rattle.line_text.specs.Lines.{Line}
use Rattle.line_text.specs.Names.{is_name}
use Rattle.script_text.specs.declared.faults.ScriptPlace.{ScriptPlace}
use Rattle.script_text.specs.declared.faults.ScriptPlace.TheVariants.{Syntax, Name, Shape, TooLong}
use Rattle.script_text.specs.declared.keyword.Keyword.{Keyword}
use Rattle.script_text.specs.declared.keyword.Second.{Second}
use Rattle.script_text.specs.declared.keyword.Second.TheVariants as second
use Rattle.script_text.specs.declared.script.InputKind.{InputKind}
use Rattle.script_text.specs.declared.script.InputKind.TheVariants.{Cipher, Plain}
use Rattle.script_text.specs.declared.script.Op.{Op}
use Rattle.script_text.specs.declared.script.Input.{Input}
use Rattle.script_text.specs.declared.script.Step.{Step}
use Rattle.script_text.specs.Keywords.{second_of, operation}
use Rattle.script_text.specs.declared.script.Shape as shape
use Rattle.script_text.specs.Scripts.{is_cipher, is_plain, cipher_inputs, plain_inputs, names_of, shapes_of, shape_made, registers, input_shape, has_shape}
use Rattle.set_table.specs.Sets.{set_named}
use Rattle.script_text.specs.Grammar.{Draft, is_new, register_named, plain_named, set_line, input_line, output_line, takes_one, is_second, second_value, with_step, short_step, long_step, short_line, keyword_after, next_line, after_line, after_lines, demand, demand_some, followed}

-- ---- numbers left out

abbrev pub bare_input : Input → Input
bare_input input = record input { line = 0 }

abbrev pub bare_step : Step → Step
bare_step step = record step { line = 0 }

abbrev pub bare : Draft → Draft
bare draft = record { set = draft.set; inputs = map bare_input draft.inputs; steps = map bare_step draft.steps; output = draft.output }

abbrev pub bare_line : Line → Line
bare_line line = record line { number = 0 }

abbrev pub bare_place : ScriptPlace → ScriptPlace
bare_place (Syntax line) = Syntax 0
bare_place (Name line) = Name 0
bare_place (Shape line) = Shape 0
bare_place TooLong = TooLong

abbrev pub bared : Result Draft ScriptPlace → Result Draft ScriptPlace
bared (Ok draft) = Ok (bare draft)
bared (Err place) = Err (bare_place place)

abbrev pub bared_all : Result (Option Draft) ScriptPlace → Result (Option Draft) ScriptPlace
bared_all (Ok draft) = Ok (option_map bare draft)
bared_all (Err place) = Err (bare_place place)

-- ---- what is demanded

bared_demand : (holds : Bool) (fault : ScriptPlace) (r s : Result Draft ScriptPlace) → bared r ≡ s → bared (demand holds fault r) ≡ demand holds (bare_place fault) s
bared_demand true fault r s same = same
bared_demand false fault r s same = refl

bared_demand_some : {A : Type 0} (o : Option A) (fault : ScriptPlace) (r s : A → Result Draft ScriptPlace) → ((x : A) → bared (r x) ≡ s x) → bared (demand_some o fault r) ≡ demand_some o (bare_place fault) s
bared_demand_some None fault r s same = refl
bared_demand_some (Some x) fault r s same = same x

bared_choice : (b : Bool) (r s x y : Result Draft ScriptPlace) → bared r ≡ x → bared s ≡ y → bared (cond b r s) ≡ cond b x y
bared_choice true r s x y first second = first
bared_choice false r s x y first second = second

-- ---- what a draft tells

names_bare : (inputs : List Input) → map (λ (i : Input). i.name) (map bare_input inputs) ≡ map (λ (i : Input). i.name) inputs
names_bare [] = refl
names_bare (input ∷ inputs) = ap (λ (names : List (List ℕ)). input.name ∷ names) (names_bare inputs)

step_names_bare : (steps : List Step) → map (λ (s : Step). s.name) (map bare_step steps) ≡ map (λ (s : Step). s.name) steps
step_names_bare [] = refl
step_names_bare (step ∷ steps) = ap (λ (names : List (List ℕ)). step.name ∷ names) (step_names_bare steps)

filter_bare : (test : Input → Bool) (inputs : List Input) → ((input : Input) → test (bare_input input) ≡ test input) → filter test (map bare_input inputs) ≡ map bare_input (filter test inputs)
filter_bare test [] same = refl
filter_bare test (input ∷ inputs) same =
    ap (λ (b : Bool). cond b (bare_input input ∷ filter test (map bare_input inputs)) (filter test (map bare_input inputs))) (same input)
    ∙ by (test input) (filter_bare test inputs same)
  where
    by : (b : Bool) → filter test (map bare_input inputs) ≡ map bare_input (filter test inputs)
        → cond b (bare_input input ∷ filter test (map bare_input inputs)) (filter test (map bare_input inputs)) ≡ map bare_input (cond b (input ∷ filter test inputs) (filter test inputs))
    by true more = ap (λ (is : List Input). bare_input input ∷ is) more
    by false more = more

ciphers_bare : (inputs : List Input) → cipher_inputs (map bare_input inputs) ≡ map bare_input (cipher_inputs inputs)
ciphers_bare inputs = filter_bare is_cipher inputs (λ input. refl)

plains_bare : (inputs : List Input) → plain_inputs (map bare_input inputs) ≡ map bare_input (plain_inputs inputs)
plains_bare inputs = filter_bare is_plain inputs (λ input. refl)

registers_bare : (draft : Draft) → names_of (cipher_inputs (map bare_input draft.inputs)) (map bare_step draft.steps) ≡ names_of (cipher_inputs draft.inputs) draft.steps
registers_bare draft =
    ap₂ (λ (a b : List (List ℕ)). a ++ b) (ap (map (λ (i : Input). i.name)) (ciphers_bare draft.inputs) ∙ names_bare (cipher_inputs draft.inputs)) (step_names_bare draft.steps)

register_bare : (draft : Draft) (name : List ℕ) → register_named draft name ≡ register_named (bare draft) name
unfolding register_named
register_bare draft name = sym (ap (position (λ other. bytes_eq other name)) (registers_bare draft))

plain_bare : (draft : Draft) (name : List ℕ) → plain_named draft name ≡ plain_named (bare draft) name
unfolding plain_named
plain_bare draft name = sym (ap (λ (names : List (List ℕ)). position (λ other. bytes_eq other name) names) (ap (map (λ (i : Input). i.name)) (plains_bare draft.inputs) ∙ names_bare (plain_inputs draft.inputs)))

new_bare : (draft : Draft) (name : List ℕ) → is_new draft name ≡ is_new (bare draft) name
unfolding is_new
new_bare draft name = ap₂ (λ (a b : Option ℕ). is_none a && is_none b) (register_bare draft name) (plain_bare draft name)

second_bare : (draft : Draft) (s : Second) (word : List ℕ) → second_value draft s word ≡ second_value (bare draft) s word
unfolding second_value
second_bare draft second.Nothing word = refl
second_bare draft second.Register word = register_bare draft word
second_bare draft second.Plain word = plain_bare draft word
second_bare draft second.Factor word = refl
second_bare draft second.Distance word = refl

shape_made_bare : (shapes : List shape.Shape) (steps : List Step) → registers shape_made shapes steps ≡ registers shape_made shapes (map bare_step steps)
shape_made_bare shapes [] = refl
shape_made_bare shapes (step ∷ steps) = shape_made_bare (shapes ++ shape_made shapes step.op ∷ []) steps

shapes_bare : (draft : Draft) → shapes_of draft.inputs draft.steps ≡ shapes_of (map bare_input draft.inputs) (map bare_step draft.steps)
shapes_bare draft =
    ap (λ (n : ℕ). registers shape_made (replicate n input_shape) draft.steps) (sym (ap length (ciphers_bare draft.inputs) ∙ length-map (cipher_inputs draft.inputs) bare_input))
    ∙ shape_made_bare (replicate (length (cipher_inputs (map bare_input draft.inputs))) input_shape) draft.steps

-- ---- one line

set_bared : (at : ℕ) (words : List (List ℕ)) → bared (set_line at words) ≡ set_line 0 words
unfolding set_line
set_bared at [] = refl
set_bared at (a ∷ []) = refl
set_bared at (keyword ∷ word ∷ []) =
    bared_demand (bytes_eq keyword (codes "set")) (Syntax at) _ _ (bared_demand_some (set_named word) (Syntax at) _ (λ set. Ok (record { set = set; inputs = []; steps = []; output = None })) (λ set. refl))
set_bared at (a ∷ b ∷ c ∷ words) = refl

input_bared : (draft : Draft) (at : ℕ) (kind : InputKind) (name : List ℕ) → bared (input_line draft at kind name) ≡ input_line (bare draft) 0 kind name
unfolding input_line
input_bared draft at kind name =
    let input : Input = record { name = name; kind = kind; line = 0 } in
    let one : Input = record { name = name; kind = kind; line = at } in
    let added : List Input → Result Draft ScriptPlace = λ (inputs : List Input). Ok (record (bare draft) { inputs = inputs }) in
    bared_demand (is_name name && (length draft.steps == 0)) (Syntax at) _ (demand (is_new draft name) (Name 0) (added (map bare_input draft.inputs ++ input ∷ [])))
    (bared_demand (is_new draft name) (Name at) (Ok (record draft { inputs = draft.inputs ++ one ∷ [] })) _ (ap added (map-append bare_input draft.inputs (one ∷ []))))
    ∙ ap (λ (n : ℕ). demand (is_name name && (n == 0)) (Syntax 0) (demand (is_new draft name) (Name 0) (added (map bare_input draft.inputs ++ input ∷ [])))) (sym (length-map draft.steps bare_step))
    ∙ ap (λ (new : Bool). demand (is_name name && (length (map bare_step draft.steps) == 0)) (Syntax 0) (demand new (Name 0) (added (map bare_input draft.inputs ++ input ∷ [])))) (new_bare draft name)

output_bared : (draft : Draft) (at : ℕ) (name : List ℕ) → bared (output_line draft at name) ≡ output_line (bare draft) 0 name
unfolding output_line
output_bared draft at name =
    let ended : ℕ → Result Draft ScriptPlace = λ (output : ℕ). Ok (record (bare draft) { output = Some output }) in
    bared_demand (is_name name) (Syntax at) _ (demand_some (register_named draft name) (Name 0) ended)
    (bared_demand_some (register_named draft name) (Name at) (λ output. Ok (record draft { output = Some output })) ended (λ output. refl))
    ∙ ap (λ (register : Option ℕ). demand (is_name name) (Syntax 0) (demand_some register (Name 0) ended)) (register_bare draft name)

short_bared : (draft : Draft) (at : ℕ) (keyword name : List ℕ) → bared (short_line draft at keyword name) ≡ short_line (bare draft) 0 keyword name
unfolding short_line
short_bared draft at keyword name =
    bared_choice (bytes_eq keyword (codes "cipher")) _ _ _ _ (input_bared draft at Cipher name)
    (bared_choice (bytes_eq keyword (codes "plain")) _ _ _ _ (input_bared draft at Plain name)
    (bared_demand (bytes_eq keyword (codes "output")) (Syntax at) _ _ (output_bared draft at name)))

step_bared : (draft : Draft) (at : ℕ) (name : List ℕ) (op : Op) → bared (with_step draft at name op) ≡ with_step (bare draft) 0 name op
unfolding with_step
step_bared draft at name op =
    let step : Step = record { name = name; op = op; line = 0 } in
    let one : Step = record { name = name; op = op; line = at } in
    let added : List Step → Result Draft ScriptPlace = λ (steps : List Step). Ok (record (bare draft) { steps = steps }) in
    bared_demand (has_shape (shapes_of draft.inputs draft.steps) op) (Shape at) (Ok (record draft { steps = draft.steps ++ one ∷ [] })) _ (ap added (map-append bare_step draft.steps (one ∷ [])))
    ∙ ap (λ (shapes : List shape.Shape). demand (has_shape shapes op) (Shape 0) (added (map bare_step draft.steps ++ step ∷ []))) (shapes_bare draft)

short_step_bared : (draft : Draft) (at : ℕ) (name : List ℕ) (keyword : Keyword) (a : List ℕ) → bared (short_step draft at name keyword a) ≡ short_step (bare draft) 0 name keyword a
unfolding short_step
short_step_bared draft at name keyword a =
    let taken : ℕ → Result Draft ScriptPlace = λ (first : ℕ). with_step (bare draft) 0 name (operation keyword first 0) in
    bared_demand (is_name name && is_name a && takes_one (second_of keyword)) (Syntax at) _ (demand (is_new draft name) (Name 0) (demand_some (register_named draft a) (Name 0) taken))
    (bared_demand (is_new draft name) (Name at) _ _ (bared_demand_some (register_named draft a) (Name at) _ taken (λ first. step_bared draft at name (operation keyword first 0))))
    ∙ ap₂ (λ (new : Bool) (register : Option ℕ). demand (is_name name && is_name a && takes_one (second_of keyword)) (Syntax 0) (demand new (Name 0) (demand_some register (Name 0) taken))) (new_bare draft name) (register_bare draft a)

long_step_bared : (draft : Draft) (at : ℕ) (name : List ℕ) (keyword : Keyword) (a b : List ℕ) → bared (long_step draft at name keyword a b) ≡ long_step (bare draft) 0 name keyword a b
unfolding long_step
long_step_bared draft at name keyword a b =
    let taken : ℕ → ℕ → Result Draft ScriptPlace = λ (first other : ℕ). with_step (bare draft) 0 name (operation keyword first other) in
    let form : Bool = is_name name && is_name a && is_second draft.set (second_of keyword) b in
    bared_demand form (Syntax at) _ (demand (is_new draft name) (Name 0) (demand_some (register_named draft a) (Name 0) (λ first. demand_some (second_value draft (second_of keyword) b) (Name 0) (taken first))))
    (bared_demand (is_new draft name) (Name at) _ _ (bared_demand_some (register_named draft a) (Name at) _ (λ first. demand_some (second_value draft (second_of keyword) b) (Name 0) (taken first))
    (λ first. bared_demand_some (second_value draft (second_of keyword) b) (Name at) _ (taken first) (λ other. step_bared draft at name (operation keyword first other)))))
    ∙ ap₂ (λ (new : Bool) (register : Option ℕ). demand form (Syntax 0) (demand new (Name 0) (demand_some register (Name 0) (λ first. demand_some (second_value draft (second_of keyword) b) (Name 0) (taken first))))) (new_bare draft name) (register_bare draft a)
    ∙ ap (λ (other : Option ℕ). demand form (Syntax 0) (demand (is_new (bare draft) name) (Name 0) (demand_some (register_named (bare draft) a) (Name 0) (λ first. demand_some other (Name 0) (taken first))))) (second_bare draft (second_of keyword) b)

next_bared : (draft : Draft) (at : ℕ) (words : List (List ℕ)) → bared (next_line draft at words) ≡ next_line (bare draft) 0 words
unfolding next_line
next_bared draft at [] = refl
next_bared draft at (a ∷ []) = refl
next_bared draft at (keyword ∷ name ∷ []) = short_bared draft at keyword name
next_bared draft at (a ∷ b ∷ c ∷ []) = refl
next_bared draft at (name ∷ equals ∷ keyword ∷ a ∷ []) = bared_demand_some (keyword_after equals keyword) (Syntax at) _ _ (λ known. short_step_bared draft at name known a)
next_bared draft at (name ∷ equals ∷ keyword ∷ a ∷ b ∷ []) = bared_demand_some (keyword_after equals keyword) (Syntax at) _ _ (λ known. long_step_bared draft at name known a b)
next_bared draft at (a ∷ b ∷ c ∷ d ∷ e ∷ f ∷ words) = refl

line_bared : (draft : Option Draft) (line : Line) → bared (after_line draft line) ≡ after_line (option_map bare draft) (bare_line line)
unfolding after_line
line_bared None line = set_bared line.number line.words
line_bared (Some draft) line = bared_demand (is_none draft.output) (Syntax line.number) _ _ (next_bared draft line.number line.words)

-- ---- all lines

pub lines_bared : (draft : Option Draft) (lines : List Line) → bared_all (after_lines draft lines) ≡ after_lines (option_map bare draft) (map bare_line lines)
lines_bared draft [] = refl
lines_bared draft (line ∷ lines) =
    by (after_line draft line) (λ next. lines_bared (Some next) lines)
    ∙ ap (λ (r : Result Draft ScriptPlace). followed r (λ next. after_lines (Some next) (map bare_line lines))) (line_bared draft line)
  where
    by : (r : Result Draft ScriptPlace) → ((next : Draft) → bared_all (after_lines (Some next) lines) ≡ after_lines (Some (bare next)) (map bare_line lines))
        → bared_all (followed r (λ next. after_lines (Some next) lines)) ≡ followed (bared r) (λ next. after_lines (Some next) (map bare_line lines))
    by (Ok next) more = more next
    by (Err place) more = refl
