-- The lines of a printed script give the draft of the script with the lines of its text.
use Rattle.std.proofs.Common.{◌≡◌, ◌≢◌, ◌<◌, ◌≤◌, ℕ, zero, suc, ◌+◌, ◌/◌, List, [], ◌∷◌, ◌++◌, length, map, replicate, get_or, position, Bool, true, false, not, cond, ◌&&◌, nat_lt, nat_le, Some, None, Ok, codes, refl, sym, ap, ap₂, ◌∙◌, subst, arith, append_assoc, length-append}
use Rattle.std.specs.Prelude.{is_none, decimal}
use Rattle.std.specs.List.{list_all, position_or_len, filter, AllPairs}
use Rattle.std.specs.Str.{bytes_eq}
use Rattle.std.proofs.lemmas.Bool.{and_parts, and_from}
use Rattle.std.proofs.lemmas.Bool.Decides.{nat_tests}
use Rattle.std.proofs.lemmas.List.{append-nil, map-append, length-map, get_or_append_left}
use Rattle.std.proofs.lemmas.List.Sums.{AllPass-from_list_all, list_all-from_AllPass, fold-append}
use Rattle.std.proofs.lemmas.List.Folds.{list_all-append}
use Rattle.std.proofs.lemmas.Slice.Eq.{bytes_eq-Decides}
use Rattle.set_table.specs.declared.SetName.{SetName}
use Rattle.set_table.specs.declared.SetName.TheVariants.{One16, Toy16, S4096, S8192, S16384}
use Rattle.set_table.specs.Sets.{name_of, degree_of, plain_of, set_named}
use Rattle.script_text.specs.declared.keyword.Keyword.{Keyword}
use Rattle.script_text.specs.declared.keyword.Keyword.TheVariants as keyword
use Rattle.script_text.specs.declared.script.InputKind.{InputKind}
use Rattle.script_text.specs.declared.script.InputKind.TheVariants.{Cipher, Plain}
use Rattle.script_text.specs.declared.script.Op.{Op}
use Rattle.script_text.specs.declared.script.Op.TheVariants.{Add, Sub, Neg, AddPlain, SubPlain, MulPlain, MulConst, Mul, Relin, Turn, Swap}
use Rattle.script_text.specs.declared.script.Input.{Input}
use Rattle.script_text.specs.declared.script.Step.{Step}
use Rattle.line_text.specs.Names.{written_number, is_name, is_number, is_number_in}
use Rattle.script_text.specs.Keywords.{keyword_text, second_of, operation}
use Rattle.script_text.specs.declared.script.Shape.{Shape}
use Rattle.script_text.specs.Scripts.{Script, IsSound, cipher_inputs, plain_inputs, names_of, shapes_of, shape_made, AllFit, Fits, register_names, input_shape, has_shape}
use Rattle.script_text.specs.Grammar.{Draft, register_named, plain_named, is_new, set_line, input_line, output_line, short_line, takes_one, is_second, second_value, with_step, short_step, long_step, keyword_after, next_line, after_line, after_lines}
use Rattle.script_text.specs.Printed.{kind_text, keyword_of, first_operand, second_words, plain_names, inputs_from, steps_from, renumbered}
use Rattle.script_text.proofs.Fitting.{parts_tested}
use Rattle.script_text.proofs.Registers.{length-shapes_of}
use Rattle.script_text.proofs.SecondOperand.{plain_small, degree_small}
use Rattle.script_text.proofs.PrintedNumbers.{decimal_is_number, written_decimal}
use Rattle.script_text.proofs.PrintedScripts.{input_words, step_words, script_lines, numbered_words}

-- ---- names that differ

-- the names of inputs
abbrev input_names : List Input → List (List ℕ)
input_names inputs = map (λ input. input.name) inputs

-- the names of steps
abbrev step_names : List Step → List (List ℕ)
step_names steps = map (λ step. step.name) steps

-- a name that differs from each of these
abbrev Differs : List ℕ → List (List ℕ) → Type 0
Differs name [] = Unit {0}
Differs name (other ∷ others) = (bytes_eq name other ≡ false) × Differs name others

-- names of which each differs from all later ones
abbrev AllDiffer : List (List ℕ) → Type 0
AllDiffer [] = Unit {0}
AllDiffer (name ∷ names) = Differs name names × AllDiffer names

-- the test of two names that differ
unequal : (name other : List ℕ) → name ≢ other → bytes_eq name other ≡ false
unequal name other differ = by (bytes_eq name other) refl
  where
    by : (b : Bool) → bytes_eq name other ≡ b → b ≡ false
    by false is = refl
    by true is = absurd (differ ((bytes_eq-Decides name other).0 is))

-- a name that differs from each, by place
differs_from : (name : List ℕ) (others : List (List ℕ)) → ((k : ℕ) → k < length others → name ≢ get_or others k []) → Differs name others
differs_from name [] differ = tt
differs_from name (other ∷ others) differ =
    (unequal name other (differ 0 (omega arith)), differs_from name others (λ k below. differ (suc k) (omega arith)))

-- names that differ, by places
all_differ : (names : List (List ℕ)) → AllPairs (λ name later. name ≢ later) names → AllDiffer names
all_differ [] pairs = tt
all_differ (name ∷ names) pairs = (
  differs_from name names (λ k below. pairs 0 (suc k) [] (omega arith) (omega arith)),
  all_differ names (λ i j d before below. pairs (suc i) (suc j) d (omega arith) (omega arith)),
)

-- a name that differs from more names than these
differs_left : (name : List ℕ) (others more : List (List ℕ)) → Differs name (others ++ more) → Differs name others
differs_left name [] more differ = tt
differs_left name (other ∷ others) more differ = (differ.0, differs_left name others more differ.1)

-- one of the names from which a name differs
differs_middle : (name : List ℕ) (others : List (List ℕ)) (other : List ℕ) (more : List (List ℕ)) → Differs name (others ++ other ∷ more) → bytes_eq name other ≡ false
differs_middle name [] other more differ = differ.0
differs_middle name (first ∷ others) other more differ = differs_middle name others other more differ.1

-- the name at a place, from which a name differs
differs_at : (name : List ℕ) (others : List (List ℕ)) (i : ℕ) → Differs name others → i < length others → bytes_eq name (get_or others i []) ≡ false
differs_at name [] i differ below = absurd (omega arith)
differs_at name (other ∷ others) zero differ below = differ.0
differs_at name (other ∷ others) (suc i) differ below = differs_at name others i differ.1 (omega arith)

-- the first of names that differ
all_left : (names more : List (List ℕ)) → AllDiffer (names ++ more) → AllDiffer names
all_left [] more differ = tt
all_left (name ∷ names) more differ = (differs_left name names more differ.0, all_left names more differ.1)

-- a name is not among those before it
new_among : (names : List (List ℕ)) (name : List ℕ) (more : List (List ℕ)) → AllDiffer (names ++ name ∷ more) → list_all (λ other. not (bytes_eq other name)) names ≡ true
new_among [] name more differ = refl
new_among (first ∷ names) name more differ =
    and_from (not (bytes_eq first name)) (list_all (λ other. not (bytes_eq other name)) names) (ap not (differs_middle first names name more differ.0)) (new_among names name more differ.1)

-- a name differs from those of some of the inputs and further names where it does from those of all
differs_kept : (q : Input → Bool) (name : List ℕ) (inputs : List Input) (more : List (List ℕ)) → Differs name (input_names inputs ++ more) → Differs name (input_names (filter q inputs) ++ more)
differs_kept q name [] more differ = differ
differs_kept q name (input ∷ inputs) more differ = by (q input) (differs_kept q name inputs more differ.1)
  where
    by : (b : Bool) → Differs name (input_names (filter q inputs) ++ more) → Differs name (input_names (cond b (input ∷ filter q inputs) (filter q inputs)) ++ more)
    by true kept = (differ.0, kept)
    by false kept = kept

-- the names of some of the inputs and further names differ where those of all do
all_differ_kept : (q : Input → Bool) (inputs : List Input) (more : List (List ℕ)) → AllDiffer (input_names inputs ++ more) → AllDiffer (input_names (filter q inputs) ++ more)
all_differ_kept q [] more differ = differ
all_differ_kept q (input ∷ inputs) more differ = by (q input) (all_differ_kept q inputs more differ.1)
  where
    by : (b : Bool) → AllDiffer (input_names (filter q inputs) ++ more) → AllDiffer (input_names (cond b (input ∷ filter q inputs) (filter q inputs)) ++ more)
    by true kept = (differs_kept q input.name inputs more differ.0, kept)
    by false kept = kept

-- ---- what holds of all names

-- the names of some of the inputs and further names pass a test where those of all do
all_pass_kept : (test : List ℕ → Bool) (q : Input → Bool) (inputs : List Input) (more : List (List ℕ)) → list_all test (input_names inputs ++ more) ≡ true → list_all test (input_names (filter q inputs) ++ more) ≡ true
all_pass_kept test q [] more all = all
all_pass_kept test q (input ∷ inputs) more all =
    let both = and_parts (test input.name) (list_all test (input_names inputs ++ more)) all in
    by (q input) both.0 (all_pass_kept test q inputs more both.1)
  where
    by : (b : Bool) → test input.name ≡ true → list_all test (input_names (filter q inputs) ++ more) ≡ true → list_all test (input_names (cond b (input ∷ filter q inputs) (filter q inputs)) ++ more) ≡ true
    by true passes kept = and_from (test input.name) (list_all test (input_names (filter q inputs) ++ more)) passes kept
    by false passes kept = kept

-- the first of names that pass a test
all_pass_left : (test : List ℕ → Bool) (names more : List (List ℕ)) → list_all test (names ++ more) ≡ true → list_all test names ≡ true
all_pass_left test names more all = (and_parts (list_all test names) (list_all test more) (sym (list_all-append test names more) ∙ all)).0

-- ---- places in lists of names

-- the first place of a name is its own
place : (names : List (List ℕ)) (i : ℕ) → AllDiffer names → i < length names → position_or_len (λ other. bytes_eq other (get_or names i [])) names ≡ i
place [] i differ below = absurd (omega arith)
place (name ∷ names) zero differ below =
    let same : bytes_eq name name ≡ true = (bytes_eq-Decides name name).1 refl in
    ap (λ (b : Bool). cond (not b) (1 + position_or_len (λ other. bytes_eq other name) names) 0) same
place (name ∷ names) (suc i) differ below =
    let more : position_or_len (λ other. bytes_eq other (get_or names i [])) names ≡ i = place names i differ.1 (omega arith) in
    ap (λ (b : Bool). cond (not b) (1 + position_or_len (λ other. bytes_eq other (get_or names i [])) names) 0) (differs_at name names i differ.0 (omega arith))
    ∙ omega arith

-- a place within is found
place_found : (test : List ℕ → Bool) (names : List (List ℕ)) (i : ℕ) → position_or_len test names ≡ i → i < length names → position test names ≡ Some i
place_found test names i is below =
    let inside : nat_lt (position_or_len test names) (length names) ≡ true = grind (arith, nat_tests) in
    ap (λ (b : Bool). cond b (Some (position_or_len test names)) None) inside ∙ ap (λ (k : ℕ). Some k) is

-- where no name passes, the first place is past the end
past_all : (test : List ℕ → Bool) (names : List (List ℕ)) → list_all (λ name. not (test name)) names ≡ true → position_or_len test names ≡ length names
past_all test [] none = refl
past_all test (name ∷ names) none =
    let both = and_parts (not (test name)) (list_all (λ name. not (test name)) names) none in
    let more = past_all test names both.1 in
    ap (λ (b : Bool). cond b (1 + position_or_len test names) 0) both.0 ∙ omega arith

-- where no name passes, none is found
none_found : (test : List ℕ → Bool) (names : List (List ℕ)) → list_all (λ name. not (test name)) names ≡ true → is_none (position test names) ≡ true
none_found test names none =
    let past = past_all test names none in
    let outside : nat_lt (position_or_len test names) (length names) ≡ false = grind (arith, nat_tests) in
    ap (λ (b : Bool). is_none (cond b (Some (position_or_len test names)) None)) outside

-- a name is new that differs from all before it
is_new_name : (draft : Draft) (name : List ℕ) (more : List (List ℕ)) → AllDiffer (names_of draft.inputs draft.steps ++ name ∷ more) → is_new draft name ≡ true
unfolding is_new register_named plain_named
is_new_name draft name more differ =
    let all = new_among (names_of draft.inputs draft.steps) name more differ in
    let inputs = all_pass_left (λ other. not (bytes_eq other name)) (input_names draft.inputs) (step_names draft.steps) all in
    and_from (is_none (register_named draft name)) (is_none (plain_named draft name))
    (none_found (λ other. bytes_eq other name) (names_of (cipher_inputs draft.inputs) draft.steps) (all_pass_kept (λ other. not (bytes_eq other name)) _ draft.inputs (step_names draft.steps) all))
    (none_found (λ other. bytes_eq other name) (input_names (plain_inputs draft.inputs)) (by inputs))
  where
    by : list_all (λ other. not (bytes_eq other name)) (input_names draft.inputs) ≡ true → list_all (λ other. not (bytes_eq other name)) (input_names (plain_inputs draft.inputs)) ≡ true
    by all = ap (list_all (λ other. not (bytes_eq other name))) (sym (append-nil (input_names (plain_inputs draft.inputs)))) ∙ all_pass_kept (λ other. not (bytes_eq other name)) _ draft.inputs [] (ap (list_all (λ other. not (bytes_eq other name))) (append-nil (input_names draft.inputs)) ∙ all)

-- ---- the words of steps

-- what can be read before a step: the registers and the plain inputs by their names
record CanRead (draft : Draft) (registers plains : List (List ℕ)) : Type 0 where
  register : (i : ℕ) → i < length (shapes_of draft.inputs draft.steps) → (register_named draft (get_or registers i []) ≡ Some i) × (is_name (get_or registers i []) ≡ true)
  plain : (i : ℕ) → i < length (plain_inputs draft.inputs) → (plain_named draft (get_or plains i []) ≡ Some i) × (is_name (get_or plains i []) ≡ true)

-- an operation that fits finds the parts that it takes
shape_fits : (set : SetName) (plains : ℕ) (shapes : List Shape) (op : Op) → Fits set plains shapes op → has_shape shapes op ≡ true
unfolding has_shape
shape_fits set plains shapes (Add a b) fits = refl
shape_fits set plains shapes (Sub a b) fits = refl
shape_fits set plains shapes (Neg a) fits = refl
shape_fits set plains shapes (AddPlain a p) fits = refl
shape_fits set plains shapes (SubPlain a p) fits = refl
shape_fits set plains shapes (MulPlain a p) fits = refl
shape_fits set plains shapes (MulConst a k) fits = refl
shape_fits set plains shapes (Mul a b) fits = parts_tested shapes 2 (a ∷ b ∷ []) fits.taken
shape_fits set plains shapes (Relin a) fits = parts_tested shapes 3 (a ∷ []) fits.taken
shape_fits set plains shapes (Turn a k) fits = parts_tested shapes 2 (a ∷ []) fits.taken
shape_fits set plains shapes (Swap a) fits = parts_tested shapes 2 (a ∷ []) fits.taken

-- the keyword of a step is known by its text
known : (k : Keyword) → keyword_after (codes "=") (keyword_text k) ≡ Some k
unfolding keyword_after
known keyword.Add = refl
known keyword.Sub = refl
known keyword.Neg = refl
known keyword.AddPlain = refl
known keyword.SubPlain = refl
known keyword.MulPlain = refl
known keyword.MulConst = refl
known keyword.Mul = refl
known keyword.Relin = refl
known keyword.Turn = refl
known keyword.Swap = refl

-- a step without second operand
short_read : (draft : Draft) (at : ℕ) (name : List ℕ) (k : Keyword) (word : List ℕ) (a : ℕ) → is_name name ≡ true → is_new draft name ≡ true
    → (register_named draft word ≡ Some a) × (is_name word ≡ true) → takes_one (second_of k) ≡ true → has_shape (shapes_of draft.inputs draft.steps) (operation k a 0) ≡ true
    → next_line draft at (name ∷ codes "=" ∷ keyword_text k ∷ word ∷ []) ≡ Ok (record draft { steps = draft.steps ++ record { name = name; op = operation k a 0; line = at } ∷ [] })
unfolding next_line short_step with_step
short_read draft at name k word a named new first one shape = rw (known k, named, first.1, one, new, first.0, shape) refl

-- a step with a second operand
long_read : (draft : Draft) (at : ℕ) (name : List ℕ) (k : Keyword) (word other : List ℕ) (a b : ℕ) → is_name name ≡ true → is_new draft name ≡ true
    → (register_named draft word ≡ Some a) × (is_name word ≡ true) → (second_value draft (second_of k) other ≡ Some b) × (is_second draft.set (second_of k) other ≡ true)
    → has_shape (shapes_of draft.inputs draft.steps) (operation k a b) ≡ true
    → next_line draft at (name ∷ codes "=" ∷ keyword_text k ∷ word ∷ other ∷ []) ≡ Ok (record draft { steps = draft.steps ++ record { name = name; op = operation k a b; line = at } ∷ [] })
unfolding next_line long_step with_step
long_read draft at name k word other a b named new first second shape = rw (known k, named, first.1, second.1, new, first.0, second.0, shape) refl

-- a number in range
number_read : (low end : ℕ) (word : List ℕ) (k : ℕ) → is_number word ≡ true → written_number word ≡ k → low ≤ k → k < end → is_number_in low end word ≡ true
number_read low end word k is written from below =
    let first : nat_le low (written_number word) ≡ true = grind (arith, nat_tests) in
    let last : nat_lt (written_number word) end ≡ true = grind (arith, nat_tests) in
    and_from (is_number word && nat_le low (written_number word)) (nat_lt (written_number word) end) (and_from (is_number word) (nat_le low (written_number word)) is first) last

-- a factor as second operand
factor_read : (draft : Draft) (k : ℕ) → k < plain_of draft.set → (Some (written_number (decimal k)) ≡ Some k) × (is_number_in 0 (plain_of draft.set) (decimal k) ≡ true)
factor_read draft k below =
    let most = plain_small draft.set in
    let small : k < 4294967296 = omega (arith, most) in
    (ap (λ (n : ℕ). Some n) (written_decimal k small), number_read 0 (plain_of draft.set) (decimal k) k (decimal_is_number k small) (written_decimal k small) (omega arith) below)

-- a distance as second operand
distance_read : (draft : Draft) (k : ℕ) → 0 < k → k < degree_of draft.set / 2 → (Some (written_number (decimal k)) ≡ Some k) × (is_number_in 1 (degree_of draft.set / 2) (decimal k) ≡ true)
distance_read draft k some below =
    let most = degree_small draft.set in
    let small : k < 4294967296 = omega (arith, most) in
    (ap (λ (n : ℕ). Some n) (written_decimal k small), number_read 1 (degree_of draft.set / 2) (decimal k) k (decimal_is_number k small) (written_decimal k small) (omega arith) below)

-- the line of a step
step_read : (draft : Draft) (registers plains : List (List ℕ)) (at : ℕ) (name : List ℕ) (op : Op) → CanRead draft registers plains → is_name name ≡ true → is_new draft name ≡ true
    → Fits draft.set (length (plain_inputs draft.inputs)) (shapes_of draft.inputs draft.steps) op
    → next_line draft at (name ∷ codes "=" ∷ keyword_text (keyword_of op) ∷ get_or registers (first_operand op) [] ∷ second_words registers plains op)
    ≡ Ok (record draft { steps = draft.steps ++ record { name = name; op = op; line = at } ∷ [] })
unfolding is_second second_value
step_read draft registers plains at name (Add a b) can named new fits =
    long_read draft at name keyword.Add (get_or registers a []) (get_or registers b []) a b named new (can.register a fits.operands.0) (can.register b fits.operands.1.0) (shape_fits draft.set (length (plain_inputs draft.inputs)) (shapes_of draft.inputs draft.steps) (Add a b) fits)
step_read draft registers plains at name (Sub a b) can named new fits =
    long_read draft at name keyword.Sub (get_or registers a []) (get_or registers b []) a b named new (can.register a fits.operands.0) (can.register b fits.operands.1.0) (shape_fits draft.set (length (plain_inputs draft.inputs)) (shapes_of draft.inputs draft.steps) (Sub a b) fits)
step_read draft registers plains at name (Neg a) can named new fits =
    short_read draft at name keyword.Neg (get_or registers a []) a named new (can.register a fits.operands.0) refl (shape_fits draft.set (length (plain_inputs draft.inputs)) (shapes_of draft.inputs draft.steps) (Neg a) fits)
step_read draft registers plains at name (AddPlain a p) can named new fits =
    long_read draft at name keyword.AddPlain (get_or registers a []) (get_or plains p []) a p named new (can.register a fits.operands.0) (can.plain p fits.plain) (shape_fits draft.set (length (plain_inputs draft.inputs)) (shapes_of draft.inputs draft.steps) (AddPlain a p) fits)
step_read draft registers plains at name (SubPlain a p) can named new fits =
    long_read draft at name keyword.SubPlain (get_or registers a []) (get_or plains p []) a p named new (can.register a fits.operands.0) (can.plain p fits.plain) (shape_fits draft.set (length (plain_inputs draft.inputs)) (shapes_of draft.inputs draft.steps) (SubPlain a p) fits)
step_read draft registers plains at name (MulPlain a p) can named new fits =
    long_read draft at name keyword.MulPlain (get_or registers a []) (get_or plains p []) a p named new (can.register a fits.operands.0) (can.plain p fits.plain) (shape_fits draft.set (length (plain_inputs draft.inputs)) (shapes_of draft.inputs draft.steps) (MulPlain a p) fits)
step_read draft registers plains at name (MulConst a k) can named new fits =
    long_read draft at name keyword.MulConst (get_or registers a []) (decimal k) a k named new (can.register a fits.operands.0) (factor_read draft k fits.factor) (shape_fits draft.set (length (plain_inputs draft.inputs)) (shapes_of draft.inputs draft.steps) (MulConst a k) fits)
step_read draft registers plains at name (Mul a b) can named new fits =
    let shapes = shapes_of draft.inputs draft.steps in
    long_read draft at name keyword.Mul (get_or registers a []) (get_or registers b []) a b named new (can.register a fits.operands.0) (can.register b fits.operands.1.0) (shape_fits draft.set (length (plain_inputs draft.inputs)) shapes (Mul a b) fits)
step_read draft registers plains at name (Relin a) can named new fits =
    let shapes = shapes_of draft.inputs draft.steps in
    short_read draft at name keyword.Relin (get_or registers a []) a named new (can.register a fits.operands.0) refl (shape_fits draft.set (length (plain_inputs draft.inputs)) shapes (Relin a) fits)
step_read draft registers plains at name (Turn a k) can named new fits =
    let shapes = shapes_of draft.inputs draft.steps in
    long_read draft at name keyword.Turn (get_or registers a []) (decimal k) a k named new (can.register a fits.operands.0) (distance_read draft k fits.distance.0 fits.distance.1) (shape_fits draft.set (length (plain_inputs draft.inputs)) shapes (Turn a k) fits)
step_read draft registers plains at name (Swap a) can named new fits =
    let shapes = shapes_of draft.inputs draft.steps in
    short_read draft at name keyword.Swap (get_or registers a []) a named new (can.register a fits.operands.0) refl (shape_fits draft.set (length (plain_inputs draft.inputs)) shapes (Swap a) fits)

-- what a draft defines can be read, also where further names follow
can_read : (draft : Draft) (more : List (List ℕ)) → AllDiffer (names_of draft.inputs draft.steps ++ more) → list_all is_name (names_of draft.inputs draft.steps ++ more) ≡ true
    → CanRead draft (names_of (cipher_inputs draft.inputs) draft.steps ++ more) (input_names (plain_inputs draft.inputs))
unfolding register_named plain_named
can_read draft more differ named =
    let registers = names_of (cipher_inputs draft.inputs) draft.steps in
    let plains = input_names (plain_inputs draft.inputs) in
    let steps = step_names draft.steps in
    let defined_differ = all_left (names_of draft.inputs draft.steps) more differ in
    let defined_named = all_pass_left is_name (names_of draft.inputs draft.steps) more named in
    let registers_differ : AllDiffer registers = all_differ_kept _ draft.inputs steps defined_differ in
    let registers_named : list_all is_name registers ≡ true = all_pass_kept is_name _ draft.inputs steps defined_named in
    let plains_differ : AllDiffer plains = all_left plains steps (all_differ_kept _ draft.inputs steps defined_differ) in
    let plains_named : list_all is_name plains ≡ true = all_pass_left is_name plains steps (all_pass_kept is_name _ draft.inputs steps defined_named) in
    let count : length registers ≡ length (shapes_of draft.inputs draft.steps) = by draft in
    record {
      register = λ i below.
          let within : i < length registers = omega arith in
          let same : get_or (registers ++ more) i [] ≡ get_or registers i [] = get_or_append_left registers more [] i within in (
            ap (λ (word : List ℕ). position (λ other. bytes_eq other word) registers) same ∙ place_found (λ other. bytes_eq other (get_or registers i [])) registers i (place registers i registers_differ within) within,
            ap is_name same ∙ AllPass-from_list_all is_name registers registers_named i [] within,
          );
      plain = λ i below.
          let all = length-map (plain_inputs draft.inputs) (λ (input : Input). input.name) in
          let within : i < length plains = omega arith in (
            place_found (λ other. bytes_eq other (get_or plains i [])) plains i (place plains i plains_differ within) within,
            AllPass-from_list_all is_name plains plains_named i [] within,
          );
    }
  where
    by : (draft : Draft) → length (names_of (cipher_inputs draft.inputs) draft.steps) ≡ length (shapes_of draft.inputs draft.steps)
    by draft =
        let both = length-append (input_names (cipher_inputs draft.inputs)) (step_names draft.steps) in
        let ciphers = length-map (cipher_inputs draft.inputs) (λ (input : Input). input.name) in
        let steps = length-map draft.steps (λ (step : Step). step.name) in
        let shapes = length-shapes_of draft.inputs draft.steps in
        omega arith

-- ---- the lines in turn

-- a line before the output line
line_read : (draft next : Draft) (at : ℕ) (words : List (List ℕ)) (more : List (List (List ℕ))) → is_none draft.output ≡ true → next_line draft at words ≡ Ok next
    → after_lines (Some draft) (numbered_words at (words ∷ more)) ≡ after_lines (Some next) (numbered_words (at + 1) more)
unfolding after_line
line_read draft next at words more unended read = rw (unended, read) refl

-- a name among those that pass a test
middle_passes : (test : List ℕ → Bool) (names : List (List ℕ)) (name : List ℕ) (more : List (List ℕ)) → list_all test (names ++ name ∷ more) ≡ true → test name ≡ true
middle_passes test names name more all =
    (and_parts (test name) (list_all test more) (and_parts (list_all test names) (list_all test (name ∷ more)) (sym (list_all-append test names (name ∷ more)) ∙ all)).1).0

-- names with those of further steps
names_split : (inputs : List Input) (before after : List Step) → names_of inputs before ++ step_names after ≡ names_of inputs (before ++ after)
names_split inputs before after =
    append_assoc (input_names inputs) (step_names before) (step_names after)
    ∙ ap (λ (names : List (List ℕ)). input_names inputs ++ names) (sym (map-append (λ (step : Step). step.name) before after))

-- the shapes of the registers after a further step
shapes_more : (inputs : List Input) (steps : List Step) (step : Step) → shapes_of inputs (steps ++ step ∷ []) ≡ shapes_of inputs steps ++ shape_made (shapes_of inputs steps) step.op ∷ []
shapes_more inputs steps step = fold-append (λ so_far step. so_far ++ shape_made so_far step.op ∷ []) (replicate (length (cipher_inputs inputs)) input_shape) steps (step ∷ [])

-- the lines of the steps
steps_read : (set : SetName) (inputs : List Input) (all : List Step) → AllDiffer (names_of inputs all) → list_all is_name (names_of inputs all) ≡ true
    → (steps before : List Step) (at : ℕ) (more : List (List (List ℕ))) → before ++ steps_from at steps ≡ all → AllFit set (length (plain_inputs inputs)) (shapes_of inputs before) steps
    → after_lines (Some (record { set = set; inputs = inputs; steps = before; output = None })) (numbered_words at (map (step_words (names_of (cipher_inputs inputs) all) (input_names (plain_inputs inputs))) steps ++ more))
    ≡ after_lines (Some (record { set = set; inputs = inputs; steps = all; output = None })) (numbered_words (at + length steps) more)
unfolding step_words
steps_read set inputs all differ named [] before at more are fit =
    ap₂ (λ (steps : List Step) (n : ℕ). after_lines (Some (record { set = set; inputs = inputs; steps = steps; output = None })) (numbered_words n more)) (sym (append-nil before) ∙ are) (omega arith)
steps_read set inputs all differ named (step ∷ steps) before at more are fit =
    let draft : Draft = record { set = set; inputs = inputs; steps = before; output = None } in
    let renamed : Step = record step { line = at } in
    let rest = step_names (renamed ∷ steps_from (at + 1) steps) in
    let names : names_of inputs before ++ rest ≡ names_of inputs all = names_split inputs before (renamed ∷ steps_from (at + 1) steps) ∙ ap (names_of inputs) are in
    let registers : names_of (cipher_inputs inputs) before ++ rest ≡ names_of (cipher_inputs inputs) all = names_split (cipher_inputs inputs) before (renamed ∷ steps_from (at + 1) steps) ∙ ap (names_of (cipher_inputs inputs)) are in
    let differ_so_far : AllDiffer (names_of inputs before ++ rest) = subst AllDiffer (sym names) differ in
    let named_so_far : list_all is_name (names_of inputs before ++ rest) ≡ true = ap (list_all is_name) names ∙ named in
    let can = subst (λ (r : List (List ℕ)). CanRead draft r (input_names (plain_inputs inputs))) registers (can_read draft rest differ_so_far named_so_far) in
    let read = step_read draft (names_of (cipher_inputs inputs) all) (input_names (plain_inputs inputs)) at step.name step.op can
    (middle_passes is_name (names_of inputs before) step.name (step_names (steps_from (at + 1) steps)) named_so_far)
    (is_new_name draft step.name (step_names (steps_from (at + 1) steps)) differ_so_far) fit.0 in
    line_read draft (record draft { steps = before ++ renamed ∷ [] }) at _ (map (step_words (names_of (cipher_inputs inputs) all) (input_names (plain_inputs inputs))) steps ++ more) refl read
    ∙ steps_read set inputs all differ named steps (before ++ renamed ∷ []) (at + 1) more (append_assoc before (renamed ∷ []) (steps_from (at + 1) steps) ∙ are)
    (subst (λ (shapes : List Shape). AllFit set (length (plain_inputs inputs)) shapes steps) (sym (shapes_more inputs before renamed)) fit.1)
    ∙ ap (λ (n : ℕ). after_lines (Some (record { set = set; inputs = inputs; steps = all; output = None })) (numbered_words n more)) (omega arith)

-- the line of an input
input_read : (set : SetName) (before : List Input) (at : ℕ) (kind : InputKind) (name : List ℕ) → is_name name ≡ true → is_new (record { set = set; inputs = before; steps = []; output = None }) name ≡ true
    → next_line (record { set = set; inputs = before; steps = []; output = None }) at (kind_text kind ∷ name ∷ [])
    ≡ Ok (record { set = set; inputs = before ++ record { name = name; kind = kind; line = at } ∷ []; steps = []; output = None })
unfolding next_line short_line input_line
input_read set before at Cipher name named new = rw (named, new) refl
input_read set before at Plain name named new = rw (named, new) refl

-- the lines of the inputs
inputs_read : (set : SetName) (all : List Input) → AllDiffer (input_names all) → list_all is_name (input_names all) ≡ true
    → (inputs before : List Input) (at : ℕ) (more : List (List (List ℕ))) → before ++ inputs_from at inputs ≡ all
    → after_lines (Some (record { set = set; inputs = before; steps = []; output = None })) (numbered_words at (map input_words inputs ++ more))
    ≡ after_lines (Some (record { set = set; inputs = all; steps = []; output = None })) (numbered_words (at + length inputs) more)
unfolding input_words
inputs_read set all differ named [] before at more are =
    ap₂ (λ (inputs : List Input) (n : ℕ). after_lines (Some (record { set = set; inputs = inputs; steps = []; output = None })) (numbered_words n more)) (sym (append-nil before) ∙ are) (omega arith)
inputs_read set all differ named (input ∷ inputs) before at more are =
    let draft : Draft = record { set = set; inputs = before; steps = []; output = None } in
    let renamed : Input = record input { line = at } in
    let rest = input_names (inputs_from (at + 1) inputs) in
    let names : input_names before ++ input.name ∷ rest ≡ input_names all =
    sym (map-append (λ (i : Input). i.name) before (renamed ∷ inputs_from (at + 1) inputs)) ∙ ap (λ (is : List Input). input_names is) are in
    let differ_so_far : AllDiffer (names_of before [] ++ input.name ∷ rest) =
    subst AllDiffer (sym (ap (λ (ns : List (List ℕ)). ns ++ input.name ∷ rest) (append-nil (input_names before)) ∙ names)) differ in
    let read = input_read set before at input.kind input.name
    (middle_passes is_name (input_names before) input.name rest (ap (list_all is_name) names ∙ named))
    (is_new_name draft input.name rest differ_so_far) in
    line_read draft (record draft { inputs = before ++ renamed ∷ [] }) at _ (map input_words inputs ++ more) refl read
    ∙ inputs_read set all differ named inputs (before ++ renamed ∷ []) (at + 1) more (append_assoc before (renamed ∷ []) (inputs_from (at + 1) inputs) ∙ are)
    ∙ ap (λ (n : ℕ). after_lines (Some (record { set = set; inputs = all; steps = []; output = None })) (numbered_words n more)) (omega arith)

-- the line of the set
set_read : (set : SetName) (at : ℕ) → set_line at (codes "set" ∷ name_of set ∷ []) ≡ Ok (record { set = set; inputs = []; steps = []; output = None })
unfolding set_line set_named
set_read One16 at = refl
set_read Toy16 at = refl
set_read S4096 at = refl
set_read S8192 at = refl
set_read S16384 at = refl

-- the line of the output
output_read : (draft : Draft) (at output : ℕ) → AllDiffer (names_of draft.inputs draft.steps) → list_all is_name (names_of draft.inputs draft.steps) ≡ true → output < length (shapes_of draft.inputs draft.steps)
    → next_line draft at (codes "output" ∷ get_or (names_of (cipher_inputs draft.inputs) draft.steps) output [] ∷ []) ≡ Ok (record draft { output = Some output })
unfolding next_line short_line output_line
output_read draft at output differ named below =
    let names = append-nil (names_of draft.inputs draft.steps) in
    let can = subst (λ (r : List (List ℕ)). CanRead draft r (input_names (plain_inputs draft.inputs))) (append-nil (names_of (cipher_inputs draft.inputs) draft.steps))
    (can_read draft [] (subst AllDiffer (sym names) differ) (ap (list_all is_name) names ∙ named)) in
    let found = can.register output below in
    rw (found.1, found.0) refl

-- ---- the renumbered script has the names of the script

-- the lines of inputs leave their names
input_names_from : (at : ℕ) (inputs : List Input) → input_names (inputs_from at inputs) ≡ input_names inputs
input_names_from at [] = refl
input_names_from at (input ∷ inputs) = ap (λ (names : List (List ℕ)). input.name ∷ names) (input_names_from (at + 1) inputs)

-- the lines of steps leave their names
step_names_from : (at : ℕ) (steps : List Step) → step_names (steps_from at steps) ≡ step_names steps
step_names_from at [] = refl
step_names_from at (step ∷ steps) = ap (λ (names : List (List ℕ)). step.name ∷ names) (step_names_from (at + 1) steps)

-- names beside a further input, where it counts
names_beside : (b : Bool) (one other : Input) (ones others : List Input) → one.name ≡ other.name → input_names ones ≡ input_names others → input_names (cond b (one ∷ ones) ones) ≡ input_names (cond b (other ∷ others) others)
names_beside true one other ones others same more = ap₂ (λ (name : List ℕ) (names : List (List ℕ)). name ∷ names) same more
names_beside false one other ones others same more = more

-- the lines of inputs leave the names of the cipher inputs
cipher_names_from : (at : ℕ) (inputs : List Input) → input_names (cipher_inputs (inputs_from at inputs)) ≡ input_names (cipher_inputs inputs)
cipher_names_from at [] = refl
cipher_names_from at (input ∷ inputs) = names_beside _ (record input { line = at }) input _ _ refl (cipher_names_from (at + 1) inputs)

-- the lines of inputs leave the names of the plain inputs
plain_names_from : (at : ℕ) (inputs : List Input) → input_names (plain_inputs (inputs_from at inputs)) ≡ input_names (plain_inputs inputs)
plain_names_from at [] = refl
plain_names_from at (input ∷ inputs) = names_beside _ (record input { line = at }) input _ _ refl (plain_names_from (at + 1) inputs)

-- inputs with the same names are as many
same_length : (ones others : List Input) → input_names ones ≡ input_names others → length ones ≡ length others
same_length ones others same =
    let first = length-map ones (λ (input : Input). input.name) in
    let second = length-map others (λ (input : Input). input.name) in
    let lengths = ap length same in
    omega arith

-- the lines of a script, by the names of its registers and plain inputs
abbrev lines_by : Script → List (List ℕ) → List (List ℕ) → List (List (List ℕ))
lines_by script registers plains =
    (codes "set" ∷ name_of script.set ∷ [])
    ∷ (map input_words script.inputs
    ++ (map (step_words registers plains) script.steps
    ++ (codes "output" ∷ get_or registers script.output [] ∷ []) ∷ []))

-- the draft that the lines of a script give
pub after_printed : (script : Script) → IsSound script
    → after_lines None (numbered_words 1 (script_lines script))
    ≡ Ok (Some (record { set = script.set; inputs = (renumbered script).inputs; steps = (renumbered script).steps; output = Some script.output }))
unfolding script_lines after_line
after_printed script sound =
    let inputs = inputs_from 2 script.inputs in
    let steps = steps_from (2 + length script.inputs) script.steps in
    let ciphers = cipher_names_from 2 script.inputs in
    let plains : plain_names script ≡ input_names (plain_inputs inputs) = sym (plain_names_from 2 script.inputs) in
    let step_same = step_names_from (2 + length script.inputs) script.steps in
    let registers : register_names script ≡ names_of (cipher_inputs inputs) steps = sym (ap₂ (λ (a b : List (List ℕ)). a ++ b) ciphers step_same) in
    let names : names_of inputs steps ≡ names_of script.inputs script.steps = ap₂ (λ (a b : List (List ℕ)). a ++ b) (input_names_from 2 script.inputs) step_same in
    let differ : AllDiffer (names_of inputs steps) = subst AllDiffer (sym names) (all_differ (names_of script.inputs script.steps) sound.distinct) in
    let named : list_all is_name (names_of inputs steps) ≡ true = ap (list_all is_name) names ∙ list_all-from_AllPass is_name (names_of script.inputs script.steps) sound.names in
    let cipher_count = same_length (cipher_inputs inputs) (cipher_inputs script.inputs) ciphers in
    let plain_count = same_length (plain_inputs inputs) (plain_inputs script.inputs) (plain_names_from 2 script.inputs) in
    let fit : AllFit script.set (length (plain_inputs inputs)) (shapes_of inputs []) script.steps =
    subst (λ (n : ℕ). AllFit script.set n (shapes_of inputs []) script.steps) (sym plain_count)
    (subst (λ (n : ℕ). AllFit script.set (length (plain_inputs script.inputs)) (replicate n input_shape) script.steps) (sym cipher_count) sound.fit) in
    let below : script.output < length (shapes_of inputs steps) =
    let shapes = length-shapes_of inputs steps in
    let first = length-map steps (λ (step : Step). step.name) in
    let second = length-map script.steps (λ (step : Step). step.name) in
    let lengths = ap length step_same in
    let within = sound.output in
    omega arith in
    let read = output_read (record { set = script.set; inputs = inputs; steps = steps; output = None }) (2 + length script.inputs + length script.steps) script.output differ named below in
    let output = codes "output" ∷ get_or (names_of (cipher_inputs inputs) steps) script.output [] ∷ [] in
    let step_lines = map (step_words (names_of (cipher_inputs inputs) steps) (input_names (plain_inputs inputs))) script.steps ++ output ∷ [] in
    ap₂ (λ (r p : List (List ℕ)). after_lines None (numbered_words 1 (lines_by script r p))) registers plains
    ∙ set_first script.set (map input_words script.inputs ++ step_lines)
    ∙ inputs_read script.set inputs (all_left (input_names inputs) (step_names steps) differ) (all_pass_left is_name (input_names inputs) (step_names steps) named) script.inputs [] 2 step_lines refl
    ∙ steps_read script.set inputs steps differ named script.steps [] (2 + length script.inputs) (output ∷ []) refl fit
    ∙ line_read (record { set = script.set; inputs = inputs; steps = steps; output = None }) (record { set = script.set; inputs = inputs; steps = steps; output = Some script.output }) (2 + length script.inputs + length script.steps) output [] refl read
  where
    set_first : (set : SetName) (more : List (List (List ℕ))) → after_lines None (numbered_words 1 ((codes "set" ∷ name_of set ∷ []) ∷ more)) ≡ after_lines (Some (record { set = set; inputs = []; steps = []; output = None })) (numbered_words 2 more)
    set_first set more = rw (set_read set 1) refl
