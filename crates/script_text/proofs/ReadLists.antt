-- Each line that is read adds its words, as they are printed, to those of the lines before it.
use Rattle.std.proofs.Common.{◌≡◌, ◌<◌, ◌≤◌, ℕ, ◌+◌, List, [], ◌∷◌, ◌++◌, length, map, replicate, get_or, true, Option, Some, None, codes, refl, sym, ap, ap₂, ◌∙◌, arith, append_assoc, length-append}
use Rattle.std.specs.Prelude.{is_none}
use Rattle.std.proofs.lemmas.List.{append-nil, map-append, length-map, length-replicate, get_or_append_left}
use Rattle.set_table.specs.declared.SetName.{SetName}
use Rattle.set_table.specs.Sets.{name_of}
use Rattle.line_text.specs.Lines.{Line}
use Rattle.script_text.specs.declared.script.Op.{Op}
use Rattle.script_text.specs.declared.script.Op.TheVariants.{Add, Sub, Neg, AddPlain, SubPlain, MulPlain, MulConst, Mul, Relin, Turn, Swap}
use Rattle.script_text.specs.declared.script.Input.{Input}
use Rattle.script_text.specs.declared.script.Step.{Step}
use Rattle.script_text.specs.Keywords.{keyword_text}
use Rattle.script_text.specs.declared.script.Shape.{Shape}
use Rattle.script_text.specs.Scripts.{cipher_inputs, plain_inputs, names_of, shape_made, AllFit, Fits, input_shape}
use Rattle.script_text.specs.Grammar.{Draft, set_line}
use Rattle.script_text.specs.Printed.{keyword_of, first_operand, second_words}
use Rattle.script_text.proofs.PrintedScripts.{input_words, step_words}

-- ---- the lines of a draft

abbrev pub registers_of : Draft → List (List ℕ)
registers_of draft = names_of (cipher_inputs draft.inputs) draft.steps

abbrev pub plains_of : List Input → List (List ℕ)
plains_of inputs = map (λ input. input.name) (plain_inputs inputs)

abbrev pub input_line_of : Input → Line
input_line_of input = record { number = input.line; words = input_words input }

abbrev pub step_line_of : List (List ℕ) → List (List ℕ) → Step → Line
step_line_of registers plains step = record { number = step.line; words = step_words registers plains step }

-- the line of the output, where it came, with this number
abbrev pub output_lines_of : ℕ → List (List ℕ) → Option ℕ → List Line
output_lines_of last registers None = []
output_lines_of last registers (Some output) = record { number = last; words = codes "output" ∷ get_or registers output [] ∷ [] } ∷ []

-- the lines of a draft, with those of the set and of the output at these numbers
unfoldable pub draft_lines : ℕ → ℕ → Draft → List Line
draft_lines first last draft =
    record { number = first; words = codes "set" ∷ name_of draft.set ∷ [] }
    ∷ (map input_line_of draft.inputs
    ++ (map (step_line_of (registers_of draft) (plains_of draft.inputs)) draft.steps
    ++ output_lines_of last (registers_of draft) draft.output))

-- ---- what a further name leaves

-- a register before further ones
kept_name : (registers more : List (List ℕ)) (shapes : List Shape) (i : ℕ) → length shapes ≤ length registers → i < length shapes → get_or (registers ++ more) i [] ≡ get_or registers i []
kept_name registers more shapes i fewer below = get_or_append_left registers more [] i (omega arith)

-- the words of the operands
kept_words : (set : SetName) (count : ℕ) (shapes : List Shape) (op : Op) (registers plains more : List (List ℕ)) → Fits set count shapes op → length shapes ≤ length registers
    → (get_or (registers ++ more) (first_operand op) [] ≡ get_or registers (first_operand op) []) × (second_words (registers ++ more) plains op ≡ second_words registers plains op)
kept_words set count shapes (Add a b) registers plains more fits fewer =
    (kept_name registers more shapes a fewer fits.operands.0, ap (λ (w : List ℕ). w ∷ []) (kept_name registers more shapes b fewer fits.operands.1.0))
kept_words set count shapes (Sub a b) registers plains more fits fewer =
    (kept_name registers more shapes a fewer fits.operands.0, ap (λ (w : List ℕ). w ∷ []) (kept_name registers more shapes b fewer fits.operands.1.0))
kept_words set count shapes (Neg a) registers plains more fits fewer = (kept_name registers more shapes a fewer fits.operands.0, refl)
kept_words set count shapes (AddPlain a p) registers plains more fits fewer = (kept_name registers more shapes a fewer fits.operands.0, refl)
kept_words set count shapes (SubPlain a p) registers plains more fits fewer = (kept_name registers more shapes a fewer fits.operands.0, refl)
kept_words set count shapes (MulPlain a p) registers plains more fits fewer = (kept_name registers more shapes a fewer fits.operands.0, refl)
kept_words set count shapes (MulConst a k) registers plains more fits fewer = (kept_name registers more shapes a fewer fits.operands.0, refl)
kept_words set count shapes (Mul a b) registers plains more fits fewer =
    (kept_name registers more shapes a fewer fits.operands.0, ap (λ (w : List ℕ). w ∷ []) (kept_name registers more shapes b fewer fits.operands.1.0))
kept_words set count shapes (Relin a) registers plains more fits fewer = (kept_name registers more shapes a fewer fits.operands.0, refl)
kept_words set count shapes (Turn a k) registers plains more fits fewer = (kept_name registers more shapes a fewer fits.operands.0, refl)
kept_words set count shapes (Swap a) registers plains more fits fewer = (kept_name registers more shapes a fewer fits.operands.0, refl)

-- the line of a step
kept_line : (set : SetName) (count : ℕ) (shapes : List Shape) (step : Step) (registers plains more : List (List ℕ)) → Fits set count shapes step.op → length shapes ≤ length registers
    → step_line_of (registers ++ more) plains step ≡ step_line_of registers plains step
unfolding step_words
kept_line set count shapes step registers plains more fits fewer =
    let kept = kept_words set count shapes step.op registers plains more fits fewer in
    let line : List ℕ → List (List ℕ) → Line = λ (first : List ℕ) (seconds : List (List ℕ)). record { number = step.line; words = step.name ∷ codes "=" ∷ keyword_text (keyword_of step.op) ∷ first ∷ seconds } in
    ap₂ line kept.0 kept.1

-- the lines of steps whose operands are registers before them
lines_kept : (set : SetName) (count : ℕ) (steps : List Step) (shapes : List Shape) (registers plains more : List (List ℕ)) → AllFit set count shapes steps → length shapes + length steps ≤ length registers + 1
    → map (step_line_of (registers ++ more) plains) steps ≡ map (step_line_of registers plains) steps
lines_kept set count [] shapes registers plains more fit few = refl
lines_kept set count (step ∷ steps) shapes registers plains more fit few =
    let one = length-append shapes (shape_made shapes step.op ∷ []) in
    ap₂ (λ (line : Line) (lines : List Line). line ∷ lines)
    (kept_line set count shapes step registers plains more fit.0 (omega arith))
    (lines_kept set count steps (shapes ++ shape_made shapes step.op ∷ []) registers plains more fit.1 (omega arith))

-- ---- what a line adds

-- lines behind a first one, in four shapes, and one more behind the third
joined : (first more : Line) (inputs steps : List Line) → first ∷ (inputs ++ (steps ++ more ∷ [])) ≡ (first ∷ (inputs ++ (steps ++ []))) ++ more ∷ []
joined first more inputs steps =
    ap (λ (lines : List Line). first ∷ lines)
    (sym (append_assoc inputs steps (more ∷ [])) ∙ ap (λ (lines : List Line). (inputs ++ lines) ++ more ∷ []) (sym (append-nil steps)))

none_of : {A : Type 0} (o : Option A) → is_none o ≡ true → o ≡ None
none_of None none = refl
none_of (Some x) none = absurd cc

-- a further input
pub input_added : (draft : Draft) (input : Input) (first last at : ℕ) → draft.steps ≡ [] → is_none draft.output ≡ true
    → draft_lines first at (record draft { inputs = draft.inputs ++ input ∷ [] }) ≡ draft_lines first last draft ++ input_line_of input ∷ []
unfolding draft_lines
input_added draft input first last at no_steps no_output = by draft.set draft.inputs draft.steps draft.output no_steps (none_of draft.output no_output)
  where
    by : (set : SetName) (inputs : List Input) (steps : List Step) (output : Option ℕ) → steps ≡ [] → output ≡ None
        → draft_lines first at (record { set = set; inputs = inputs ++ input ∷ []; steps = steps; output = output })
        ≡ draft_lines first last (record { set = set; inputs = inputs; steps = steps; output = output }) ++ input_line_of input ∷ []
    by set inputs [] None no_steps none =
        let set_line : Line = record { number = first; words = codes "set" ∷ name_of set ∷ [] } in
        ap (λ (lines : List Line). set_line ∷ lines)
        (append-nil (map input_line_of (inputs ++ input ∷ [])) ∙ map-append input_line_of inputs (input ∷ []) ∙ ap (λ (lines : List Line). lines ++ input_line_of input ∷ []) (sym (append-nil (map input_line_of inputs))))
    by set inputs [] (Some r) no_steps none = absurd cc
    by set inputs (step ∷ steps) output no_steps none = absurd cc

-- the names of registers with that of a further step
registers_more : (inputs : List Input) (steps : List Step) (step : Step) → names_of (cipher_inputs inputs) (steps ++ step ∷ []) ≡ names_of (cipher_inputs inputs) steps ++ step.name ∷ []
registers_more inputs steps step =
    ap (λ (names : List (List ℕ)). map (λ (i : Input). i.name) (cipher_inputs inputs) ++ names) (map-append (λ (s : Step). s.name) steps (step ∷ []))
    ∙ sym (append_assoc (map (λ (i : Input). i.name) (cipher_inputs inputs)) (map (λ (s : Step). s.name) steps) (step.name ∷ []))

-- a further step
pub step_added : (draft : Draft) (step : Step) (first last at : ℕ) → is_none draft.output ≡ true
    → AllFit draft.set (length (plain_inputs draft.inputs)) (replicate (length (cipher_inputs draft.inputs)) input_shape) (draft.steps ++ step ∷ [])
    → draft_lines first at (record draft { steps = draft.steps ++ step ∷ [] }) ≡ draft_lines first last draft ++ step_line_of (registers_of draft) (plains_of draft.inputs) step ∷ []
unfolding draft_lines
step_added draft step first last at no_output fit = by draft.output (none_of draft.output no_output)
  where
    registers : List (List ℕ)
    registers = names_of (cipher_inputs draft.inputs) draft.steps

    plains : List (List ℕ)
    plains = plains_of draft.inputs

    same : map (step_line_of (names_of (cipher_inputs draft.inputs) (draft.steps ++ step ∷ [])) (plains_of draft.inputs)) (draft.steps ++ step ∷ [])
        ≡ map (step_line_of (names_of (cipher_inputs draft.inputs) draft.steps) (plains_of draft.inputs)) draft.steps ++ step_line_of (names_of (cipher_inputs draft.inputs) draft.steps) (plains_of draft.inputs) step ∷ []
    same =
        let before = names_of (cipher_inputs draft.inputs) draft.steps in
        let shapes = length-replicate {A = Shape} (length (cipher_inputs draft.inputs)) input_shape in
        let all = length-append (map (λ (i : Input). i.name) (cipher_inputs draft.inputs)) (map (λ (s : Step). s.name) draft.steps) in
        let ciphers = length-map (cipher_inputs draft.inputs) (λ (i : Input). i.name) in
        let steps = length-map draft.steps (λ (s : Step). s.name) in
        let one = length-append draft.steps (step ∷ []) in
        ap (λ (names : List (List ℕ)). map (step_line_of names (plains_of draft.inputs)) (draft.steps ++ step ∷ [])) (registers_more draft.inputs draft.steps step)
        ∙ lines_kept draft.set (length (plain_inputs draft.inputs)) (draft.steps ++ step ∷ []) (replicate (length (cipher_inputs draft.inputs)) input_shape) before (plains_of draft.inputs) (step.name ∷ []) fit (omega arith)
        ∙ map-append (step_line_of before (plains_of draft.inputs)) draft.steps (step ∷ [])

    by : (output : Option ℕ) → output ≡ None
        → draft_lines first at (record draft { steps = draft.steps ++ step ∷ []; output = output })
        ≡ draft_lines first last (record draft { output = output }) ++ step_line_of (names_of (cipher_inputs draft.inputs) draft.steps) (plains_of draft.inputs) step ∷ []
    by None none =
        let set_line : Line = record { number = first; words = codes "set" ∷ name_of draft.set ∷ [] } in
        let inputs : List Line = map input_line_of draft.inputs in
        let steps : List Line = map (step_line_of (names_of (cipher_inputs draft.inputs) draft.steps) (plains_of draft.inputs)) draft.steps in
        let line : Line = step_line_of (names_of (cipher_inputs draft.inputs) draft.steps) (plains_of draft.inputs) step in
        ap (λ (lines : List Line). set_line ∷ (inputs ++ lines)) (append-nil _ ∙ same) ∙ joined set_line line inputs steps
    by (Some r) none = absurd cc

-- the output
pub output_added : (draft : Draft) (output first last at : ℕ) → is_none draft.output ≡ true
    → draft_lines first at (record draft { output = Some output }) ≡ draft_lines first last draft ++ record { number = at; words = codes "output" ∷ get_or (registers_of draft) output [] ∷ [] } ∷ []
unfolding draft_lines
output_added draft output first last at no_output = by draft.output (none_of draft.output no_output)
  where
    by : (before : Option ℕ) → before ≡ None
        → draft_lines first at (record draft { output = Some output }) ≡ draft_lines first last (record draft { output = before }) ++ record { number = at; words = codes "output" ∷ get_or (registers_of draft) output [] ∷ [] } ∷ []
    by None none =
        let set_line : Line = record { number = first; words = codes "set" ∷ name_of draft.set ∷ [] } in
        let inputs : List Line = map input_line_of draft.inputs in
        let steps : List Line = map (step_line_of (registers_of draft) (plains_of draft.inputs)) draft.steps in
        let line : Line = record { number = at; words = codes "output" ∷ get_or (registers_of draft) output [] ∷ [] } in
        joined set_line line inputs steps
    by (Some r) none = absurd cc
