-- The grammar of scripts: the script that a text is, or its first fault. Lines and words are those of any text.
use Rattle.std.specs.Prelude.{ℕ, ◌+◌, ◌/◌, Bool, true, false, ◌||◌, ◌&&◌, not, nat_lt, ◌==◌, if◌then◌else◌, List, [], ◌∷◌, ◌++◌, length, map, Option, Some, None, is_none, Result, Ok, Err, codes, position}
use Rattle.std.specs.List.{count_by}
use Rattle.std.specs.Str.{bytes_eq}
use Rattle.set_table.specs.declared.SetName.{SetName}
use Rattle.set_table.specs.Sets.{set_named, degree_of, plain_of}
use Rattle.line_text.specs.Lines.{Line, lines_of, counted_lines}
use Rattle.line_text.specs.Names.{written_number, is_name, is_number_in}
use Rattle.script_text.specs.Limits.{max_script_bytes, max_inputs, max_steps}
use Rattle.script_text.specs.Keywords.{keyword_named, second_of, operation}
use Rattle.script_text.specs.declared.keyword.Keyword.{Keyword}
use Rattle.script_text.specs.declared.keyword.Second.{Second}
use Rattle.script_text.specs.declared.keyword.Second.TheVariants as second
use Rattle.script_text.specs.declared.faults.ScriptPlace.{ScriptPlace}
use Rattle.script_text.specs.declared.faults.ScriptPlace.TheVariants.{Syntax, Name, Shape, TooLong}
use Rattle.script_text.specs.declared.script.InputKind.{InputKind}
use Rattle.script_text.specs.declared.script.InputKind.TheVariants.{Cipher, Plain}
use Rattle.script_text.specs.declared.script.Op.{Op}
use Rattle.script_text.specs.declared.script.Input.{Input}
use Rattle.script_text.specs.declared.script.Step.{Step}
use Rattle.script_text.specs.Scripts.{Script, cipher_inputs, plain_inputs, names_of, shapes_of, has_shape}

-- ---- the text as a whole

-- a line with `=` as its second word
abbrev pub is_step_line : List (List ℕ) → Bool
is_step_line (name ∷ equals ∷ words) = bytes_eq equals (codes "=")
is_step_line words = false

-- a line that is no step and begins with `cipher` or `plain`
abbrev pub is_input_line : List (List ℕ) → Bool
is_input_line [] = false
is_input_line (word ∷ words) = not (is_step_line (word ∷ words)) && (bytes_eq word (codes "cipher") || bytes_eq word (codes "plain"))

-- more bytes, inputs or steps than a script has
abbrev pub is_too_long : List ℕ → Bool
is_too_long text =
    nat_lt max_script_bytes (length text)
    || nat_lt max_inputs (count_by (λ line. is_input_line line.words) (counted_lines text))
    || nat_lt max_steps (count_by (λ line. is_step_line line.words) (counted_lines text))

-- ---- a line, by those before it

-- what lines without fault give, from the set line on
pub record Draft : Type 0 where
  pub set : SetName
  pub inputs : List Input
  pub steps : List Step
  pub output : Option ℕ

-- the register of this name: the cipher inputs and then the steps are numbered
unfoldable pub register_named : Draft → List ℕ → Option ℕ
register_named draft name = position (λ other. bytes_eq other name) (names_of (cipher_inputs draft.inputs) draft.steps)

unfoldable pub plain_named : Draft → List ℕ → Option ℕ
plain_named draft name = position (λ other. bytes_eq other name) (map (λ input. input.name) (plain_inputs draft.inputs))

unfoldable pub is_new : Draft → List ℕ → Bool
is_new draft name = is_none (register_named draft name) && is_none (plain_named draft name)

-- what follows from a result without fault
abbrev pub followed : {A B : Type 0} → Result A ScriptPlace → (A → Result B ScriptPlace) → Result B ScriptPlace
followed (Ok x) next = next x
followed (Err fault) next = Err fault

-- the result where what it demands holds, and the fault elsewhere
abbrev pub demand : {A E : Type 0} → Bool → E → Result A E → Result A E
demand holds fault result = if holds then result else Err fault

-- what follows from a value, and the fault where there is none
abbrev pub demand_some : {A B : Type 0} → Option A → ScriptPlace → (A → Result B ScriptPlace) → Result B ScriptPlace
demand_some None fault result = Err fault
demand_some (Some x) fault result = result x

-- `set SET`
unfoldable pub set_line : ℕ → List (List ℕ) → Result Draft ScriptPlace
set_line at (keyword ∷ word ∷ []) =
    demand (bytes_eq keyword (codes "set")) (Syntax at)
    (demand_some (set_named word) (Syntax at) (λ set. Ok (record { set = set; inputs = []; steps = []; output = None })))
set_line at words = Err (Syntax at)

-- with one more input, and with one more step
abbrev pub input_added : Draft → ℕ → InputKind → List ℕ → Draft
input_added draft at kind name = record draft { inputs = draft.inputs ++ record { name = name; kind = kind; line = at } ∷ [] }

abbrev pub step_added : Draft → ℕ → List ℕ → Op → Draft
step_added draft at name op = record draft { steps = draft.steps ++ record { name = name; op = op; line = at } ∷ [] }

-- `cipher NAME` or `plain NAME`, before all steps
unfoldable pub input_line : Draft → ℕ → InputKind → List ℕ → Result Draft ScriptPlace
input_line draft at kind name =
    demand (is_name name && (length draft.steps == 0)) (Syntax at)
    (demand (is_new draft name) (Name at)
    (Ok (input_added draft at kind name)))

-- `output NAME`
unfoldable pub output_line : Draft → ℕ → List ℕ → Result Draft ScriptPlace
output_line draft at name =
    demand (is_name name) (Syntax at)
    (demand_some (register_named draft name) (Name at) (λ output. Ok (record draft { output = Some output })))

-- no second operand is taken
abbrev pub takes_one : Second → Bool
takes_one second.Nothing = true
takes_one other = false

-- a word that may stand as the second operand
unfoldable pub is_second : SetName → Second → List ℕ → Bool
is_second set second.Nothing word = false
is_second set second.Register word = is_name word
is_second set second.Plain word = is_name word
is_second set second.Factor word = is_number_in 0 (plain_of set) word
is_second set second.Distance word = is_number_in 1 (degree_of set / 2) word

-- the number of the second operand
unfoldable pub second_value : Draft → Second → List ℕ → Option ℕ
second_value draft second.Nothing word = None
second_value draft second.Register word = register_named draft word
second_value draft second.Plain word = plain_named draft word
second_value draft second.Factor word = Some (written_number word)
second_value draft second.Distance word = Some (written_number word)

unfoldable pub with_step : Draft → ℕ → List ℕ → Op → Result Draft ScriptPlace
with_step draft at name op =
    demand (has_shape (shapes_of draft.inputs draft.steps) op) (Shape at)
    (Ok (step_added draft at name op))

-- NAME = KEYWORD A
unfoldable pub short_step : Draft → ℕ → List ℕ → Keyword → List ℕ → Result Draft ScriptPlace
short_step draft at name keyword a =
    demand (is_name name && is_name a && takes_one (second_of keyword)) (Syntax at)
    (demand (is_new draft name) (Name at)
    (demand_some (register_named draft a) (Name at) (λ first. with_step draft at name (operation keyword first 0))))

-- NAME = KEYWORD A B, where B is a name or a number
unfoldable pub long_step : Draft → ℕ → List ℕ → Keyword → List ℕ → List ℕ → Result Draft ScriptPlace
long_step draft at name keyword a b =
    demand (is_name name && is_name a && is_second draft.set (second_of keyword) b) (Syntax at)
    (demand (is_new draft name) (Name at)
    (demand_some (register_named draft a) (Name at) (λ first.
    demand_some (second_value draft (second_of keyword) b) (Name at) (λ second. with_step draft at name (operation keyword first second)))))

-- the keyword of a step, which stands after `=`
unfoldable pub keyword_after : List ℕ → List ℕ → Option Keyword
keyword_after equals keyword = if bytes_eq equals (codes "=") then keyword_named keyword else None

-- a line of two words after the set line and before the output line
unfoldable pub short_line : Draft → ℕ → List ℕ → List ℕ → Result Draft ScriptPlace
short_line draft at keyword name =
    if bytes_eq keyword (codes "cipher") then input_line draft at Cipher name
    else if bytes_eq keyword (codes "plain") then input_line draft at Plain name
    else demand (bytes_eq keyword (codes "output")) (Syntax at) (output_line draft at name)

-- a line after the set line and before the output line
unfoldable pub next_line : Draft → ℕ → List (List ℕ) → Result Draft ScriptPlace
next_line draft at (keyword ∷ name ∷ []) = short_line draft at keyword name
next_line draft at (name ∷ equals ∷ keyword ∷ a ∷ []) =
    demand_some (keyword_after equals keyword) (Syntax at) (λ known. short_step draft at name known a)
next_line draft at (name ∷ equals ∷ keyword ∷ a ∷ b ∷ []) =
    demand_some (keyword_after equals keyword) (Syntax at) (λ known. long_step draft at name known a b)
next_line draft at words = Err (Syntax at)

-- what the lines give after a further one; before the set line there is no draft
unfoldable pub after_line : Option Draft → Line → Result Draft ScriptPlace
after_line None line = set_line line.number line.words
after_line (Some draft) line = demand (is_none draft.output) (Syntax line.number) (next_line draft line.number line.words)

abbrev pub after_lines : Option Draft → List Line → Result (Option Draft) ScriptPlace
after_lines draft [] = Ok draft
after_lines draft (line ∷ lines) = followed (after_line draft line) (λ next. after_lines (Some next) lines)

-- the script, where the output line came; the number is that of the line where it is missed
abbrev pub finished : ℕ → Option Draft → Result Script ScriptPlace
finished missed None = Err (Syntax missed)
finished missed (Some draft) =
    demand_some draft.output (Syntax missed) (λ output. Ok (record { set = draft.set; inputs = draft.inputs; steps = draft.steps; output = output }))

-- the script that a text is, or its first fault
abbrev pub script_of : List ℕ → Result Script ScriptPlace
script_of text = demand (not (is_too_long text)) TooLong (followed (after_lines None (counted_lines text)) (finished (length (lines_of text) + 1)))
