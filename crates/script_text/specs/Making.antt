-- Making scripts without a text: what each further input, step and output gives, or why it is refused.
use Rattle.std.specs.Prelude.{◌≡◌, ◌≢◌, ℕ, ◌+◌, ◌/◌, ◌≤◌, Bool, true, ◌&&◌, nat_lt, ◌==◌, List, [], length, replicate, All, IsTrue, Option, Some, None, Result, Ok, Err}
use Rattle.std.specs.List.{list_all, AllPairs}
use Rattle.set_table.specs.declared.SetName.{SetName}
use Rattle.set_table.specs.Sets.{degree_of, plain_of}
use Rattle.line_text.specs.Names.{is_name}
use Rattle.script_text.specs.declared.maker.Refusal.{Refusal}
use Rattle.script_text.specs.declared.maker.Refusal.TheVariants.{TooMany, TooLate, NoName, Taken, Missing, OutOfRange, Shape}
use Rattle.script_text.specs.declared.maker.MakeFault.{MakeFault}
use Rattle.script_text.specs.declared.maker.MakeFault.TheVariants as fault
use Rattle.script_text.specs.declared.script.InputKind.{InputKind}
use Rattle.script_text.specs.declared.script.Op.{Op}
use Rattle.script_text.specs.Limits.{max_inputs, max_steps}
use Rattle.script_text.specs.Scripts.{Script, AllFit, cipher_inputs, plain_inputs, names_of, operands_of, plain_operand_of, factor_of, distance_of, input_shape, shapes_of, has_shape}
use Rattle.script_text.specs.Grammar.{Draft, demand, is_new, input_added, step_added}

-- nothing but the set
abbrev pub begun : SetName → Draft
begun set = record { set = set; inputs = []; steps = []; output = None }

-- how many registers and plain inputs there are
abbrev pub register_count : Draft → ℕ
register_count draft = length (cipher_inputs draft.inputs) + length draft.steps

-- a number that is asked for passes the test
abbrev pub passes : (ℕ → Bool) → Option ℕ → Bool
passes test None = true
passes test (Some n) = test n

-- the registers and the plain input that an operation reads are there
unfoldable pub has_operands : Draft → Op → Bool
has_operands draft op =
    list_all (λ register. nat_lt register (register_count draft)) (operands_of op)
    && passes (λ plain. nat_lt plain (length (plain_inputs draft.inputs))) (plain_operand_of op)

-- a factor is below t, and rows of n / 2 slots are turned by less than their length but not by 0
unfoldable pub has_number : SetName → Op → Bool
has_number set op =
    passes (λ factor. nat_lt factor (plain_of set)) (factor_of op)
    && passes (λ distance. nat_lt 0 distance && nat_lt distance (degree_of set / 2)) (distance_of op)

-- one more input, with the line that it has in the printed text
unfoldable pub with_input : Draft → InputKind → List ℕ → Result Draft Refusal
with_input draft kind name =
    demand (nat_lt (length draft.inputs) max_inputs) TooMany
    (demand (length draft.steps == 0) TooLate
    (demand (is_name name) NoName
    (demand (is_new draft name) Taken
    (Ok (input_added draft (length draft.inputs + 2) kind name)))))

-- one more step, likewise
unfoldable pub with_operation : Draft → List ℕ → Op → Result Draft Refusal
with_operation draft name op =
    demand (nat_lt (length draft.steps) max_steps) TooMany
    (demand (is_name name) NoName
    (demand (is_new draft name) Taken
    (demand (has_operands draft op) Missing
    (demand (has_number draft.set op) OutOfRange
    (demand (has_shape (shapes_of draft.inputs draft.steps) op) Shape
    (Ok (step_added draft (length draft.inputs + length draft.steps + 2) name op)))))))

-- the script that puts out this register
unfoldable pub with_output : Draft → ℕ → Result Script Refusal
with_output draft register =
    demand (nat_lt register (register_count draft)) Missing
    (Ok (record { set = draft.set; inputs = draft.inputs; steps = draft.steps; output = register }))

-- what was answered is what is made, unless there was no memory
abbrev pub Gives : Result Draft MakeFault → Result Draft Refusal → Type 0
Gives (Ok draft) made = made ≡ Ok draft
Gives (Err (fault.Refused refusal)) made = made ≡ Err refusal
Gives (Err fault.Memory) made = Unit {0}

-- what holds while a script is made: all that holds of scripts but for the output
pub record IsOpen (draft : Draft) : Type 0 where
  pub few_inputs : length draft.inputs ≤ max_inputs
  pub few_steps : length draft.steps ≤ max_steps
  pub names : All (λ name. IsTrue (is_name name)) (names_of draft.inputs draft.steps)
  pub distinct : AllPairs (λ name later. name ≢ later) (names_of draft.inputs draft.steps)
  pub fit : AllFit draft.set (length (plain_inputs draft.inputs)) (replicate (length (cipher_inputs draft.inputs)) input_shape) draft.steps
  pub unended : draft.output ≡ None
