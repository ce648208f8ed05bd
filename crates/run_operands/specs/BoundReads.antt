-- What the reading of files that are bound to inputs gives.
use Rattle.std.specs.Prelude.{◌≡◌, ℕ, ◌+◌, ◌<◌, List, [], length, slice_get, slice_index_or, Some, Result, IfOk, IfErr}
use Rattle.std.specs.Option.{ForSome}
use Rattle.outer_io.specs.Store.{StoreState}
use Rattle.set_table.specs.declared.SetName.{SetName}
use Rattle.script_text.specs.declared.script.InputKind.{InputKind}
use Rattle.script_text.specs.Scripts.{Script}
use Rattle.command_words.specs.Form.{binding_name}
use Rattle.command_words.specs.Line.{word_at}
use Rattle.command_words.specs.declared.status.Status.{Status}
use Rattle.command_model.specs.Bindings as bindings
use Rattle.command_model.specs.Bindings.{bound_cipher, bound_values, input_named, kind_at}
use Rattle.command_model.specs.Reading.{Reading}
use Rattle.command_model.specs.Commanded.{Stopped}
use Rattle.command_stages.specs.Stages.{Way, MayReread}
use Rattle.run_operands.specs.BoundFiles.{FitsKind, IsSeen, AreSeen, IsBoundAt, AreBound}
use Rattle.run_operands.specs.declared.bound_files.Operand.{Operand}

-- the file of a cipher that a word binds may be read again
abbrev pub MayBeReread : List (List ℕ) → StoreState → ℕ → bindings.Operand → Type 0
MayBeReread words begun word (bound_cipher content) = MayReread words begun word
MayBeReread words begun word (bound_values values) = Unit {0}

-- the file of a name, which a word gives, was read for an input of a kind, on the way to the rest
pub record OperandCame (words : List (List ℕ)) (set : SetName) (kind : InputKind) (name : List ℕ) (word : ℕ) (rest : bindings.Operand → Reading) (begun now : StoreState)
    (result : Result Operand Status) : Type 0 where
  pub ok : IfOk result (λ operand. (one : bindings.Operand)
      × (IsSeen operand one × (ForSome begun.files (λ files. IsBoundAt files set kind name word one) × (MayBeReread words begun word one × Way words (rest one) begun now))))
  pub err : IfErr result (Stopped words begun now)

-- the files of all bindings were read, on the way to the rest
pub record OperandsCame {V : Type 0} (script : Script) (words : List (List ℕ)) (rest : List bindings.Operand → Reading) (begun now : StoreState) (items : V → List Operand)
    (result : Result V Status) : Type 0 where
  pub ok : IfOk result (λ v. (planned : List bindings.Operand)
      × (AreSeen (items v) planned × (ForSome begun.files (λ files. AreBound script words files planned)
      × (((p : ℕ) → p < length planned → MayBeReread words begun (3 + p) (slice_index_or planned p (bound_values []))) × Way words (rest planned) begun now))))
  pub err : IfErr result (Stopped words begun now)

-- what was read of the file of each binding fits the input that it is bound to
abbrev pub FitInputs : Script → List (List ℕ) → List Operand → Type 0
FitInputs script words operands = (p : ℕ) (operand : Operand) → slice_get operands p ≡ Some operand
    → FitsKind script.set (kind_at script (input_named script (binding_name (word_at words (3 + p))))) operand
