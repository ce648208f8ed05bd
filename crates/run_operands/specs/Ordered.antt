-- The operands of bindings, in the order in which a script declares the inputs.
use Rattle.std.specs.Prelude.{◌≡◌, ℕ, ◌+◌, ◌<◌, List, [], length, slice_get, slice_index_or, None, Some, Vec}
use Rattle.std.specs.declared.alloc.Global.{Global}
use Rattle.outer_io.specs.Store.{Files}
use Rattle.script_text.specs.declared.script.Input.{Input}
use Rattle.script_text.specs.Scripts.{Script}
use Rattle.command_words.specs.Form.{binding_file}
use Rattle.command_words.specs.Line.{word_at}
use Rattle.command_model.specs.Bindings as bindings
use Rattle.command_model.specs.Bindings.{bound_names, place_bound, content_of, values_in, operand_of, plains_of}
use Rattle.command_model.specs.Plan.{badly_bound}
use Rattle.command_stages.specs.Operands.{AreValues, HasContentAt}
use Rattle.run_operands.specs.BoundFiles.{FitsKind, AreSeen, AreOperands, IsStatedBy, MayBeBound}
use Rattle.run_operands.specs.BoundReads.{FitInputs}
use Rattle.run_operands.specs.Demands.{CiphersFit}
use Rattle.run_operands.specs.declared.bound_files.Operand.{Operand}
use Rattle.run_operands.specs.declared.bound_files.Operand.TheVariants.{Values}
use Rattle.run_operands.specs.declared.bound_files.BoundCipher.{BoundCipher}

-- a script can be run on these operands of bindings: the bindings are without fault, there is an operand for each, it fits the input, and
-- the ciphers are of the script's set and have two parts
pub record CanRunOn (script : Script) (words : List (List ℕ)) (operands : List Operand) : Type 0 where
  pub well_bound : badly_bound script words ≡ None
  pub count : length operands + 3 ≡ length words
  pub inputs : FitInputs script words operands
  pub ciphers : CiphersFit script.set operands

-- the binding of an input stands at this place among the bindings, and what was read of its file fits the input
pub record IsPlaceOf (script : Script) (words : List (List ℕ)) (operands : List Operand) (input : Input) (place : ℕ) : Type 0 where
  pub placed : place_bound (bound_names words) input.name ≡ Some place
  pub within : place < length operands
  pub fits : (operand : Operand) → slice_get operands place ≡ Some operand → FitsKind script.set input.kind operand

-- the cipher is the one that is bound to an input
pub record IsCipherOf (script : Script) (words : List (List ℕ)) (operands : List Operand) (input : Input) (cipher : BoundCipher) : Type 0 where
  pub bound : MayBeBound script.set (length words) cipher
  pub stated : (planned : List bindings.Operand) → AreSeen operands planned → IsStatedBy planned cipher (content_of (operand_of (bound_names words) planned input))
  pub held : (files : Files) (planned : List bindings.Operand) → AreOperands words files operands planned
      → HasContentAt files (binding_file (word_at words cipher.word)) cipher.head (content_of (operand_of (bound_names words) planned input))

-- at this place among the operands are the values that are bound to an input
pub record AreValuesOf (script : Script) (words : List (List ℕ)) (operands : List Operand) (input : Input) (place : ℕ) : Type 0 where
  pub listed : Vec ℕ Global
  pub there : slice_get operands place ≡ Some (Values listed)
  pub values : AreValues script.set listed.items
  pub is : (planned : List bindings.Operand) → AreSeen operands planned → values_in (operand_of (bound_names words) planned input) ≡ listed.items

-- at this place among the operands are the values that are bound to the plain input of a number
pub record ArePlainValues (script : Script) (words : List (List ℕ)) (operands : List Operand) (number place : ℕ) : Type 0 where
  pub listed : Vec ℕ Global
  pub there : slice_get operands place ≡ Some (Values listed)
  pub values : AreValues script.set listed.items
  pub is : (planned : List bindings.Operand) → AreSeen operands planned → slice_index_or (plains_of script (bound_names words) planned) number [] ≡ listed.items
