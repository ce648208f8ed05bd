-- What the files are that `run` binds to the inputs of a script, and what a run on them gives.
use Rattle.std.specs.Prelude.{◌≡◌, ℕ, ◌+◌, ◌-◌, ◌<◌, ◌≤◌, true, List, [], length, slice_get, slice_index_or, Some}
use Rattle.outer_io.specs.Store.{Files}
use Rattle.set_table.specs.declared.SetName.{SetName}
use Rattle.file_model.specs.FileText.{FileContent}
use Rattle.file_model.specs.Heads.{HeadKeepsRules, IsHeadOf, wants}
use Rattle.file_model.specs.declared.head.Wanted.TheVariants as wanted
use Rattle.script_text.specs.declared.script.InputKind.{InputKind}
use Rattle.script_text.specs.declared.script.InputKind.TheVariants as input
use Rattle.script_text.specs.Scripts.{Script}
use Rattle.command_words.specs.Form.{binding_name, binding_file}
use Rattle.command_words.specs.Line.{word_at}
use Rattle.command_model.specs.Bindings as bindings
use Rattle.command_model.specs.Bindings.{bound_cipher, bound_values, no_content, input_named, kind_at}
use Rattle.command_model.specs.Reading.{own_file, values_file}
use Rattle.command_stages.specs.Operands.{AreValues, HasContentAt}
use Rattle.command_stages.specs.Stages.{Says}
use Rattle.run_operands.specs.declared.bound_files.Operand.{Operand}
use Rattle.run_operands.specs.declared.bound_files.Operand.TheVariants.{Cipher, Values}
use Rattle.run_operands.specs.declared.bound_files.BoundCipher.{BoundCipher}

-- what was read of a file fits an input of this kind of a script with this set: the head of a cipher, or n values below t
abbrev pub FitsKind : SetName → InputKind → Operand → Type 0
FitsKind set input.Cipher (Cipher head) = HeadKeepsRules head × (wants wanted.Cipher head.kind ≡ true)
FitsKind set input.Plain (Values listed) = AreValues set listed.items
FitsKind set kind operand = ⊥

-- what is known of an operand that was read: its head states this content, or its values are these
abbrev pub IsSeen : Operand → bindings.Operand → Type 0
IsSeen (Cipher head) (bound_cipher content) = IsHeadOf head content
IsSeen (Values listed) (bound_values values) = listed.items ≡ values
IsSeen operand planned = ⊥

-- and of all of them, in order
pub record AreSeen (operands : List Operand) (planned : List bindings.Operand) : Type 0 where
  pub count : length operands ≡ length planned
  pub each : (p : ℕ) (operand : Operand) → slice_get operands p ≡ Some operand → IsSeen operand (slice_index_or planned p (bound_values []))

-- among these files there is one of this name, which a word gives, and for an input of this kind it says this operand
abbrev pub IsBoundAt : Files → SetName → InputKind → List ℕ → ℕ → bindings.Operand → Type 0
IsBoundAt files set input.Cipher name word operand = (content : FileContent) × ((operand ≡ bound_cipher content) × Says files name word (own_file wanted.Cipher) content)
IsBoundAt files set input.Plain name word operand = (values : List ℕ) × ((operand ≡ bound_values values) × Says files name word (values_file set) values)

-- the files of the bindings, in order, say these operands
pub record AreBound (script : Script) (words : List (List ℕ)) (files : Files) (planned : List bindings.Operand) : Type 0 where
  pub each : (p : ℕ) → p < length planned
      → IsBoundAt files script.set (kind_at script (input_named script (binding_name (word_at words (3 + p))))) (binding_file (word_at words (3 + p))) (3 + p)
      (slice_index_or planned p (bound_values []))

-- what was read of the file of this name is this operand
abbrev pub IsOperandAt : Files → List ℕ → Operand → bindings.Operand → Type 0
IsOperandAt files name (Cipher head) (bound_cipher content) = HasContentAt files name head content
IsOperandAt files name (Values listed) (bound_values values) = listed.items ≡ values
IsOperandAt files name operand planned = ⊥

-- what was read of the files of the bindings, in order, is these operands
pub record AreOperands (words : List (List ℕ)) (files : Files) (operands : List Operand) (planned : List bindings.Operand) : Type 0 where
  pub count : length operands ≡ length planned
  pub each : (p : ℕ) (operand : Operand) → slice_get operands p ≡ Some operand
      → IsOperandAt files (binding_file (word_at words (3 + p))) operand (slice_index_or planned p (bound_values []))

-- the ciphers, each named by a word and scanned, have these contents
pub record AreHeld (words : List (List ℕ)) (files : Files) (ciphers : List BoundCipher) (contents : List FileContent) : Type 0 where
  pub count : length ciphers ≡ length contents
  pub each : (r : ℕ) (cipher : BoundCipher) → slice_get ciphers r ≡ Some cipher
      → HasContentAt files (binding_file (word_at words cipher.word)) cipher.head (slice_index_or contents r no_content)

-- the operand of the word that binds a cipher is the one with this content, which the head states
pub record IsStatedBy (planned : List bindings.Operand) (cipher : BoundCipher) (content : FileContent) : Type 0 where
  pub named : slice_index_or planned (cipher.word - 3) (bound_values []) ≡ bound_cipher content
  pub states : IsHeadOf cipher.head content

-- and of all of them
pub record AreStated (planned : List bindings.Operand) (ciphers : List BoundCipher) (contents : List FileContent) : Type 0 where
  pub count : length ciphers ≡ length contents
  pub each : (r : ℕ) (cipher : BoundCipher) → slice_get ciphers r ≡ Some cipher → IsStatedBy planned cipher (slice_index_or contents r no_content)

-- a cipher that may be bound to an input of a script with this set, by the word of a binding among so many words
pub record MayBeBound (set : SetName) (count : ℕ) (cipher : BoundCipher) : Type 0 where
  pub rules : HeadKeepsRules cipher.head
  pub is_cipher : wants wanted.Cipher cipher.head.kind ≡ true
  pub of_set : cipher.head.set ≡ set
  pub two_parts : cipher.head.parts ≡ 2
  pub behind : 3 ≤ cipher.word
  pub within : cipher.word < count
