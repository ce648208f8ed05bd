-- What is demanded of the ciphers that are bound to the inputs of a script.
use Rattle.std.specs.Prelude.{◌≡◌, ℕ, List, [], slice_get, Option, Some}
use Rattle.set_table.specs.declared.SetName.{SetName}
use Rattle.file_model.specs.FileText.{FileContent}
use Rattle.file_model.specs.Heads.{content_with}
use Rattle.file_model.specs.declared.head.Head.{Head}
use Rattle.command_words.specs.declared.status.Status.{Status}
use Rattle.command_model.specs.Bindings as bindings
use Rattle.command_model.specs.Bindings.{bound_cipher, bound_values}
use Rattle.command_model.specs.Plan.{other_set, other_parts, other_key}
use Rattle.run_operands.specs.declared.bound_files.Operand.{Operand}
use Rattle.run_operands.specs.declared.bound_files.Operand.TheVariants.{Cipher, Values}
use Rattle.run_operands.specs.declared.matching.Demand.{Demand}
use Rattle.run_operands.specs.declared.matching.Demand.TheVariants as demand

-- what is known of an operand without the words of a cipher
abbrev pub operand_seen : Operand → bindings.Operand
operand_seen (Cipher head) = bound_cipher (content_with head [])
operand_seen (Values listed) = bound_values listed.items

-- what is said of a cipher that doesn't meet a demand, its file being named by a word
abbrev pub refusal_of : Demand → ℕ → FileContent → Option Status
refusal_of (demand.Set set) = other_set set
refusal_of demand.Parts = other_parts
refusal_of (demand.Key id) = other_key id

-- all ciphers among operands are of this set and have two parts
abbrev pub CiphersFit : SetName → List Operand → Type 0
CiphersFit set operands = (p : ℕ) (head : Head) → slice_get operands p ≡ Some (Cipher head) → (head.set ≡ set) × (head.parts ≡ 2)
