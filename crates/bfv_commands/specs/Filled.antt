-- What the inputs of a workspace are filled with.
use Rattle.std.specs.Prelude.{◌≡◌, ℕ, ◌<◌, List, [], length, slice_get, slice_index, slice_index_or, Option, Some, None}
use Rattle.set_table.specs.declared.SetName.{SetName}
use Rattle.set_table.specs.Sets.{data_of}
use Rattle.file_model.specs.FileText.{FileContent}
use Rattle.bfv_model.specs.Holds.{listed_word, stored_word}
use Rattle.bfv_params.specs.Values.{CipherValue}
use Rattle.script_text.specs.declared.script.InputKind.TheVariants.{Plain}
use Rattle.script_run.specs.Workspaces.{WorkspaceValue, input_of}
use Rattle.command_model.specs.Bindings.{no_content}
use Rattle.run_operands.specs.BoundFiles.{FitsKind}
use Rattle.run_operands.specs.declared.bound_files.Operand.{Operand}
use Rattle.run_operands.specs.declared.bound_files.Operand.TheVariants.{Values}

-- there is an operand, and it is values for a plain input of a script with this set
abbrev pub IsListed : SetName → Option Operand → Type 0
IsListed set None = ⊥
IsListed set (Some operand) = FitsKind set Plain operand

-- the values of an operand
abbrev pub values_listed : Option Operand → List ℕ
values_listed (Some (Values listed)) = listed.items
values_listed operand = []

-- the values of the operands at these places, in order
abbrev pub AreListed : List Operand → List ℕ → List (List ℕ) → Type 0
AreListed operands places plains = (p : ℕ) → p < length places → slice_index_or plains p [] ≡ values_listed (slice_get operands (slice_index places p))

-- a cipher has the words of a file with this content
abbrev pub HasWordsOf : ℕ → SetName → CipherValue → FileContent → Type 0
HasWordsOf n set cipher content =
    (j i k : ℕ) → j < 3 → i < length (data_of set) → k < n
    → listed_word (length (data_of set)) cipher.rows j i k ≡ stored_word n (length (data_of set)) content.words j i k

-- the ciphers in the places of the inputs have the words of files with these contents
abbrev pub HaveWordsOf : ℕ → WorkspaceValue → List FileContent → Type 0
HaveWordsOf n space contents = (r : ℕ) → r < space.inputs → HasWordsOf n space.set (input_of space r) (slice_index_or contents r no_content)
