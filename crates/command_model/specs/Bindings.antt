-- How bindings give the inputs of a script their files, and what a script is run on.
use Rattle.std.specs.Prelude.{ℕ, ◌+◌, if◌then◌else◌, List, [], ◌∷◌, ◌++◌, length, map, drop, position, slice_index_or, Option, Some, None, is_none, is_some, unwrap_or}
use Rattle.std.specs.Option.{option_map, option_or}
use Rattle.std.specs.Str.{bytes_eq}
use Rattle.set_table.specs.declared.SetName.TheVariants.{One16}
use Rattle.bound_num.specs.declared.Bound.{Bound}
use Rattle.file_model.specs.declared.file_kind.FileKind.TheVariants as kind
use Rattle.file_model.specs.FileText.{FileContent}
use Rattle.script_text.specs.declared.script.Input.{Input}
use Rattle.script_text.specs.declared.script.InputKind.{InputKind}
use Rattle.script_text.specs.declared.script.InputKind.TheVariants.{Cipher}
use Rattle.script_text.specs.Scripts.{Script, cipher_inputs, plain_inputs}
use Rattle.command_words.specs.Form.{binding_name}
use Rattle.command_words.specs.declared.status.BindingFault.{BindingFault}
use Rattle.command_words.specs.declared.status.BindingFault.TheVariants.{Undeclared, Twice, Unbound}

-- ---- names

-- the words of `run` that are bindings: those behind SCRIPT and OUT
abbrev pub bindings_of : List (List ℕ) → List (List ℕ)
bindings_of words = drop 3 words

-- the names that the words of `run` bind, in order
abbrev pub bound_names : List (List ℕ) → List (List ℕ)
bound_names words = map binding_name (bindings_of words)

-- the place of the input of this name among those of a script
abbrev pub input_named : Script → List ℕ → Option ℕ
input_named script name = position (λ input. bytes_eq input.name name) script.inputs

-- the kind of the input at a place
abbrev pub kind_at : Script → Option ℕ → InputKind
kind_at script None = Cipher
kind_at script (Some place) = slice_index_or (map (λ input. input.kind) script.inputs) place Cipher

-- the place of the first of these names that is this one
abbrev pub place_bound : List (List ℕ) → List ℕ → Option ℕ
place_bound names name = position (λ other. bytes_eq other name) names

-- ---- faults

-- what is wrong with the binding of a name behind bindings of these names: no input has it, or it is one of them
abbrev pub binding_fault : Script → List (List ℕ) → List ℕ → Option BindingFault
binding_fault script before name =
    if is_none (input_named script name) then Some (Undeclared (3 + length before))
    else (if is_some (place_bound before name) then Some (Twice (3 + length before)) else None)

-- the first fault of the bindings of names, behind bindings of those before
abbrev pub first_binding_fault : Script → List (List ℕ) → List (List ℕ) → Option BindingFault
first_binding_fault script before [] = None
first_binding_fault script before (name ∷ names) = option_or (binding_fault script before name) (first_binding_fault script (before ++ name ∷ []) names)

-- the first input that has none of these names
abbrev pub unbound_input : Script → List (List ℕ) → Option BindingFault
unbound_input script names = option_map Unbound (position (λ input. is_none (place_bound names input.name)) script.inputs)

-- what is wrong with the bindings of these names to a script: the first fault of a binding, and else the first input that is unbound
abbrev pub fault_of_bindings : Script → List (List ℕ) → Option BindingFault
fault_of_bindings script names = option_or (first_binding_fault script [] names) (unbound_input script names)

-- ---- operands

-- what is bound to an input: the content of a cipher's file, or values
pub data Operand : Type 0 where
  bound_cipher : (content : FileContent) → Operand
  bound_values : (values : List ℕ) → Operand

-- a content that is that of no file
abbrev pub no_content : FileContent
no_content = record { kind = kind.Cipher; set = One16; parts = 0; element = 0; key_id = []; mantissa = 0; exponent = 0; words = [] }

-- the content of a cipher that is bound
abbrev pub content_of : Operand → FileContent
content_of (bound_cipher content) = content
content_of (bound_values values) = no_content

-- the values that are bound
abbrev pub values_in : Operand → List ℕ
values_in (bound_cipher content) = []
values_in (bound_values values) = values

-- the operand that is bound to an input, where the operands are those of the bindings of these names
abbrev pub operand_of : List (List ℕ) → List Operand → Input → Operand
operand_of names operands input = slice_index_or operands (unwrap_or (place_bound names input.name) 0) (bound_values [])

-- the key id of the first cipher among operands
abbrev pub first_key_id : List Operand → List ℕ
first_key_id [] = []
first_key_id (bound_cipher content ∷ operands) = content.key_id
first_key_id (bound_values values ∷ operands) = first_key_id operands

-- ---- runs

-- A run of a script: the contents that are bound to its cipher inputs and the values that are bound to its plain inputs, each in order of
-- declaration, the key id, and the bound on the noise of the output.
pub record Run : Type 0 where
  pub script : Script
  pub ciphers : List FileContent
  pub plains : List (List ℕ)
  pub key_id : List ℕ
  pub bound : Bound

-- the contents that are bound to the cipher inputs of a script
abbrev pub ciphers_of : Script → List (List ℕ) → List Operand → List FileContent
ciphers_of script names operands = map (λ input. content_of (operand_of names operands input)) (cipher_inputs script.inputs)

-- the values that are bound to the plain inputs of a script
abbrev pub plains_of : Script → List (List ℕ) → List Operand → List (List ℕ)
plains_of script names operands = map (λ input. values_in (operand_of names operands input)) (plain_inputs script.inputs)
