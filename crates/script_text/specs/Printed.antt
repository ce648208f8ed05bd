-- The text of a script.
use Rattle.std.specs.Prelude.{ℕ, ◌+◌, List, length, [], ◌∷◌, ◌++◌, map, slice_index_or, codes, decimal}
use Rattle.std.specs.List.{flat_map}
use Rattle.set_table.specs.Sets.{name_of}
use Rattle.script_text.specs.declared.keyword.Keyword.{Keyword}
use Rattle.script_text.specs.declared.keyword.Keyword.TheVariants as keyword
use Rattle.script_text.specs.declared.script.InputKind.{InputKind}
use Rattle.script_text.specs.declared.script.InputKind.TheVariants.{Cipher, Plain}
use Rattle.script_text.specs.declared.script.Op.{Op}
use Rattle.script_text.specs.declared.script.Op.TheVariants.{Add, Sub, Neg, AddPlain, SubPlain, MulPlain, MulConst, Mul, Relin, Turn, Swap}
use Rattle.script_text.specs.declared.script.Input.{Input}
use Rattle.script_text.specs.declared.script.Step.{Step}
use Rattle.script_text.specs.Keywords.{keyword_text}
use Rattle.script_text.specs.Scripts.{Script, plain_inputs, register_names}

-- a line: its words with one space between each two, and a line feed
abbrev pub printed_line : List (List ℕ) → List ℕ
printed_line [] = 10 ∷ []
printed_line (word ∷ words) = word ++ flat_map (λ other. 32 ∷ other) words ++ 10 ∷ []

abbrev pub kind_text : InputKind → List ℕ
kind_text Cipher = codes "cipher"
kind_text Plain = codes "plain"

-- the keyword of an operation, its first operand and the words of its second, by the names of the registers and of the plain inputs
abbrev pub keyword_of : Op → Keyword
keyword_of (Add a b) = keyword.Add
keyword_of (Sub a b) = keyword.Sub
keyword_of (Neg a) = keyword.Neg
keyword_of (AddPlain a p) = keyword.AddPlain
keyword_of (SubPlain a p) = keyword.SubPlain
keyword_of (MulPlain a p) = keyword.MulPlain
keyword_of (MulConst a k) = keyword.MulConst
keyword_of (Mul a b) = keyword.Mul
keyword_of (Relin a) = keyword.Relin
keyword_of (Turn a k) = keyword.Turn
keyword_of (Swap a) = keyword.Swap

abbrev pub first_operand : Op → ℕ
first_operand (Add a b) = a
first_operand (Sub a b) = a
first_operand (Neg a) = a
first_operand (AddPlain a p) = a
first_operand (SubPlain a p) = a
first_operand (MulPlain a p) = a
first_operand (MulConst a k) = a
first_operand (Mul a b) = a
first_operand (Relin a) = a
first_operand (Turn a k) = a
first_operand (Swap a) = a

abbrev pub second_words : List (List ℕ) → List (List ℕ) → Op → List (List ℕ)
second_words registers plains (Add a b) = slice_index_or registers b [] ∷ []
second_words registers plains (Sub a b) = slice_index_or registers b [] ∷ []
second_words registers plains (Neg a) = []
second_words registers plains (AddPlain a p) = slice_index_or plains p [] ∷ []
second_words registers plains (SubPlain a p) = slice_index_or plains p [] ∷ []
second_words registers plains (MulPlain a p) = slice_index_or plains p [] ∷ []
second_words registers plains (MulConst a k) = decimal k ∷ []
second_words registers plains (Mul a b) = slice_index_or registers b [] ∷ []
second_words registers plains (Relin a) = []
second_words registers plains (Turn a k) = decimal k ∷ []
second_words registers plains (Swap a) = []

abbrev pub plain_names : Script → List (List ℕ)
plain_names script = map (λ input. input.name) (plain_inputs script.inputs)

abbrev pub printed_input : Input → List ℕ
printed_input input = printed_line (kind_text input.kind ∷ input.name ∷ [])

unfoldable pub printed_step : List (List ℕ) → List (List ℕ) → Step → List ℕ
printed_step registers plains step =
    printed_line (step.name ∷ codes "=" ∷ keyword_text (keyword_of step.op) ∷ slice_index_or registers (first_operand step.op) [] ∷ second_words registers plains step.op)

-- the text of a script: a line for the set, each input, each step and the output
abbrev pub printed_script : Script → List ℕ
printed_script script =
    printed_line (codes "set" ∷ name_of script.set ∷ [])
    ++ flat_map printed_input script.inputs
    ++ flat_map (printed_step (register_names script) (plain_names script)) script.steps
    ++ printed_line (codes "output" ∷ slice_index_or (register_names script) script.output [] ∷ [])

-- inputs with the lines from this one on
abbrev pub inputs_from : ℕ → List Input → List Input
inputs_from line [] = []
inputs_from line (input ∷ inputs) = record input { line = line } ∷ inputs_from (line + 1) inputs

-- steps with the lines from this one on
abbrev pub steps_from : ℕ → List Step → List Step
steps_from line [] = []
steps_from line (step ∷ steps) = record step { line = line } ∷ steps_from (line + 1) steps

-- the script with the lines of its printed text: behind that of the set stand those of the inputs and then those of the steps
abbrev pub renumbered : Script → Script
renumbered script = record script {
  inputs = inputs_from 2 script.inputs;
  steps = steps_from (2 + length script.inputs) script.steps;
}
