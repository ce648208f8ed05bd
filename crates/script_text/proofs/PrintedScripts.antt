-- The lines of a printed script, as lists of words.
use Rattle.std.specs.Prelude.{◌≡◌, ℕ, ◌+◌, ◌<◌, false, true, List, [], ◌∷◌, ◌++◌, length, map, slice_index, slice_index_or, codes, not, ◌||◌, ◌==◌}
use Rattle.std.specs.List.{list_all}
use Rattle.set_table.specs.Sets.{name_of}
use Rattle.script_text.specs.declared.script.Input.{Input}
use Rattle.script_text.specs.declared.script.Step.{Step}
use Rattle.script_text.specs.Scripts.{Script, register_names}
use Rattle.script_text.specs.Keywords.{keyword_text}
use Rattle.line_text.specs.Lines.{Line, is_blank_in_line}
use Rattle.script_text.specs.Printed.{kind_text, keyword_of, first_operand, second_words, plain_names}

unfoldable pub input_words : Input → List (List ℕ)
input_words input = kind_text input.kind ∷ input.name ∷ []

unfoldable pub step_words : List (List ℕ) → List (List ℕ) → Step → List (List ℕ)
step_words registers plains step = step.name ∷ codes "=" ∷ keyword_text (keyword_of step.op) ∷ slice_index_or registers (first_operand step.op) [] ∷ second_words registers plains step.op

-- the lines of a script
unfoldable pub script_lines : Script → List (List (List ℕ))
script_lines script =
    (codes "set" ∷ name_of script.set ∷ [])
    ∷ (map input_words script.inputs
    ++ (map (step_words (register_names script) (plain_names script)) script.steps
    ++ (codes "output" ∷ slice_index_or (register_names script) script.output [] ∷ []) ∷ []))

-- lines with their numbers, from this one on
abbrev pub numbered_words : ℕ → List (List (List ℕ)) → List Line
numbered_words at [] = []
numbered_words at (words ∷ lines) = record { number = at; words = words } ∷ numbered_words (at + 1) lines

-- bytes that make one word of a line
pub record IsWord (word : List ℕ) : Type 0 where
  pub some : 0 < length word
  pub bytes : list_all (λ byte. not (is_blank_in_line byte || (byte == 10))) word ≡ true

-- words that make a line which isn't passed over
pub record IsPlainLine (words : List (List ℕ)) : Type 0 where
  pub some : 0 < length words
  pub each : (i : ℕ) → i < length words → IsWord (slice_index_or words i [])
  pub counts : (slice_index (slice_index_or words 0 []) 0 == 35) ≡ false
