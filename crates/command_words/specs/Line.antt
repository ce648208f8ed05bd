-- The lines that are printed.
use Rattle.std.specs.Prelude.{ℕ, nat_le, Bool, true, false, ◌&&◌, if◌then◌else◌, List, [], ◌++◌, Option, Some, None, codes, unwrap_or, slice_get}
use Rattle.std.specs.Str.{bytes_eq}
use Rattle.bound_num.specs.declared.Bound.{Bound}
use Rattle.command_words.specs.Form.{binding_file}
use Rattle.command_words.specs.Status.{Parts, parts_of, text_and_number, text_and_bound}
use Rattle.command_words.specs.declared.status.Status.{Status}

-- the word of this number
abbrev pub word_at : List (List ℕ) → ℕ → List ℕ
word_at words word = unwrap_or (slice_get words word) []

-- a text, and behind it a number, if there is one
abbrev pub numbered : List ℕ → Option ℕ → List ℕ
numbered text None = text
numbered text (Some number) = text_and_number (text ++ codes " ") number

-- the name of the file that a word names; the words of `run` behind SCRIPT and OUT are bindings
abbrev pub file_name : List (List ℕ) → ℕ → List ℕ
file_name words word = if nat_le 3 word && bytes_eq (word_at words 0) (codes "run") then binding_file (word_at words word) else word_at words word

-- how a word is told: whole behind a space, or by the name of its file behind a colon
abbrev pub told_word : List (List ℕ) → Bool → ℕ → List ℕ
told_word words true word = codes " " ++ word_at words word
told_word words false word = codes ": " ++ file_name words word

-- a text, and behind it the word of this number, if there is one
abbrev pub text_about : List (List ℕ) → List ℕ → Bool → Option ℕ → List ℕ
text_about words text whole None = text
text_about words text whole (Some word) = text ++ told_word words whole word

-- what a status is called with its number, the word that it is about, what else is to be said, and a line feed
abbrev pub line_of_parts : List (List ℕ) → Parts → List ℕ
line_of_parts words parts = text_about words (numbered parts.text parts.number) parts.whole parts.word ++ (parts.detail ++ codes "\n")

-- the line of a status other than Done, which prints nothing
abbrev pub line : List (List ℕ) → Status → List ℕ
line words status = line_of_parts words (parts_of status)

-- the line of a script that is accepted: the bound of its output
abbrev pub accepted_text : Bound → List ℕ
accepted_text bound = text_and_bound (codes "accepted ") bound ++ codes "\n"
