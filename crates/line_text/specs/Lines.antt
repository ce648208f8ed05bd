-- The lines of a text and their words.
use Rattle.std.specs.Prelude.{ℕ, ◌+◌, ◌-◌, take, Bool, true, ◌||◌, not, nat_lt, ◌==◌, if◌then◌else◌, List, [], ◌∷◌, length, filter, slice_index}
use Rattle.std.specs.List.{slice_split}

-- space, tab and carriage return
abbrev pub is_blank_in_line : ℕ → Bool
is_blank_in_line byte = (byte == 32) || (byte == 9) || (byte == 13)

-- the words of a line: what stands between blanks
abbrev pub words_of : List ℕ → List (List ℕ)
words_of line = filter (λ word. nat_lt 0 (length word)) (slice_split is_blank_in_line line)

-- a text without a line feed at its end
abbrev pub without_end : List ℕ → List ℕ
without_end text = if slice_index text (length text - 1) == 10 then take (length text - 1) text else text

-- the lines of a text end at line feeds; the last may lack it
abbrev pub lines_of : List ℕ → List (List ℕ)
lines_of text = if length text == 0 then [] else slice_split (λ byte. byte == 10) (without_end text)

-- a line's number in the text and its words
pub record Line : Type 0 where
  pub number : ℕ
  pub words : List (List ℕ)

-- lines with their numbers, from this one on
abbrev pub numbered : ℕ → List (List ℕ) → List Line
numbered number [] = []
numbered number (line ∷ lines) = record { number = number; words = words_of line } ∷ numbered (number + 1) lines

-- a line without words or whose first word begins with `#` is passed over
abbrev pub is_passed_over : List (List ℕ) → Bool
is_passed_over [] = true
is_passed_over (word ∷ words) = slice_index word 0 == 35

-- the lines that aren't passed over, with their numbers from this one on
abbrev pub counted_from : ℕ → List (List ℕ) → List Line
counted_from number lines = filter (λ line. not (is_passed_over line.words)) (numbered number lines)

-- the lines of a text that aren't passed over
abbrev pub counted_lines : List ℕ → List Line
counted_lines text = counted_from 1 (lines_of text)
