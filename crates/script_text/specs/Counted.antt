-- What a text says, as a reader sees it: the words of its lines that aren't passed over, and the numbers of these lines.
use Rattle.std.specs.Prelude.{◌≡◌, ℕ, List, ◌++◌, map, take}
use Rattle.line_text.specs.Lines.{lines_of, counted_from, counted_lines}
use Rattle.script_text.specs.declared.faults.ScriptPlace.{ScriptPlace}
use Rattle.script_text.specs.declared.faults.ScriptPlace.TheVariants.{Syntax, Name, Shape, TooLong}
use Rattle.script_text.specs.Scripts.{Script}

-- the words of each line that isn't passed over
abbrev pub words_in : List ℕ → List (List (List ℕ))
words_in text = map (λ line. line.words) (counted_lines text)

-- the same of the first n lines alone
abbrev pub words_until : ℕ → List ℕ → List (List (List ℕ))
words_until n text = map (λ line. line.words) (counted_from 1 (take n (lines_of text)))

-- the numbers of the lines that aren't passed over
abbrev pub numbers_in : List ℕ → List ℕ
numbers_in text = map (λ line. line.number) (counted_lines text)

-- the lines that a script keeps: those of its inputs and then those of its steps
abbrev pub kept_lines : Script → List ℕ
kept_lines script = map (λ input. input.line) script.inputs ++ map (λ step. step.line) script.steps

-- the fault is in line n
abbrev pub IsInLine : ℕ → ScriptPlace → Type 0
IsInLine n (Syntax line) = line ≡ n
IsInLine n (Name line) = line ≡ n
IsInLine n (Shape line) = line ≡ n
IsInLine n TooLong = ⊥
