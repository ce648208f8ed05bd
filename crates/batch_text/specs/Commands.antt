-- The grammar of batches: the commands that a text gives, or its first fault. Lines and words are those of scripts.
use Rattle.std.specs.Prelude.{ℕ, Bool, false, ◌||◌, ◌&&◌, not, nat_lt, nat_le, List, [], ◌∷◌, length, map, Option, Some, None, Result, Ok, Err, codes}
use Rattle.std.specs.List.{list_all, find}
use Rattle.std.specs.Str.{bytes_eq}
use Rattle.line_text.specs.Lines.{Line, counted_lines}
use Rattle.script_text.specs.Grammar.{demand}
use Rattle.batch_text.specs.Limits.{max_batch_bytes, max_commands}
use Rattle.script_text.specs.declared.faults.ScriptPlace.{ScriptPlace}
use Rattle.script_text.specs.declared.faults.ScriptPlace.TheVariants.{Syntax, TooLong}

-- a byte that may stand in a word: from 0x21 to 0x7e
abbrev pub is_word_byte : ℕ → Bool
is_word_byte byte = nat_le 33 byte && nat_le byte 126

-- all bytes of the words may stand there
abbrev pub are_plain : List (List ℕ) → Bool
are_plain words = list_all (list_all is_word_byte) words

-- the first word is `batch`
abbrev pub begins_batch : List (List ℕ) → Bool
begins_batch [] = false
begins_batch (command ∷ words) = bytes_eq command (codes "batch")

-- the words may be one of the commands of a batch
abbrev pub is_command : List (List ℕ) → Bool
is_command words = are_plain words && not (begins_batch words)

-- more bytes or commands than a batch has
abbrev pub is_too_long : List ℕ → Bool
is_too_long text = nat_lt max_batch_bytes (length text) || nat_lt max_commands (length (counted_lines text))

-- the first of the lines that is no command
abbrev pub first_bad : List Line → Option Line
first_bad lines = find (λ line. not (is_command line.words)) lines

-- the words of all lines, where none is bad
abbrev pub commands_unless : Option Line → List Line → Result (List (List (List ℕ))) ScriptPlace
commands_unless None lines = Ok (map (λ line. line.words) lines)
commands_unless (Some bad) lines = Err (Syntax bad.number)

-- the commands of a batch, each with its words, or the first fault of the text
abbrev pub commands_of : List ℕ → Result (List (List (List ℕ))) ScriptPlace
commands_of text = demand (not (is_too_long text)) TooLong (commands_unless (first_bad (counted_lines text)) (counted_lines text))
