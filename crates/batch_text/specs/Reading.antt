-- The commands that the code has read so far, as those of the grammar.
use Rattle.std.specs.Prelude.{ℕ, List, ◌++◌, map, String, Vec, Result, Ok, Err}
use Rattle.std.specs.String.{string_bytes}
use Rattle.std.specs.declared.alloc.Global.{Global}
use Rattle.line_text.specs.Lines.{Line}
use Rattle.script_text.specs.declared.faults.ScriptPlace.{ScriptPlace}
use Rattle.batch_text.specs.Commands.{commands_unless, first_bad}

-- the words of commands as lists of bytes
abbrev pub texts : List (Vec (String Global) Global) → List (List (List ℕ))
texts commands = map (λ words. map string_bytes words.items) commands

-- the commands of lines, or their first fault
abbrev pub commands_in : List Line → Result (List (List (List ℕ))) ScriptPlace
commands_in lines = commands_unless (first_bad lines) lines

-- commands, and behind them those that are read
abbrev pub behind : List (List (List ℕ)) → Result (List (List (List ℕ))) ScriptPlace → Result (List (List (List ℕ))) ScriptPlace
behind commands (Ok others) = Ok (commands ++ others)
behind commands (Err place) = Err place
