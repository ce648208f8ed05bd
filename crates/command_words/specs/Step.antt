-- The step of a turn, as a word names it.
use Rattle.std.specs.Prelude.{ℕ, ◌^◌, ◌&&◌, nat_lt, ◌==◌, if◌then◌else◌, List, Option, Some, None, codes, decimal}
use Rattle.std.specs.Str.{bytes_eq}
use Rattle.line_text.specs.Names.{written_number}
use Rattle.command_words.specs.declared.step.Step.{Step}
use Rattle.command_words.specs.declared.step.Step.TheVariants.{Left, Swap}

-- the number below 2^64 that a word writes in decimal, without leading zeros
abbrev pub decimal_number : List ℕ → Option ℕ
decimal_number word = if bytes_eq (decimal (written_number word)) word && nat_lt (written_number word) (2 ^ 64) then Some (written_number word) else None

-- the turn by so many places, which are some
abbrev pub left_by : Option ℕ → Option Step
left_by None = None
left_by (Some places) = if places == 0 then None else Some (Left places)

-- the step that a word names: a number of places other than 0, or the exchange of both halves
unfoldable pub step_named : List ℕ → Option Step
step_named word = if bytes_eq word (codes "swap") then Some Swap else left_by (decimal_number word)
