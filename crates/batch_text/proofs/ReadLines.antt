-- The commands of lines that are read in stretches.
use Rattle.std.proofs.Common.{◌≡◌, ◌<◌, ℕ, List, [], ◌∷◌, ◌++◌, length, drop, get_or, Bool, true, false, not, cond, Option, Some, None, Result, Ok, Err, refl, ap, sym, ◌∙◌, append-nil, append_assoc}
use Rattle.script_text.specs.declared.faults.ScriptPlace.{ScriptPlace}
use Rattle.script_text.specs.declared.faults.ScriptFault.{ScriptFault}
use Rattle.script_text.specs.declared.faults.ScriptFault.TheVariants as fault
use Rattle.script_text.specs.Drafts.{Fails}
use Rattle.line_text.specs.Lines.{Line, counted_from}
use Rattle.line_text.proofs.Turns.{ReadsOn, followed, line_refused}
use Rattle.batch_text.specs.Commands.{is_command, commands_unless, first_bad}
use Rattle.batch_text.specs.Reading.{commands_in, behind}

abbrev Commands : Type 0
Commands = List (List (List ℕ))

-- commands behind no commands
pub behind_none : (read : Result Commands ScriptPlace) → read ≡ behind [] read
behind_none (Ok others) = refl
behind_none (Err place) = refl

-- commands behind commands behind commands
behind-behind : (first second : Commands) (read : Result Commands ScriptPlace) → behind first (behind second read) ≡ behind (first ++ second) read
behind-behind first second (Ok others) = ap Ok (sym (append_assoc first second others))
behind-behind first second (Err place) = refl

-- one line, and then the others
commands_in-cons : (line : Line) (lines : List Line) → commands_in (line ∷ lines) ≡ followed (commands_in (line ∷ [])) (λ first. behind first (commands_in lines))
commands_in-cons line lines = by (is_command line.words) (first_bad lines)
  where
    by : (good : Bool) (bad : Option Line) → commands_unless (cond (not good) (Some line) bad) (line ∷ lines)
        ≡ followed (commands_unless (cond (not good) (Some line) None) (line ∷ [])) (λ first. behind first (commands_unless bad lines))
    by true None = refl
    by true (Some bad) = refl
    by false bad = refl

-- what follows from commands behind others
followed-behind : (seen : Commands) (first next : Result Commands ScriptPlace) → behind seen (followed first (λ f. behind f next)) ≡ followed (behind seen first) (λ f. behind f next)
followed-behind seen (Ok first) next = behind-behind seen first next
followed-behind seen (Err place) next = refl

-- commands, and behind them those of lines
abbrev pub commands_on : Commands → List Line → Result Commands ScriptPlace
commands_on seen lines = behind seen (commands_in lines)

-- one line, and then the others
commands_on-cons : (seen : Commands) (line : Line) (lines : List Line) → commands_on seen (line ∷ lines) ≡ followed (commands_on seen (line ∷ [])) (λ next. commands_on next lines)
commands_on-cons seen line lines = ap (behind seen) (commands_in-cons line lines) ∙ followed-behind seen (commands_in (line ∷ [])) (commands_in lines)

commands_on-append : (seen : Commands) (lines others : List Line) → commands_on seen (lines ++ others) ≡ followed (commands_on seen lines) (λ next. commands_on next others)
commands_on-append seen [] others = ap (λ (s : Commands). commands_on s others) (sym (append-nil seen))
commands_on-append seen (line ∷ lines) others =
    commands_on-cons seen line (lines ++ others) ∙ by (λ next. commands_on-append next lines others) (commands_on seen (line ∷ []))
    ∙ ap (λ (r : Result Commands ScriptPlace). followed r (λ next. commands_on next others)) (sym (commands_on-cons seen line lines))
  where
    by : ((next : Commands) → commands_on next (lines ++ others) ≡ followed (commands_on next lines) (λ next. commands_on next others)) → (r : Result Commands ScriptPlace)
        → followed r (λ next. commands_on next (lines ++ others)) ≡ followed (followed r (λ next. commands_on next lines)) (λ next. commands_on next others)
    by more (Ok next) = more next
    by more (Err place) = refl

pub reads_on : ReadsOn commands_on
reads_on = record { none = λ seen. ap Ok (append-nil seen); append = commands_on-append }

-- a line that failed
pub line_failed : (e : ScriptFault) (all : Result Commands ScriptPlace) (seen : Commands) (at i : ℕ) (line : List ℕ) (pieces : List (List ℕ)) → (i < length pieces) × (line ≡ get_or pieces i line)
    → all ≡ commands_on seen (counted_from at (drop i pieces)) → Fails e (commands_on seen (counted_from at (line ∷ []))) → Fails e all
line_failed fault.Memory all seen at i line pieces turn before failed = tt
line_failed (fault.Bad place) all seen at i line pieces turn before failed = line_refused commands_on reads_on all seen place at i line pieces turn before failed
