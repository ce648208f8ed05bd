-- The drafts of lines that are read in stretches.
use Rattle.std.proofs.Common.{◌≡◌, ◌<◌, ℕ, List, [], ◌∷◌, ◌++◌, length, drop, get_or, Option, Some, Result, Ok, Err, refl}
use Rattle.line_text.specs.Lines.{Line, counted_from}
use Rattle.line_text.proofs.Turns.{ReadsOn, followed, line_refused}
use Rattle.script_text.specs.declared.faults.ScriptPlace.{ScriptPlace}
use Rattle.script_text.specs.declared.faults.ScriptFault.{ScriptFault}
use Rattle.script_text.specs.declared.faults.ScriptFault.TheVariants as fault
use Rattle.script_text.specs.Drafts.{Fails}
use Rattle.script_text.specs.Grammar as grammar
use Rattle.script_text.specs.Grammar.{Draft, after_line, after_lines}

pub after_lines-append : (draft : Option Draft) (lines others : List Line) → after_lines draft (lines ++ others) ≡ followed (after_lines draft lines) (λ next. after_lines next others)
after_lines-append draft [] others = refl
after_lines-append draft (line ∷ lines) others = by (λ next. after_lines-append (Some next) lines others) (after_line draft line)
  where
    by : ((next : Draft) → after_lines (Some next) (lines ++ others) ≡ followed (after_lines (Some next) lines) (λ next. after_lines next others)) → (r : Result Draft ScriptPlace)
        → grammar.followed r (λ next. after_lines (Some next) (lines ++ others)) ≡ followed (grammar.followed r (λ next. after_lines (Some next) lines)) (λ next. after_lines next others)
    by more (Ok next) = more next
    by more (Err place) = refl

pub drafts_on : ReadsOn after_lines
drafts_on = record { none = λ draft. refl; append = after_lines-append }

-- a line that failed
pub line_failed : (e : ScriptFault) (all : Result (Option Draft) ScriptPlace) (draft : Option Draft) (at i : ℕ) (line : List ℕ) (pieces : List (List ℕ)) → (i < length pieces) × (line ≡ get_or pieces i line)
    → all ≡ after_lines draft (counted_from at (drop i pieces)) → Fails e (after_lines draft (counted_from at (line ∷ []))) → Fails e all
line_failed fault.Memory all draft at i line pieces turn before failed = tt
line_failed (fault.Bad place) all draft at i line pieces turn before failed = line_refused after_lines drafts_on all draft place at i line pieces turn before failed
