-- Scripts that are read and judged with fresh bounds.
use Rattle.std.proofs.Common.{◌≡◌, ℕ, List, refl, sym, subst}
use Rattle.std.specs.Prelude.{Ok, Bool, true, false, ◌&&◌, if◌then◌else◌, nat_lt, is_none, length, Some, None}
use Rattle.outer_io.specs.Store.{StoreState}
use Rattle.set_table.specs.Sets.{special_of}
use Rattle.bound_num.specs.declared.Bound.{Bound}
use Rattle.script_text.specs.Scripts.{Script, needs_of}
use Rattle.noise_check.specs.Verdicts.{verdict_of, fresh_bounds}
use Rattle.command_words.specs.Line.{word_at}
use Rattle.command_words.specs.declared.status.Status.{Status}
use Rattle.command_words.specs.declared.status.Status.TheVariants.{NoSpecial}
use Rattle.command_model.specs.Reading.{Reading, Output, script_file, read_word, refused, unless}
use Rattle.command_model.specs.Plan.{judged_by, judged_fresh}
use Rattle.command_stages.specs.Causes.{OwesNothing}
use Rattle.command_stages.specs.Stages.{Taken, Took, Way}
use Rattle.command_stages.proofs.Verdicts.{judged_by_owes}
use Rattle.command_stages.proofs.Ways.{taken_on}

-- the script was read that the first operand names
pub script_read : {words : List (List ℕ)} {next : Script → Reading} {old now : StoreState} (script : Script) → Way words (read_word words 1 script_file next) old old
    → Took (word_at words 1) 1 script_file (λ said script. script ≡ said) old now (Ok script) → Way words (next script) old now × Taken old.files (word_at words 1) 1 script_file script
script_read {words} {next} {old} {now} script way took =
    let (said, (same, held)) = took.ok in
    let taken = subst (Taken old.files (word_at words 1) 1 script_file) (sym same) held in
    (taken_on script way took.keeps taken, taken)

-- what is said of a script that is refused owes to no file
pub fresh_owes : (script : Script) (output : List Bound → Output) (status : Status) → judged_fresh script output ≡ refused status → OwesNothing status
fresh_owes script output status = of_test (nat_lt 0 (length (needs_of script)) && is_none (special_of script.set))
  where
    of_test : (test : Bool)
        → unless (if test then Some (NoSpecial script.set) else None) (judged_by (verdict_of script (fresh_bounds script)) output) ≡ refused status → OwesNothing status
    of_test true is = let same : NoSpecial script.set ≡ status = cc in subst OwesNothing same (record { none = tt; nameless = refl })
    of_test false is = judged_by_owes (verdict_of script (fresh_bounds script)) output status is
