-- The file that `report` writes stands for what the plain machine makes of a script.
use Rattle.std.proofs.Common.{◌≡◌, ℕ, List, refl, sym, ◌∙◌, ap, subst}
use Rattle.std.specs.Prelude.{Bool, true, false, ◌&&◌, if◌then◌else◌, nat_lt, is_none, length, Option, Some, None, option_and_then, Result, Ok, Err}
use Rattle.std.specs.Result.{result_ok}
use Rattle.outer_io.specs.Store.{Files, file}
use Rattle.set_table.specs.Sets.{special_of}
use Rattle.bound_num.specs.declared.Bound.{Bound}
use Rattle.script_text.specs.declared.faults.ScriptPlace.{ScriptPlace}
use Rattle.script_text.specs.Grammar.{script_of}
use Rattle.script_text.specs.Scripts.{Script, needs_of}
use Rattle.noise_check.specs.declared.verdict.Verdict.{Verdict}
use Rattle.noise_check.specs.declared.verdict.Verdict.TheVariants.{Accepted, TooNoisy}
use Rattle.noise_check.specs.Verdicts.{verdict_of, fresh_bounds}
use Rattle.command_words.specs.Line.{word_at}
use Rattle.command_words.specs.declared.status.Status.TheVariants.{BadScript, NoSpecial}
use Rattle.command_model.specs.Reading.{script_file, taken, or_refused, done, unless, reporting}
use Rattle.command_model.specs.Report.{report_text}
use Rattle.command_model.specs.Plan.{judged_by, judged_fresh}
use Rattle.command_model.specs.Plain.{Item, text, State, Stands, IsItem, report_by, reported}
use Rattle.command_model.proofs.Standing.{text_at}

-- what is reported on is a script in a text
record Reported (source : Option Item) (item : Item) : Type 0 where
  bytes : List ℕ
  script : Script
  source_is : source ≡ Some (text bytes)
  script_is : script_of bytes ≡ Ok script
  item_is : report_by script (verdict_of script (fresh_bounds script)) ≡ Some item

reported_is : (source : Option Item) (item : Item) → reported source ≡ Some item → Reported source item
reported_is (Some (text bytes)) item is = of_script (script_of bytes) refl is
  where
    of_script : (read : Result Script ScriptPlace) → script_of bytes ≡ read
        → option_and_then (λ script. report_by script (verdict_of script (fresh_bounds script))) (result_ok read) ≡ Some item → Reported (Some (text bytes)) item
    of_script (Ok script) script_is is = record { bytes = bytes; script = script; source_is = refl; script_is = script_is; item_is = is }
    of_script (Err place) script_is is = absurd (cc)
reported_is _ item is = absurd (cc)

-- the report on a script that is judged with fresh bounds has those bounds
report_is : (script : Script) (bounds : List Bound) (item : Item) → judged_fresh script (reporting script) ≡ done (reporting script bounds)
    → report_by script (verdict_of script (fresh_bounds script)) ≡ Some item → item ≡ text (report_text script bounds)
report_is script bounds item = of_test (nat_lt 0 (length (needs_of script)) && is_none (special_of script.set)) (verdict_of script (fresh_bounds script))
  where
    of_test : (test : Bool) (verdict : Verdict)
        → unless (if test then Some (NoSpecial script.set) else None) (judged_by verdict (reporting script)) ≡ done (reporting script bounds)
        → report_by script verdict ≡ Some item → item ≡ text (report_text script bounds)
    of_test false (Accepted listed) judged made =
        let same : listed ≡ bounds = cc in
        let item_is : item ≡ text (report_text script listed) = cc in
        item_is ∙ ap (λ (b : List Bound). text (report_text script b)) same
    of_test false (TooNoisy line bound limit) judged made = absurd (cc)
    of_test true verdict judged made = absurd (cc)

pub item_reported : (words : List (List ℕ)) (files : Files) (state : State) (script : Script) (bounds : List Bound) (bytes : List ℕ) (item : Item) → Stands files state
    → taken script_file 1 (file files (word_at words 1)) ≡ Ok script → judged_fresh script (reporting script) ≡ done (reporting script bounds)
    → bytes ≡ report_text script bounds → reported (state (word_at words 1)) ≡ Some item → IsItem item bytes
item_reported words files state script bounds bytes item stands is judged made item_made =
    let r = reported_is (state (word_at words 1)) item item_made in
    let both : Ok script ≡ Ok r.script =
    sym is ∙ ap (taken script_file 1) (text_at files state (word_at words 1) r.bytes stands r.source_is) ∙ ap (or_refused BadScript) r.script_is in
    let same : r.script ≡ script = cc in
    let of_script = subst (λ (s : Script). report_by s (verdict_of s (fresh_bounds s)) ≡ Some item) same r.item_is in
    subst (λ (i : Item). IsItem i bytes) (sym (report_is script bounds item judged of_script)) made
