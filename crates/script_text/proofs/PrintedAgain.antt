-- A printed script is read again.
use Rattle.std.proofs.Common.{◌≡◌, ℕ, ◌+◌, ◌≤◌, Bool, false, ◌||◌, not, List, length, sym, ◌∙◌, ap, subst, arith}
use Rattle.std.specs.Prelude.{Option, None, Result, Ok}
use Rattle.std.specs.List.{count_by}
use Rattle.std.proofs.lemmas.Bool.{le-ltb}
use Rattle.script_text.specs.Limits.{max_script_bytes, max_inputs, max_steps}
use Rattle.script_text.specs.declared.faults.ScriptPlace.{ScriptPlace}
use Rattle.script_text.specs.declared.faults.ScriptPlace.TheVariants.{TooLong}
use Rattle.script_text.specs.Scripts.{Script, IsSound}
use Rattle.line_text.specs.Lines.{Line, counted_lines, lines_of}
use Rattle.script_text.specs.Grammar.{Draft, after_lines, demand, finished, followed, is_input_line, is_step_line, is_too_long, script_of}
use Rattle.script_text.specs.Printed.{printed_script, renumbered}
use Rattle.script_text.proofs.PrintedScripts.{script_lines, numbered_words}
use Rattle.script_text.proofs.PrintedLines.{counted_printed}
use Rattle.script_text.proofs.PrintedDrafts.{after_printed}
use Rattle.script_text.proofs.PrintedSizes.{printed_is_lines, plain_lines, length-script_lines, short_printed}
use Rattle.script_text.proofs.PrintedCounts.{few_inputs, few_steps}

-- the lines of the printed text
pub printed_lines : (script : Script) → IsSound script → counted_lines (printed_script script) ≡ numbered_words 1 (script_lines script)
printed_lines script sound =
    let some = length-script_lines script in
    ap counted_lines (printed_is_lines script) ∙ counted_printed (script_lines script) (plain_lines script sound) (omega (arith, some))

-- three tests of which none holds
pub none_holds : (a b c : Bool) → a ≡ false → b ≡ false → c ≡ false → a || b || c ≡ false
none_holds a b c a_is b_is c_is = rw a_is (rw b_is c_is)

printed_fits : (script : Script) → IsSound script → is_too_long (printed_script script) ≡ false
printed_fits script sound =
    let lines = printed_lines script sound in
    none_holds _ _ _
    (le-ltb max_script_bytes (length (printed_script script)) (short_printed script sound))
    (le-ltb max_inputs _ (subst (λ (l : List Line). count_by (λ line. is_input_line line.words) l ≤ max_inputs) (sym lines) (few_inputs script sound)))
    (le-ltb max_steps _ (subst (λ (l : List Line). count_by (λ line. is_step_line line.words) l ≤ max_steps) (sym lines) (few_steps script sound)))

-- reading the printed text gives the script with the lines of that text
pub read_again : (script : Script) → IsSound script → script_of (printed_script script) ≡ Ok (renumbered script)
read_again script sound =
    ap (λ (long : Bool). demand (not long) TooLong (followed (after_lines None (counted_lines (printed_script script))) (finished missed))) (printed_fits script sound)
    ∙ ap (λ (lines : List Line). followed (after_lines None lines) (finished missed)) (printed_lines script sound)
    ∙ ap (λ (read : Result (Option Draft) ScriptPlace). followed read (finished missed)) (after_printed script sound)
  where
    missed : ℕ
    missed = length (lines_of (printed_script script)) + 1
