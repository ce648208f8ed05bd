-- A text with the words of a sound script's print is read as that script, but for its lines.
use Rattle.std.proofs.Common.{◌≡◌, ◌≤◌, ℕ, ◌+◌, List, [], ◌∷◌, length, map, Bool, false, not, cond, Option, Some, None, Result, Ok, Err, refl, sym, ap, ap₂, ◌∙◌, subst}
use Rattle.std.specs.List.{count_by}
use Rattle.std.proofs.lemmas.Bool.{le-ltb}
use Rattle.std.proofs.lemmas.List.{length-map}
use Rattle.std.proofs.lemmas.List.Sums.{sum_by-cons}
use Rattle.set_table.specs.declared.SetName.{SetName}
use Rattle.line_text.specs.Lines.{Line, counted_lines, lines_of}
use Rattle.script_text.specs.Limits.{max_script_bytes, max_inputs, max_steps}
use Rattle.script_text.specs.declared.faults.ScriptPlace.{ScriptPlace}
use Rattle.script_text.specs.declared.faults.ScriptPlace.TheVariants.{TooLong}
use Rattle.script_text.specs.declared.script.Input.{Input}
use Rattle.script_text.specs.declared.script.Step.{Step}
use Rattle.script_text.specs.Scripts.{Script, IsSound}
use Rattle.script_text.specs.Grammar.{Draft, after_lines, demand, finished, followed, is_input_line, is_step_line, is_too_long, script_of}
use Rattle.script_text.specs.Printed.{printed_script, inputs_from, steps_from, renumbered}
use Rattle.script_text.specs.Counted.{words_in}
use Rattle.script_text.proofs.PrintedAgain.{printed_lines, none_holds}
use Rattle.script_text.proofs.PrintedCounts.{few_inputs, few_steps}
use Rattle.script_text.proofs.Unnumbered.{bare, bare_input, bare_step, bare_line, bared_all, lines_bared}
use Rattle.script_text.proofs.ReadFaults.{bare_by_words, printed_ok}

-- ---- a text that isn't too long

count_words : (test : List (List ℕ) → Bool) (lines : List Line) → count_by (λ line. test line.words) lines ≡ count_by test (map (λ (line : Line). line.words) lines)
count_words test [] = refl
count_words test (line ∷ lines) =
    sum_by-cons (λ (l : Line). cond (test l.words) 1 0) line lines
    ∙ ap (λ (n : ℕ). cond (test line.words) 1 0 + n) (count_words test lines)
    ∙ sym (sum_by-cons (λ (words : List (List ℕ)). cond (test words) 1 0) line.words (map (λ (l : Line). l.words) lines))

-- as many lines are counted in two texts with the same words
same_count : (test : List (List ℕ) → Bool) (text other : List ℕ) → words_in text ≡ words_in other → count_by (λ line. test line.words) (counted_lines other) ≡ count_by (λ line. test line.words) (counted_lines text)
same_count test text other same = count_words test (counted_lines other) ∙ ap (count_by test) (sym same) ∙ sym (count_words test (counted_lines text))

short_enough : (text : List ℕ) (script : Script) → IsSound script → length text ≤ max_script_bytes → words_in text ≡ words_in (printed_script script) → is_too_long text ≡ false
short_enough text script sound short same =
    let lines = printed_lines script sound in
    let inputs = subst (λ (l : List Line). count_by (λ line. is_input_line line.words) l ≤ max_inputs) (sym lines) (few_inputs script sound) in
    let steps = subst (λ (l : List Line). count_by (λ line. is_step_line line.words) l ≤ max_steps) (sym lines) (few_steps script sound) in
    none_holds _ _ _ (le-ltb max_script_bytes (length text) short)
    (le-ltb max_inputs _ (subst (λ (n : ℕ). n ≤ max_inputs) (same_count is_input_line text (printed_script script) same) inputs))
    (le-ltb max_steps _ (subst (λ (n : ℕ). n ≤ max_steps) (same_count is_step_line text (printed_script script) same) steps))

-- ---- inputs and steps that differ in their lines alone

inputs_bare : (at : ℕ) (inputs : List Input) → inputs_from at (map bare_input inputs) ≡ inputs_from at inputs
inputs_bare at [] = refl
inputs_bare at (input ∷ inputs) = ap (λ (is : List Input). record input { line = at } ∷ is) (inputs_bare (at + 1) inputs)

steps_bare : (at : ℕ) (steps : List Step) → steps_from at (map bare_step steps) ≡ steps_from at steps
steps_bare at [] = refl
steps_bare at (step ∷ steps) = ap (λ (ss : List Step). record step { line = at } ∷ ss) (steps_bare (at + 1) steps)

inputs_again : (from : ℕ) (inputs : List Input) → map bare_input (inputs_from from inputs) ≡ map bare_input inputs
inputs_again from [] = refl
inputs_again from (input ∷ inputs) = ap (λ (is : List Input). bare_input input ∷ is) (inputs_again (from + 1) inputs)

steps_again : (from : ℕ) (steps : List Step) → map bare_step (steps_from from steps) ≡ map bare_step steps
steps_again from [] = refl
steps_again from (step ∷ steps) = ap (λ (ss : List Step). bare_step step ∷ ss) (steps_again (from + 1) steps)

-- scripts of the same set, inputs, steps and output, but for their lines
same_script : (draft : Draft) (script : Script) → bare draft ≡ bare (record { set = script.set; inputs = (renumbered script).inputs; steps = (renumbered script).steps; output = Some script.output })
    → renumbered (record { set = draft.set; inputs = draft.inputs; steps = draft.steps; output = script.output }) ≡ renumbered script
same_script draft script same =
    let inputs : map bare_input draft.inputs ≡ map bare_input script.inputs = ap (λ (d : Draft). d.inputs) same ∙ inputs_again 2 script.inputs in
    let steps : map bare_step draft.steps ≡ map bare_step script.steps = ap (λ (d : Draft). d.steps) same ∙ steps_again (2 + length script.inputs) script.steps in
    let count : length draft.inputs ≡ length script.inputs = sym (length-map draft.inputs bare_input) ∙ ap length inputs ∙ length-map script.inputs bare_input in
    let inputs_same : inputs_from 2 draft.inputs ≡ inputs_from 2 script.inputs = sym (inputs_bare 2 draft.inputs) ∙ ap (inputs_from 2) inputs ∙ inputs_bare 2 script.inputs in
    let steps_same : (at : ℕ) → steps_from at draft.steps ≡ steps_from at script.steps = λ at. sym (steps_bare at draft.steps) ∙ ap (steps_from at) steps ∙ steps_bare at script.steps in
    ap (λ (set : SetName). let s : Script = record { set = set; inputs = inputs_from 2 draft.inputs; steps = steps_from (2 + length draft.inputs) draft.steps; output = script.output } in s) (ap (λ (d : Draft). d.set) same)
    ∙ ap₂ (λ (is : List Input) (n : ℕ). let s : Script = record { set = script.set; inputs = is; steps = steps_from (2 + n) draft.steps; output = script.output } in s) inputs_same count
    ∙ ap (λ (ss : List Step). let s : Script = record { set = script.set; inputs = inputs_from 2 script.inputs; steps = ss; output = script.output } in s) (steps_same (2 + length script.inputs))

-- ---- the text as a whole

pub read_by_words : (text : List ℕ) (script : Script) → IsSound script → length text ≤ max_script_bytes → words_in text ≡ words_in (printed_script script)
    → (read : Script) × (script_of text ≡ Ok read) × (renumbered read ≡ renumbered script)
read_by_words text script sound short same =
    let lines : map bare_line (counted_lines text) ≡ map bare_line (counted_lines (printed_script script)) =
    bare_by_words (counted_lines text) ∙ ap (λ (ls : List (List (List ℕ))). map (λ words. let l : Line = record { number = 0; words = words } in l) ls) same ∙ sym (bare_by_words (counted_lines (printed_script script))) in
    let bared_same : bared_all (after_lines None (counted_lines text)) ≡ bared_all (after_lines None (counted_lines (printed_script script))) =
    lines_bared None (counted_lines text) ∙ ap (after_lines None) lines ∙ sym (lines_bared None (counted_lines (printed_script script))) in
    by (after_lines None (counted_lines text)) refl (bared_same ∙ ap bared_all (printed_ok script sound))
  where
    by : (r : Result (Option Draft) ScriptPlace) → after_lines None (counted_lines text) ≡ r
        → bared_all r ≡ Ok (Some (bare (record { set = script.set; inputs = (renumbered script).inputs; steps = (renumbered script).steps; output = Some script.output })))
        → (read : Script) × (script_of text ≡ Ok read) × (renumbered read ≡ renumbered script)
    by (Err place) is bared_is = absurd cc
    by (Ok None) is bared_is = absurd cc
    by (Ok (Some draft)) is bared_is =
        let drafts : bare draft ≡ bare (record { set = script.set; inputs = (renumbered script).inputs; steps = (renumbered script).steps; output = Some script.output }) = cc in
        let output : draft.output ≡ Some script.output = ap (λ (d : Draft). d.output) drafts in
        let long = short_enough text script sound short same in
        let missed : ℕ = length (lines_of text) + 1 in (
          record { set = draft.set; inputs = draft.inputs; steps = draft.steps; output = script.output },
          ap (λ (b : Bool). demand (not b) TooLong (followed (after_lines None (counted_lines text)) (finished missed))) long
              ∙ ap (λ (r : Result (Option Draft) ScriptPlace). followed r (finished missed)) is
              ∙ ap (λ (o : Option ℕ). finished missed (Some (record draft { output = o }))) output,
          same_script draft script drafts,
        )
