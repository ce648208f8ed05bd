-- The words of a text that is read as a script are those of the script's print.
use Rattle.std.proofs.Common.{◌≡◌, ℕ, ◌+◌, List, [], ◌∷◌, ◌++◌, length, map, get_or, Bool, true, false, not, Option, Some, None, Ok, codes, refl, sym, ap, ap₂, ◌∙◌, subst}
use Rattle.std.proofs.lemmas.List.{map-append, append_assoc}
use Rattle.set_table.specs.Sets.{name_of}
use Rattle.line_text.specs.Lines.{Line, counted_lines, lines_of}
use Rattle.script_text.specs.declared.faults.ScriptPlace.TheVariants.{TooLong}
use Rattle.script_text.specs.declared.script.Input.{Input}
use Rattle.script_text.specs.declared.script.Step.{Step}
use Rattle.script_text.specs.Scripts.{Script, IsSound, register_names}
use Rattle.script_text.specs.Grammar.{Draft, after_lines, is_too_long, followed, finished, script_of}
use Rattle.script_text.specs.Printed.{printed_script, plain_names}
use Rattle.script_text.specs.Counted.{words_in, numbers_in, kept_lines}
use Rattle.script_text.proofs.Inversion.{demand_ok, demand_some_ok, followed_ok}
use Rattle.script_text.proofs.Sound.{draft_sound}
use Rattle.script_text.proofs.PrintedScripts.{input_words, step_words, script_lines, numbered_words}
use Rattle.script_text.proofs.PrintedAgain.{printed_lines}
use Rattle.script_text.proofs.ReadLists.{draft_lines, step_line_of, input_line_of}
use Rattle.script_text.proofs.ReadDrafts.{all_read}

-- ---- the words and the numbers of lines

inputs_map : {A : Type 0} (of : Line → A) (by_input : Input → A) (inputs : List Input) → ((input : Input) → of (input_line_of input) ≡ by_input input) → map of (map input_line_of inputs) ≡ map by_input inputs
inputs_map of by_input [] each = refl
inputs_map of by_input (input ∷ inputs) each = ap₂ (λ (x : _) (xs : List _). x ∷ xs) (each input) (inputs_map of by_input inputs each)

steps_map : {A : Type 0} (of : Line → A) (by_step : Step → A) (registers plains : List (List ℕ)) (steps : List Step) → ((step : Step) → of (step_line_of registers plains step) ≡ by_step step)
    → map of (map (step_line_of registers plains) steps) ≡ map by_step steps
steps_map of by_step registers plains [] each = refl
steps_map of by_step registers plains (step ∷ steps) each = ap₂ (λ (x : _) (xs : List _). x ∷ xs) (each step) (steps_map of by_step registers plains steps each)

-- what is told of lines in four parts
parts_map : {A : Type 0} (of : Line → A) (set : Line) (inputs steps : List Line) (output : Line) → map of (set ∷ (inputs ++ (steps ++ output ∷ []))) ≡ of set ∷ (map of inputs ++ (map of steps ++ of output ∷ []))
parts_map {A} of set inputs steps output =
    ap (λ (xs : List A). of set ∷ xs) (map-append of inputs (steps ++ output ∷ []) ∙ ap (λ (xs : List A). map of inputs ++ xs) (map-append of steps (output ∷ [])))

-- the draft of a script
abbrev draft_of : Script → Draft
draft_of script = record { set = script.set; inputs = script.inputs; steps = script.steps; output = Some script.output }

-- the words of its lines are those of the script
draft_words : (first end : ℕ) (script : Script) → map (λ (line : Line). line.words) (draft_lines first end (draft_of script)) ≡ script_lines script
unfolding draft_lines script_lines
draft_words first end script =
    let registers : List (List ℕ) = register_names script in
    let plains : List (List ℕ) = plain_names script in
    let set : Line = record { number = first; words = codes "set" ∷ name_of script.set ∷ [] } in
    let output : Line = record { number = end; words = codes "output" ∷ get_or registers script.output [] ∷ [] } in
    parts_map (λ (line : Line). line.words) set (map input_line_of script.inputs) (map (step_line_of registers plains) script.steps) output
    ∙ ap₂ (λ (inputs steps : List (List (List ℕ))). set.words ∷ (inputs ++ (steps ++ output.words ∷ [])))
    (inputs_map (λ (line : Line). line.words) input_words script.inputs (λ input. refl))
    (steps_map (λ (line : Line). line.words) (step_words registers plains) registers plains script.steps (λ step. refl))

-- the numbers of its lines are those that the script keeps, between two more
draft_numbers : (first end : ℕ) (script : Script) → map (λ (line : Line). line.number) (draft_lines first end (draft_of script)) ≡ first ∷ kept_lines script ++ end ∷ []
unfolding draft_lines
draft_numbers first end script =
    let registers : List (List ℕ) = register_names script in
    let plains : List (List ℕ) = plain_names script in
    let set : Line = record { number = first; words = codes "set" ∷ name_of script.set ∷ [] } in
    let output : Line = record { number = end; words = codes "output" ∷ get_or registers script.output [] ∷ [] } in
    let inputs : List ℕ = map (λ (input : Input). input.line) script.inputs in
    let steps : List ℕ = map (λ (step : Step). step.line) script.steps in
    parts_map (λ (line : Line). line.number) set (map input_line_of script.inputs) (map (step_line_of registers plains) script.steps) output
    ∙ ap₂ (λ (is ss : List ℕ). first ∷ (is ++ (ss ++ end ∷ [])))
    (inputs_map (λ (line : Line). line.number) (λ (input : Input). input.line) script.inputs (λ input. refl))
    (steps_map (λ (line : Line). line.number) (λ (step : Step). step.line) registers plains script.steps (λ step. refl))
    ∙ ap (λ (numbers : List ℕ). first ∷ numbers) (sym (append_assoc inputs steps (end ∷ [])))

-- the words of numbered lines
pub words_numbered : (at : ℕ) (lines : List (List (List ℕ))) → map (λ (line : Line). line.words) (numbered_words at lines) ≡ lines
words_numbered at [] = refl
words_numbered at (words ∷ lines) = ap (λ (rest : List (List (List ℕ))). words ∷ rest) (words_numbered (at + 1) lines)

-- the words of a print
pub words_printed : (script : Script) → IsSound script → words_in (printed_script script) ≡ script_lines script
words_printed script sound = ap (λ (lines : List Line). map (λ (line : Line). line.words) lines) (printed_lines script sound) ∙ words_numbered 1 (script_lines script)

-- ---- a text that is read

-- its lines are those of the script
lines_of_script : (text : List ℕ) (script : Script) → script_of text ≡ Ok script → IsSound script × ((first end : ℕ) × (counted_lines text ≡ draft_lines first end (draft_of script)))
lines_of_script text script given =
    let short = demand_ok (not (is_too_long text)) TooLong (followed (after_lines None (counted_lines text)) (finished (length (lines_of text) + 1))) script given in
    let read = followed_ok (after_lines None (counted_lines text)) (finished (length (lines_of text) + 1)) script short.1 in
    by read.0 (unlong (is_too_long text) short.0) read.1 read.2
  where
    unlong : (long : Bool) → not long ≡ true → long ≡ false
    unlong false is = refl
    unlong true is = absurd cc

    by : (end : Option Draft) → is_too_long text ≡ false → after_lines None (counted_lines text) ≡ Ok end → finished (length (lines_of text) + 1) end ≡ Ok script
        → IsSound script × ((first last : ℕ) × (counted_lines text ≡ draft_lines first last (draft_of script)))
    by None short read ends = absurd cc
    by (Some draft) short read ends =
        let output = demand_some_ok draft.output _ _ script ends in
        let made : Script = record { set = draft.set; inputs = draft.inputs; steps = draft.steps; output = output.0 } in
        let same : made ≡ script = cc in
        let drafted : draft ≡ draft_of made = ap (λ (o : Option ℕ). let d : Draft = record draft { output = o } in d) output.1 in
        let all = all_read (counted_lines text) draft read in
        subst (λ (s : Script). IsSound s × ((first last : ℕ) × (counted_lines text ≡ draft_lines first last (draft_of s)))) same
        (draft_sound text draft output.0 short read output.1, (all.0, all.1, all.2 ∙ ap (draft_lines all.0 all.1) drafted))

pub words_read : (text : List ℕ) (script : Script) → script_of text ≡ Ok script → words_in text ≡ words_in (printed_script script)
words_read text script given =
    let lines = lines_of_script text script given in
    ap (λ (ls : List Line). map (λ (line : Line). line.words) ls) lines.1.2 ∙ draft_words lines.1.0 lines.1.1 script ∙ sym (words_printed script lines.0)

pub numbers_read : (text : List ℕ) (script : Script) → script_of text ≡ Ok script → (first : ℕ) × (last : ℕ) × (numbers_in text ≡ first ∷ kept_lines script ++ last ∷ [])
numbers_read text script given =
    let lines = lines_of_script text script given in
    (lines.1.0, lines.1.1, ap (λ (ls : List Line). map (λ (line : Line). line.number) ls) lines.1.2 ∙ draft_numbers lines.1.0 lines.1.1 script)
