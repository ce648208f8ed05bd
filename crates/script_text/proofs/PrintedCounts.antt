-- How many lines of a printed script are inputs, and how many are steps.
use Rattle.std.proofs.Common.{◌≡◌, ℕ, ◌+◌, ◌<◌, ◌≤◌, Bool, true, false, cond, List, [], ◌∷◌, ◌++◌, length, map, refl, sym, ◌∙◌, ap, subst, arith, All, get_or}
use Rattle.std.specs.Prelude.{codes}
use Rattle.std.specs.List.{count_by}
use Rattle.std.proofs.lemmas.List.{length-map}
use Rattle.std.proofs.lemmas.List.Elements.{All-head, All-tail}
use Rattle.std.proofs.lemmas.List.Sums.{count_by-le-length, sum_by-append, sum_by-cons}
use Rattle.set_table.specs.declared.SetName.{SetName}
use Rattle.set_table.specs.declared.SetName.TheVariants.{One16, Toy16, S4096, S8192, S16384}
use Rattle.set_table.specs.Sets.{name_of}
use Rattle.line_text.specs.Names.{is_name}
use Rattle.script_text.specs.Limits.{max_inputs, max_steps}
use Rattle.script_text.specs.Scripts.{Script, IsSound, register_names}
use Rattle.line_text.specs.Lines.{Line}
use Rattle.script_text.specs.Grammar.{is_input_line, is_step_line}
use Rattle.script_text.specs.Printed.{plain_names}
use Rattle.script_text.proofs.PrintedScripts.{input_words, step_words, script_lines, numbered_words}
use Rattle.script_text.proofs.PrintedSizes.{sound_names, name_differs, length-register_names}

count_numbered : (test : List (List ℕ) → Bool) (at : ℕ) (lines : List (List (List ℕ))) → count_by (λ line. test line.words) (numbered_words at lines) ≡ count_by test lines
count_numbered test at [] = refl
count_numbered test at (words ∷ lines) =
    let line : Line = record { number = at; words = words } in
    sum_by-cons (λ (l : Line). cond (test l.words) 1 0) line (numbered_words (at + 1) lines)
    ∙ ap (λ (n : ℕ). cond (test words) 1 0 + n) (count_numbered test (at + 1) lines)
    ∙ sym (sum_by-cons (λ (words : List (List ℕ)). cond (test words) 1 0) words lines)

-- where the line of no thing passes, none is counted
none_counted : {A : Type 0} (test : List (List ℕ) → Bool) (words_of : A → List (List ℕ)) (things : List A) → All (λ thing. test (words_of thing) ≡ false) things → count_by test (map words_of things) ≡ 0
none_counted test words_of [] all = refl
none_counted {A} test words_of (thing ∷ things) all =
    let first : cond (test (words_of thing)) 1 0 ≡ 0 = ap (λ (passes : Bool). let n : ℕ = cond passes 1 0 in n) (All-head (λ (t : A). test (words_of t) ≡ false) thing things all) in
    let whole = sum_by-cons (λ (words : List (List ℕ)). cond (test words) 1 0) (words_of thing) (map words_of things) in
    let rest = none_counted test words_of things (All-tail (λ (t : A). test (words_of t) ≡ false) thing things all) in
    omega (arith, first, whole, rest)

-- at most as many are counted as there are things
few_counted : {A : Type 0} (test : List (List ℕ) → Bool) (words_of : A → List (List ℕ)) (things : List A) → count_by test (map words_of things) ≤ length things
few_counted test words_of things = subst (λ (n : ℕ). count_by test (map words_of things) ≤ n) (length-map things words_of) (count_by-le-length test (map words_of things))

-- the name of the output
output_name : (script : Script) → IsSound script → is_name (get_or (register_names script) script.output []) ≡ true
output_name script sound = (sound_names script sound).registers script.output [] (subst (λ (n : ℕ). script.output < n) (sym (length-register_names script)) sound.output)

-- only inputs and steps are counted where the lines of the set and of the output don't pass
counted_parts : (test : List (List ℕ) → Bool) (script : Script) → test (codes "set" ∷ name_of script.set ∷ []) ≡ false → test (codes "output" ∷ get_or (register_names script) script.output [] ∷ []) ≡ false
    → count_by test (script_lines script) ≡ count_by test (map input_words script.inputs) + count_by test (map (step_words (register_names script) (plain_names script)) script.steps)
unfolding script_lines
counted_parts test script set_is output_is =
    let inputs = map input_words script.inputs in
    let steps = map (step_words (register_names script) (plain_names script)) script.steps in
    let output : List (List ℕ) = codes "output" ∷ get_or (register_names script) script.output [] ∷ [] in
    let set : List (List ℕ) = codes "set" ∷ name_of script.set ∷ [] in
    let counts : List (List ℕ) → ℕ = λ words. cond (test words) 1 0 in
    let front = sum_by-cons counts set (inputs ++ (steps ++ output ∷ [])) in
    let whole = sum_by-append counts inputs (steps ++ output ∷ []) in
    let rest = sum_by-append counts steps (output ∷ []) in
    let last = sum_by-cons counts output [] in
    let set_counts : counts set ≡ 0 = ap (λ (passes : Bool). let n : ℕ = cond passes 1 0 in n) set_is in
    let output_counts : counts output ≡ 0 = ap (λ (passes : Bool). let n : ℕ = cond passes 1 0 in n) output_is in
    omega (arith, front, whole, rest, last, set_counts, output_counts)

set_no_step : (set : SetName) → is_step_line (codes "set" ∷ name_of set ∷ []) ≡ false
set_no_step One16 = refl
set_no_step Toy16 = refl
set_no_step S4096 = refl
set_no_step S8192 = refl
set_no_step S16384 = refl

set_no_input : (set : SetName) → is_input_line (codes "set" ∷ name_of set ∷ []) ≡ false
set_no_input One16 = refl
set_no_input Toy16 = refl
set_no_input S4096 = refl
set_no_input S8192 = refl
set_no_input S16384 = refl

output_no_input : (name : List ℕ) → is_name name ≡ true → is_input_line (codes "output" ∷ name ∷ []) ≡ false
output_no_input name is = rw (name_differs name is) refl

pub few_inputs : (script : Script) → IsSound script → count_by (λ line. is_input_line line.words) (numbered_words 1 (script_lines script)) ≤ max_inputs
unfolding step_words
few_inputs script sound =
    let numbered = count_numbered is_input_line 1 (script_lines script) in
    let parts = counted_parts is_input_line script (set_no_input script.set) (output_no_input (get_or (register_names script) script.output []) (output_name script sound)) in
    let inputs = few_counted is_input_line input_words script.inputs in
    let steps = none_counted is_input_line (step_words (register_names script) (plain_names script)) script.steps (λ i d below. refl) in
    let few = sound.few_inputs in
    omega (arith, numbered, parts, inputs, steps, few)

pub few_steps : (script : Script) → IsSound script → count_by (λ line. is_step_line line.words) (numbered_words 1 (script_lines script)) ≤ max_steps
unfolding input_words
few_steps script sound =
    let numbered = count_numbered is_step_line 1 (script_lines script) in
    let parts = counted_parts is_step_line script (set_no_step script.set) (name_differs (get_or (register_names script) script.output []) (output_name script sound)) in
    let inputs = none_counted is_step_line input_words script.inputs (λ i d below. name_differs (get_or script.inputs i d).name ((sound_names script sound).inputs i d below)) in
    let steps = few_counted is_step_line (step_words (register_names script) (plain_names script)) script.steps in
    let few = sound.few_steps in
    omega (arith, numbered, parts, inputs, steps, few)
