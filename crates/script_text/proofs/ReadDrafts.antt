-- The lines that are read without fault are those of the draft that they give.
use Rattle.std.proofs.Common.{◌≡◌, ◌==◌, ℕ, ◌+◌, List, [], ◌∷◌, ◌++◌, length, replicate, get_or, Bool, true, false, cond, ◌&&◌, Some, None, Ok, codes, refl, sym, ap, ap₂, ◌∙◌, subst}
use Rattle.std.specs.Prelude.{is_none}
use Rattle.std.specs.Str.{bytes_eq}
use Rattle.std.proofs.lemmas.Bool.{and_parts}
use Rattle.std.proofs.lemmas.List.{append-nil, append_assoc}
use Rattle.std.proofs.lemmas.Slice.Eq.{bytes_eq-Decides}
use Rattle.set_table.specs.declared.SetName.{SetName}
use Rattle.set_table.specs.Sets.{name_of, set_named}
use Rattle.line_text.specs.Lines.{Line}
use Rattle.line_text.specs.Names.{is_name}
use Rattle.script_text.specs.declared.faults.ScriptPlace.TheVariants.{Syntax, Name}
use Rattle.script_text.specs.declared.keyword.Keyword.{Keyword}
use Rattle.script_text.specs.declared.script.InputKind.{InputKind}
use Rattle.script_text.specs.declared.script.InputKind.TheVariants as kind
use Rattle.script_text.specs.declared.script.Input.{Input}
use Rattle.script_text.specs.declared.script.Step.{Step}
use Rattle.script_text.specs.Keywords.{keyword_text, second_of, operation}
use Rattle.script_text.specs.Scripts.{cipher_inputs, plain_inputs, shapes_of, AllFit, input_shape, has_shape}
use Rattle.script_text.specs.Grammar.{Draft, is_new, register_named, input_line, output_line, takes_one, is_second, with_step, short_step, long_step, short_line, keyword_after, next_line, set_line, after_line, after_lines, demand, demand_some}
use Rattle.script_text.specs.Printed.{kind_text, first_operand, second_words}
use Rattle.script_text.proofs.Inversion.{demand_ok, demand_some_ok, followed_ok}
use Rattle.script_text.proofs.SoundLines.{DraftSound, empty_list, short_step_kept, long_step_kept}
use Rattle.script_text.proofs.Sound.{next_line_kept, empty_sound}
use Rattle.script_text.proofs.PrintedScripts.{input_words, step_words}
use Rattle.script_text.proofs.ReadWords.{register_word, second_word, no_second_word, keyword_of-operation, keyword_after_word, set_word}
use Rattle.script_text.proofs.ReadLists.{draft_lines, registers_of, plains_of, input_added, step_added, output_added}

-- ---- one line

-- a line that is added to those of a draft
abbrev Adds : Draft → Draft → ℕ → List (List ℕ) → Type 0
Adds draft next at words = (first last : ℕ) → draft_lines first at next ≡ draft_lines first last draft ++ record { number = at; words = words } ∷ []

input_read : (draft : Draft) (at : ℕ) (k : InputKind) (name : List ℕ) (next : Draft) → is_none draft.output ≡ true → input_line draft at k name ≡ Ok next → Adds draft next at (kind_text k ∷ name ∷ [])
unfolding input_line input_words
input_read draft at k name next no_output given first last =
    let input : Input = record { name = name; kind = k; line = at } in
    let form = demand_ok _ _ _ _ given in
    let tests = and_parts (is_name name) (length draft.steps == 0) form.0 in
    let new = demand_ok (is_new draft name) _ (Ok (record draft { inputs = draft.inputs ++ input ∷ [] })) next form.1 in
    let same : record draft { inputs = draft.inputs ++ input ∷ [] } ≡ next = cc in
    ap (draft_lines first at) (sym same) ∙ input_added draft input first last at (empty_list draft.steps tests.1) no_output

output_read : (draft : Draft) (at : ℕ) (name : List ℕ) (next : Draft) → is_none draft.output ≡ true → output_line draft at name ≡ Ok next → Adds draft next at (codes "output" ∷ name ∷ [])
unfolding output_line
output_read draft at name next no_output given first last =
    let form = demand_ok (is_name name) (Syntax at) (demand_some (register_named draft name) (Name at) (λ output. Ok (record draft { output = Some output }))) next given in
    let found = demand_some_ok (register_named draft name) (Name at) (λ output. Ok (record draft { output = Some output })) next form.1 in
    let same : record draft { output = Some found.0 } ≡ next = cc in
    ap (draft_lines first at) (sym same) ∙ output_added draft found.0 first last at no_output
    ∙ ap (λ (word : List ℕ). draft_lines first last draft ++ record { number = at; words = codes "output" ∷ word ∷ [] } ∷ []) (register_word draft name found.0 found.1)

short_read : (draft : Draft) (at : ℕ) (keyword name : List ℕ) (next : Draft) → is_none draft.output ≡ true → short_line draft at keyword name ≡ Ok next → Adds draft next at (keyword ∷ name ∷ [])
unfolding short_line
short_read draft at keyword name next no_output given = by (bytes_eq keyword (codes "cipher")) (bytes_eq keyword (codes "plain")) refl refl given
  where
    spelled : (word : List ℕ) → keyword ≡ word → Adds draft next at (word ∷ name ∷ []) → Adds draft next at (keyword ∷ name ∷ [])
    spelled word same adds = subst (λ (w : List ℕ). Adds draft next at (w ∷ name ∷ [])) (sym same) adds

    by : (b p : Bool) → bytes_eq keyword (codes "cipher") ≡ b → bytes_eq keyword (codes "plain") ≡ p
        → cond b (input_line draft at kind.Cipher name) (cond p (input_line draft at kind.Plain name) (demand (bytes_eq keyword (codes "output")) (Syntax at) (output_line draft at name))) ≡ Ok next
        → Adds draft next at (keyword ∷ name ∷ [])
    by true p cipher plain given = spelled (codes "cipher") ((bytes_eq-Decides keyword (codes "cipher")).0 cipher) (input_read draft at kind.Cipher name next no_output given)
    by false true cipher plain given = spelled (codes "plain") ((bytes_eq-Decides keyword (codes "plain")).0 plain) (input_read draft at kind.Plain name next no_output given)
    by false false cipher plain given =
        let output = demand_ok (bytes_eq keyword (codes "output")) (Syntax at) (output_line draft at name) next given in
        spelled (codes "output") ((bytes_eq-Decides keyword (codes "output")).0 output.0) (output_read draft at name next no_output output.1)

-- a step that was taken, by the words of its operation
step_read : (draft : Draft) (at : ℕ) (name : List ℕ) (k : Keyword) (a b : ℕ) (word : List ℕ) (seconds : List (List ℕ)) (next : Draft) → is_none draft.output ≡ true → DraftSound next
    → get_or (registers_of draft) a [] ≡ word → second_words (registers_of draft) (plains_of draft.inputs) (operation k a b) ≡ seconds
    → with_step draft at name (operation k a b) ≡ Ok next → Adds draft next at (name ∷ codes "=" ∷ keyword_text k ∷ word ∷ seconds)
unfolding with_step step_words
step_read draft at name k a b word seconds next no_output sound first_is second_is given first last =
    let step : Step = record { name = name; op = operation k a b; line = at } in
    let shape = demand_ok (has_shape (shapes_of draft.inputs draft.steps) (operation k a b)) _ (Ok (record draft { steps = draft.steps ++ step ∷ [] })) next given in
    let same : record draft { steps = draft.steps ++ step ∷ [] } ≡ next = cc in
    let fit : AllFit draft.set (length (plain_inputs draft.inputs)) (replicate (length (cipher_inputs draft.inputs)) input_shape) (draft.steps ++ step ∷ []) =
    (subst DraftSound (sym same) sound).fit in
    let known = keyword_of-operation k a b in
    let line : Keyword → List ℕ → List (List ℕ) → List Line = λ (l : Keyword) (w : List ℕ) (ws : List (List ℕ)). record { number = at; words = name ∷ codes "=" ∷ keyword_text l ∷ w ∷ ws } ∷ [] in
    ap (draft_lines first at) (sym same) ∙ step_added draft step first last at no_output fit
    ∙ ap (λ (l : Keyword). draft_lines first last draft ++ line l (get_or (registers_of draft) (first_operand (operation k a b)) []) (second_words (registers_of draft) (plains_of draft.inputs) (operation k a b))) known.0
    ∙ ap (λ (r : ℕ). draft_lines first last draft ++ line k (get_or (registers_of draft) r []) (second_words (registers_of draft) (plains_of draft.inputs) (operation k a b))) known.1
    ∙ ap₂ (λ (w : List ℕ) (ws : List (List ℕ)). draft_lines first last draft ++ line k w ws) first_is second_is

short_step_read : (draft : Draft) (at : ℕ) (name : List ℕ) (k : Keyword) (a : List ℕ) (next : Draft) → is_none draft.output ≡ true → DraftSound draft
    → short_step draft at name k a ≡ Ok next → Adds draft next at (name ∷ codes "=" ∷ keyword_text k ∷ a ∷ [])
unfolding short_step
short_step_read draft at name k a next no_output sound given =
    let kept = short_step_kept draft at name k a next no_output sound given in
    let form = demand_ok _ _ _ _ given in
    let words = and_parts (is_name name && is_name a) (takes_one (second_of k)) form.0 in
    let new = demand_ok _ _ _ _ form.1 in
    let first = demand_some_ok _ _ _ _ new.1 in
    step_read draft at name k first.0 0 a [] next no_output kept.sound (register_word draft a first.0 first.1)
    (no_second_word (registers_of draft) (plains_of draft.inputs) k first.0 0 words.1) first.2

long_step_read : (draft : Draft) (at : ℕ) (name : List ℕ) (k : Keyword) (a b : List ℕ) (next : Draft) → is_none draft.output ≡ true → DraftSound draft
    → long_step draft at name k a b ≡ Ok next → Adds draft next at (name ∷ codes "=" ∷ keyword_text k ∷ a ∷ b ∷ [])
unfolding long_step
long_step_read draft at name k a b next no_output sound given =
    let kept = long_step_kept draft at name k a b next no_output sound given in
    let form = demand_ok _ _ _ _ given in
    let words = and_parts (is_name name && is_name a) (is_second draft.set (second_of k) b) form.0 in
    let new = demand_ok _ _ _ _ form.1 in
    let first = demand_some_ok _ _ _ _ new.1 in
    let second = demand_some_ok _ _ _ _ first.2 in
    step_read draft at name k first.0 second.0 a (b ∷ []) next no_output kept.sound (register_word draft a first.0 first.1)
    (second_word draft k first.0 second.0 b words.1 second.1) second.2

-- a line after that of the set
line_read : (draft : Draft) (at : ℕ) (words : List (List ℕ)) (next : Draft) → is_none draft.output ≡ true → DraftSound draft → next_line draft at words ≡ Ok next → Adds draft next at words
unfolding next_line
line_read draft at [] next no_output sound given = absurd cc
line_read draft at (a ∷ []) next no_output sound given = absurd cc
line_read draft at (keyword ∷ name ∷ []) next no_output sound given = short_read draft at keyword name next no_output given
line_read draft at (a ∷ b ∷ c ∷ []) next no_output sound given = absurd cc
line_read draft at (name ∷ equals ∷ keyword ∷ a ∷ []) next no_output sound given =
    let known = demand_some_ok (keyword_after equals keyword) _ _ next given in
    let words = keyword_after_word equals keyword known.0 known.1 in
    subst (λ (w : List ℕ). Adds draft next at (name ∷ w ∷ keyword ∷ a ∷ [])) (sym words.0)
    (subst (λ (w : List ℕ). Adds draft next at (name ∷ codes "=" ∷ w ∷ a ∷ [])) words.1 (short_step_read draft at name known.0 a next no_output sound known.2))
line_read draft at (name ∷ equals ∷ keyword ∷ a ∷ b ∷ []) next no_output sound given =
    let known = demand_some_ok (keyword_after equals keyword) _ _ next given in
    let words = keyword_after_word equals keyword known.0 known.1 in
    subst (λ (w : List ℕ). Adds draft next at (name ∷ w ∷ keyword ∷ a ∷ b ∷ [])) (sym words.0)
    (subst (λ (w : List ℕ). Adds draft next at (name ∷ codes "=" ∷ w ∷ a ∷ b ∷ [])) words.1 (long_step_read draft at name known.0 a b next no_output sound known.2))
line_read draft at (a ∷ b ∷ c ∷ d ∷ e ∷ f ∷ words) next no_output sound given = absurd cc

-- the line of the set
set_read : (at last : ℕ) (words : List (List ℕ)) (next : Draft) → set_line at words ≡ Ok next
    → (set : SetName) × (next ≡ record { set = set; inputs = []; steps = []; output = None }) × (words ≡ codes "set" ∷ name_of set ∷ [])
unfolding set_line
set_read at last [] next given = absurd cc
set_read at last (a ∷ []) next given = absurd cc
set_read at last (keyword ∷ word ∷ []) next given =
    let form = demand_ok (bytes_eq keyword (codes "set")) _ _ next given in
    let found = demand_some_ok (set_named word) (Syntax at) (λ set. Ok (record { set = set; inputs = []; steps = []; output = None })) next form.1 in
    (found.0, cc, ap₂ (λ (a b : List ℕ). a ∷ b ∷ []) ((bytes_eq-Decides keyword (codes "set")).0 form.0) (sym (set_word word found.0 found.1)))
set_read at last (a ∷ b ∷ c ∷ words) next given = absurd cc

-- ---- all lines

-- the lines after that of the set
lines_read : (first before : ℕ) (draft : Draft) (lines : List Line) (last : Draft) → DraftSound draft → after_lines (Some draft) lines ≡ Ok (Some last)
    → (end : ℕ) × (draft_lines first end last ≡ draft_lines first before draft ++ lines)
unfolding after_line
lines_read first before draft [] last sound given =
    let same : draft ≡ last = cc in
    (before, ap (draft_lines first before) (sym same) ∙ sym (append-nil (draft_lines first before draft)))
lines_read first before draft (line ∷ lines) last sound given =
    let turn = followed_ok (after_line (Some draft) line) (λ next. after_lines (Some next) lines) (Some last) given in
    let open_draft = demand_ok (is_none draft.output) (Syntax line.number) (next_line draft line.number line.words) turn.0 turn.1 in
    let kept = next_line_kept draft line.number line.words turn.0 open_draft.0 sound open_draft.1 in
    let added = line_read draft line.number line.words turn.0 open_draft.0 sound open_draft.1 first before in
    let rest = lines_read first line.number turn.0 lines last kept.sound turn.2 in (
      rest.0,
      rest.1 ∙ ap (λ (before_lines : List Line). before_lines ++ lines) added ∙ append_assoc (draft_lines first before draft) (line ∷ []) lines,
    )

-- the lines of the draft are those that gave it
pub all_read : (lines : List Line) (last : Draft) → after_lines None lines ≡ Ok (Some last) → (first end : ℕ) × (lines ≡ draft_lines first end last)
unfolding after_line draft_lines
all_read [] last given = absurd cc
all_read (line ∷ lines) last given =
    let turn = followed_ok (after_line None line) (λ next. after_lines (Some next) lines) (Some last) given in
    let begun = set_read line.number 0 line.words turn.0 turn.1 in
    let empty : Draft = record { set = begun.0; inputs = []; steps = []; output = None } in
    let rest = lines_read line.number 0 turn.0 lines last (subst DraftSound (sym begun.1) (empty_sound begun.0)) turn.2 in
    let set_is : draft_lines line.number 0 turn.0 ≡ line ∷ [] = ap (draft_lines line.number 0) begun.1 ∙ ap (λ (words : List (List ℕ)). let l : Line = record { number = line.number; words = words } in l ∷ []) (sym begun.2) in
    (line.number, rest.0, sym (rest.1 ∙ ap (λ (front : List Line). front ++ lines) set_is))
