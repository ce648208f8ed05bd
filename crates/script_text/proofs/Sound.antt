-- A script that was read is sound.
use Rattle.std.proofs.Common.{◌≡◌, ◌<◌, ◌≤◌, ◌==◌, ℕ, ◌+◌, List, [], ◌∷◌, ◌++◌, length, Bool, true, false, cond, ◌||◌, nat_lt, Option, Some, None, Ok, codes, refl, sym, ap, ◌∙◌, subst, arith, length-append}
use Rattle.std.specs.Prelude.{is_none, IfSome}
use Rattle.std.specs.List.{filter, count_by}
use Rattle.std.specs.Str.{bytes_eq}
use Rattle.std.proofs.lemmas.Bool.{and_parts}
use Rattle.std.proofs.lemmas.Bool.Decides.{nat_tests}
use Rattle.std.proofs.lemmas.List.Sums.{length-filter}
use Rattle.std.proofs.lemmas.Slice.Eq.{bytes_eq-Decides}
use Rattle.set_table.specs.declared.SetName.{SetName}
use Rattle.script_text.specs.Limits.{max_script_bytes, max_inputs, max_steps}
use Rattle.script_text.specs.declared.faults.ScriptPlace.TheVariants.{Syntax, Name}
use Rattle.script_text.specs.declared.keyword.Keyword.{Keyword}
use Rattle.script_text.specs.declared.script.InputKind.{InputKind}
use Rattle.script_text.specs.declared.script.InputKind.TheVariants as kind
use Rattle.script_text.specs.declared.script.Input.{Input}
use Rattle.line_text.specs.Names.{is_name}
use Rattle.script_text.specs.Keywords.{keyword_named}
use Rattle.script_text.specs.Scripts.{IsSound, cipher_inputs}
use Rattle.line_text.specs.Lines.{Line, counted_lines}
use Rattle.set_table.specs.Sets.{set_named}
use Rattle.script_text.specs.Grammar.{Draft, is_new, register_named, input_line, output_line, short_line, keyword_after, next_line, set_line, after_line, after_lines, is_input_line, is_step_line, is_too_long, demand, demand_some}
use Rattle.script_text.proofs.Inversion.{demand_ok, demand_some_ok, followed_ok}
use Rattle.script_text.proofs.SoundLines.{DraftSound, Kept, StepKept, empty_list, input_sound, register_below, short_step_kept, long_step_kept}

not_equals : (name : List ℕ) → is_name name ≡ true → bytes_eq name (codes "=") ≡ false
not_equals name is = by (bytes_eq name (codes "=")) refl
  where
    by : (b : Bool) → bytes_eq name (codes "=") ≡ b → b ≡ false
    by false same = refl
    by true same =
        let equal : name ≡ codes "=" = (bytes_eq-Decides name (codes "=")).0 same in
        let never : is_name (codes "=") ≡ true = sym (ap is_name equal) ∙ is in
        absurd cc

-- what an input line leaves
record InputKept (draft next : Draft) : Type 0 where
  sound : DraftSound next
  inputs : length next.inputs ≡ length draft.inputs + 1
  steps : next.steps ≡ draft.steps

input_line_kept : (draft : Draft) (at : ℕ) (k : InputKind) (name : List ℕ) (next : Draft) → is_none draft.output ≡ true → DraftSound draft
    → input_line draft at k name ≡ Ok next → InputKept draft next × (is_name name ≡ true)
unfolding input_line
input_line_kept draft at k name next no_output sound given =
    let input : Input = record { name = name; kind = k; line = at } in
    let form = demand_ok _ _ _ _ given in
    let tests = and_parts (is_name name) (length draft.steps == 0) form.0 in
    let new = demand_ok (is_new draft name) _ (Ok (record draft { inputs = draft.inputs ++ input ∷ [] })) next form.1 in
    let same : record draft { inputs = draft.inputs ++ input ∷ [] } ≡ next = cc in (
      subst (InputKept draft) same (record {
        sound = input_sound draft input (empty_list draft.steps tests.1) no_output sound tests.0 new.0;
        inputs = length-append draft.inputs (input ∷ []);
        steps = refl;
      }),
      tests.0,
    )

output_line_kept : (draft : Draft) (at : ℕ) (name : List ℕ) (next : Draft) → DraftSound draft → output_line draft at name ≡ Ok next
    → DraftSound next × (next.inputs ≡ draft.inputs) × (next.steps ≡ draft.steps)
unfolding output_line
output_line_kept draft at name next sound given =
    let form = demand_ok (is_name name) (Syntax at) (demand_some (register_named draft name) (Name at) (λ output. Ok (record draft { output = Some output }))) next given in
    let found = demand_some_ok (register_named draft name) (Name at) (λ output. Ok (record draft { output = Some output })) next form.1 in
    let same : record draft { output = Some found.0 } ≡ next = cc in
    subst (λ (n : Draft). DraftSound n × (n.inputs ≡ draft.inputs) × (n.steps ≡ draft.steps)) same
    (record { names = sound.names; distinct = sound.distinct; fit = sound.fit; output = register_below draft name found.0 found.1 }, refl, refl)

short_line_kept : (draft : Draft) (at : ℕ) (keyword name : List ℕ) (next : Draft) → is_none draft.output ≡ true → DraftSound draft
    → short_line draft at keyword name ≡ Ok next → Kept draft next (keyword ∷ name ∷ [])
unfolding short_line
short_line_kept draft at keyword name next no_output sound given = by (bytes_eq keyword (codes "cipher")) (bytes_eq keyword (codes "plain")) refl refl given
  where
    an_input : (b p : Bool) → bytes_eq keyword (codes "cipher") ≡ b → bytes_eq keyword (codes "plain") ≡ p → b || p ≡ true → InputKept draft next × (is_name name ≡ true) → Kept draft next (keyword ∷ name ∷ [])
    an_input b p cipher plain either kept =
        let no_step = not_equals name kept.1 in
        let counts : is_input_line (keyword ∷ name ∷ []) ≡ true = rw (no_step, cipher, plain) either in
        record {
          sound = kept.0.sound;
          inputs = rw counts (omega (arith, kept.0.inputs));
          steps = let same = ap length kept.0.steps in omega arith;
        }

    by : (b p : Bool) → bytes_eq keyword (codes "cipher") ≡ b → bytes_eq keyword (codes "plain") ≡ p
        → cond b (input_line draft at kind.Cipher name) (cond p (input_line draft at kind.Plain name) (demand (bytes_eq keyword (codes "output")) (Syntax at) (output_line draft at name))) ≡ Ok next
        → Kept draft next (keyword ∷ name ∷ [])
    by true p cipher plain given = an_input true p cipher plain refl (input_line_kept draft at kind.Cipher name next no_output sound given)
    by false true cipher plain given = an_input false true cipher plain refl (input_line_kept draft at kind.Plain name next no_output sound given)
    by false false cipher plain given =
        let output = output_line_kept draft at name next sound (demand_ok (bytes_eq keyword (codes "output")) (Syntax at) (output_line draft at name) next given).1 in
        let inputs = ap length output.1 in
        let steps = ap length output.2 in
        record { sound = output.0; inputs = omega arith; steps = omega arith }

equals_before : (equals keyword : List ℕ) (k : Keyword) → keyword_after equals keyword ≡ Some k → bytes_eq equals (codes "=") ≡ true
unfolding keyword_after
equals_before equals keyword k found = by (bytes_eq equals (codes "=")) found
  where
    by : (b : Bool) → cond b (keyword_named keyword) None ≡ Some k → b ≡ true
    by true found = refl
    by false found = absurd cc

step_kept : (draft next : Draft) (name equals keyword a : List ℕ) (words : List (List ℕ)) → bytes_eq equals (codes "=") ≡ true → StepKept draft next → Kept draft next (name ∷ equals ∷ keyword ∷ a ∷ words)
step_kept draft next name equals keyword a words is kept =
    let counts : is_step_line (name ∷ equals ∷ keyword ∷ a ∷ words) ≡ true = is in
    record {
      sound = kept.sound;
      inputs = let same = ap length kept.inputs in omega arith;
      steps = rw counts (omega (arith, kept.steps));
    }

pub next_line_kept : (draft : Draft) (at : ℕ) (words : List (List ℕ)) (next : Draft) → is_none draft.output ≡ true → DraftSound draft
    → next_line draft at words ≡ Ok next → Kept draft next words
unfolding next_line
next_line_kept draft at [] next no_output sound given = absurd cc
next_line_kept draft at (a ∷ []) next no_output sound given = absurd cc
next_line_kept draft at (keyword ∷ name ∷ []) next no_output sound given = short_line_kept draft at keyword name next no_output sound given
next_line_kept draft at (a ∷ b ∷ c ∷ []) next no_output sound given = absurd cc
next_line_kept draft at (name ∷ equals ∷ keyword ∷ a ∷ []) next no_output sound given =
    let known = demand_some_ok (keyword_after equals keyword) _ _ next given in
    step_kept draft next name equals keyword a [] (equals_before equals keyword known.0 known.1) (short_step_kept draft at name known.0 a next no_output sound known.2)
next_line_kept draft at (name ∷ equals ∷ keyword ∷ a ∷ b ∷ []) next no_output sound given =
    let known = demand_some_ok (keyword_after equals keyword) _ _ next given in
    step_kept draft next name equals keyword a (b ∷ []) (equals_before equals keyword known.0 known.1) (long_step_kept draft at name known.0 a b next no_output sound known.2)
next_line_kept draft at (a ∷ b ∷ c ∷ d ∷ e ∷ f ∷ words) next no_output sound given = absurd cc

-- what further lines leave
record AllKept (draft : Draft) (lines : List Line) (last : Draft) : Type 0 where
  sound : DraftSound last
  inputs : length last.inputs ≤ length draft.inputs + length (filter (λ line. is_input_line line.words) lines)
  steps : length last.steps ≤ length draft.steps + length (filter (λ line. is_step_line line.words) lines)

length-filter_cons : (test : Line → Bool) (line : Line) (lines : List Line) → length (filter test (line ∷ lines)) ≡ cond (test line) 1 0 + length (filter test lines)
length-filter_cons test line lines = by (test line)
  where
    by : (b : Bool) → length (cond b (line ∷ filter test lines) (filter test lines)) ≡ cond b 1 0 + length (filter test lines)
    by true = omega arith
    by false = omega arith

lines_kept : (draft : Draft) (lines : List Line) (end : Option Draft) → DraftSound draft → after_lines (Some draft) lines ≡ Ok end → (last : Draft) × (end ≡ Some last) × AllKept draft lines last
unfolding after_line
lines_kept draft [] end sound given =
    let same : end ≡ Some draft = cc in
    (draft, same, record { sound = sound; inputs = omega arith; steps = omega arith })
lines_kept draft (line ∷ lines) end sound given =
    let first = followed_ok (after_line (Some draft) line) (λ next. after_lines (Some next) lines) end given in
    let open_draft = demand_ok (is_none draft.output) (Syntax line.number) (next_line draft line.number line.words) first.0 first.1 in
    let kept = next_line_kept draft line.number line.words first.0 open_draft.0 sound open_draft.1 in
    let rest = lines_kept first.0 lines end kept.sound first.2 in
    let inputs = length-filter_cons (λ line. is_input_line line.words) line lines in
    let steps = length-filter_cons (λ line. is_step_line line.words) line lines in
    (rest.0, rest.1, record { sound = rest.2.sound; inputs = omega (arith, rest.2.inputs, kept.inputs); steps = omega (arith, rest.2.steps, kept.steps) })

pub empty_sound : (set : SetName) → DraftSound (record { set = set; inputs = []; steps = []; output = None })
empty_sound set = record { names = λ k d below. absurd (omega arith); distinct = λ i j d before below. absurd (omega arith); fit = tt; output = tt }

set_line_given : (at : ℕ) (words : List (List ℕ)) (next : Draft) → set_line at words ≡ Ok next → (set : SetName) × (next ≡ record { set = set; inputs = []; steps = []; output = None })
unfolding set_line
set_line_given at [] next given = absurd cc
set_line_given at (a ∷ []) next given = absurd cc
set_line_given at (keyword ∷ word ∷ []) next given =
    let form = demand_ok (bytes_eq keyword (codes "set")) _ _ next given in
    let found = demand_some_ok (set_named word) (Syntax at) (λ set. Ok (record { set = set; inputs = []; steps = []; output = None })) next form.1 in
    (found.0, cc)
set_line_given at (a ∷ b ∷ c ∷ words) next given = absurd cc

-- the draft that all lines give
pub all_kept : (lines : List Line) (last : Draft) → after_lines None lines ≡ Ok (Some last)
    → DraftSound last × (length last.inputs ≤ length (filter (λ line. is_input_line line.words) lines)) × (length last.steps ≤ length (filter (λ line. is_step_line line.words) lines))
unfolding after_line
all_kept [] last given = absurd cc
all_kept (line ∷ lines) last given =
    let first = followed_ok (after_line None line) (λ next. after_lines (Some next) lines) (Some last) given in
    let begun = set_line_given line.number line.words first.0 first.1 in
    let rest = lines_kept first.0 lines (Some last) (subst DraftSound (sym begun.1) (empty_sound begun.0)) first.2 in
    let same : last ≡ rest.0 = cc in
    let inputs = length-filter_cons (λ line. is_input_line line.words) line lines in
    let steps = length-filter_cons (λ line. is_step_line line.words) line lines in
    let no_inputs = ap (λ (d : Draft). length d.inputs) begun.1 in
    let no_steps = ap (λ (d : Draft). length d.steps) begun.1 in
    subst (λ (d : Draft). DraftSound d × (length d.inputs ≤ length (filter (λ line. is_input_line line.words) (line ∷ lines))) × (length d.steps ≤ length (filter (λ line. is_step_line line.words) (line ∷ lines)))) (sym same)
    (rest.2.sound, omega (arith, rest.2.inputs), omega (arith, rest.2.steps))

few : (text : List ℕ) → is_too_long text ≡ false
    → (length (filter (λ line. is_input_line line.words) (counted_lines text)) ≤ max_inputs) × (length (filter (λ line. is_step_line line.words) (counted_lines text)) ≤ max_steps)
few text not_long =
    let inputs = length-filter (λ line. is_input_line line.words) (counted_lines text) in
    let steps = length-filter (λ line. is_step_line line.words) (counted_lines text) in
    by (nat_lt max_script_bytes (length text)) (nat_lt max_inputs (count_by (λ line. is_input_line line.words) (counted_lines text))) (nat_lt max_steps (count_by (λ line. is_step_line line.words) (counted_lines text))) refl refl not_long inputs steps
  where
    by : (long many more : Bool) → nat_lt max_inputs (count_by (λ line. is_input_line line.words) (counted_lines text)) ≡ many → nat_lt max_steps (count_by (λ line. is_step_line line.words) (counted_lines text)) ≡ more
        → long || many || more ≡ false
        → length (filter (λ line. is_input_line line.words) (counted_lines text)) ≡ count_by (λ line. is_input_line line.words) (counted_lines text)
        → length (filter (λ line. is_step_line line.words) (counted_lines text)) ≡ count_by (λ line. is_step_line line.words) (counted_lines text)
        → (length (filter (λ line. is_input_line line.words) (counted_lines text)) ≤ max_inputs) × (length (filter (λ line. is_step_line line.words) (counted_lines text)) ≤ max_steps)
    by true many more is_many is_more none inputs steps = absurd cc
    by false true more is_many is_more none inputs steps = absurd cc
    by false false true is_many is_more none inputs steps = absurd cc
    by false false false is_many is_more none inputs steps = (grind (arith, nat_tests), grind (arith, nat_tests))

pub bytes_few : (text : List ℕ) → is_too_long text ≡ false → length text ≤ max_script_bytes
bytes_few text not_long = by (nat_lt max_script_bytes (length text)) refl not_long
  where
    by : (long : Bool) → nat_lt max_script_bytes (length text) ≡ long
        → long || nat_lt max_inputs (count_by (λ line. is_input_line line.words) (counted_lines text)) || nat_lt max_steps (count_by (λ line. is_step_line line.words) (counted_lines text)) ≡ false
        → length text ≤ max_script_bytes
    by true is none = absurd cc
    by false is none = grind (arith, nat_tests)

-- a script is sound whose lines gave this draft, in a text that isn't too long
pub draft_sound : (text : List ℕ) (last : Draft) (output : ℕ) → is_too_long text ≡ false → after_lines None (counted_lines text) ≡ Ok (Some last) → last.output ≡ Some output
    → IsSound (record { set = last.set; inputs = last.inputs; steps = last.steps; output = output })
draft_sound text last output not_long given is =
    let kept = all_kept (counted_lines text) last given in
    let most = few text not_long in
    record {
      few_inputs = omega (arith, most.0, kept.1);
      few_steps = omega (arith, most.1, kept.2);
      names = kept.0.names;
      distinct = kept.0.distinct;
      fit = kept.0.fit;
      output = by last.output is kept.0.output;
    }
  where
    by : (o : Option ℕ) → o ≡ Some output → IfSome o (λ r. r < length (cipher_inputs last.inputs) + length last.steps) → output < length (cipher_inputs last.inputs) + length last.steps
    by None is holds = absurd cc
    by (Some r) is holds =
        let same : r ≡ output = cc in
        omega arith
