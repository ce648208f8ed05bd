-- The first fault of a text can't be mended by what follows its line.
use Rattle.std.proofs.Common.{◌≡◌, ◌≢◌, ◌≤◌, ◌==◌, ℕ, suc, ◌+◌, List, [], ◌∷◌, ◌++◌, length, map, take, Bool, true, false, not, cond, ◌&&◌, Option, Some, None, Result, Ok, Err, codes, refl, sym, ap, ◌∙◌, subst, arith}
use Rattle.std.specs.Prelude.{is_none}
use Rattle.std.specs.Str.{bytes_eq}
use Rattle.std.proofs.lemmas.List.{map-append}
use Rattle.line_text.specs.Lines.{Line, words_of, counted_from, counted_lines, lines_of, is_passed_over}
use Rattle.line_text.specs.Names.{is_name}
use Rattle.line_text.proofs.Pieces.{counted_from-cons}
use Rattle.line_text.proofs.Turns.{followed}
use Rattle.script_text.specs.declared.faults.ScriptPlace.{ScriptPlace}
use Rattle.script_text.specs.declared.faults.ScriptPlace.TheVariants.{Syntax, Name, Shape, TooLong}
use Rattle.script_text.specs.declared.keyword.Keyword.{Keyword}
use Rattle.script_text.specs.declared.script.InputKind.{InputKind}
use Rattle.script_text.specs.declared.script.InputKind.TheVariants.{Cipher, Plain}
use Rattle.script_text.specs.declared.script.Op.{Op}
use Rattle.script_text.specs.Keywords.{second_of}
use Rattle.script_text.specs.Scripts.{Script, IsSound, shapes_of, has_shape}
use Rattle.script_text.specs.Grammar as grammar
use Rattle.set_table.specs.Sets.{set_named}
use Rattle.script_text.specs.Grammar.{Draft, is_too_long, is_new, register_named, set_line, input_line, output_line, takes_one, is_second, second_value, with_step, short_step, long_step, short_line, keyword_after, next_line, after_line, after_lines, demand, demand_some, finished, script_of}
use Rattle.script_text.specs.Printed.{printed_script, renumbered}
use Rattle.script_text.specs.Counted.{words_in, words_until, IsInLine}
use Rattle.script_text.proofs.ReadLines.{after_lines-append}
use Rattle.script_text.proofs.PrintedAgain.{printed_lines}
use Rattle.script_text.proofs.PrintedDrafts.{after_printed}
use Rattle.script_text.proofs.Unnumbered.{bare_line, bared_all, lines_bared}

-- ---- the line of a fault

-- a fault, where there is one, is in this line
abbrev FaultIn : {A : Type 0} → ℕ → Result A ScriptPlace → Type 0
FaultIn at (Ok x) = Unit {0}
FaultIn at (Err place) = IsInLine at place

demand_in : {A : Type 0} (at : ℕ) (holds : Bool) (fault : ScriptPlace) (r : Result A ScriptPlace) → IsInLine at fault → FaultIn at r → FaultIn at (demand holds fault r)
demand_in at true fault r here rest = rest
demand_in at false fault r here rest = here

demand_some_in : {A B : Type 0} (at : ℕ) (o : Option A) (fault : ScriptPlace) (r : A → Result B ScriptPlace) → IsInLine at fault → ((x : A) → FaultIn at (r x)) → FaultIn at (demand_some o fault r)
demand_some_in at None fault r here rest = here
demand_some_in at (Some x) fault r here rest = rest x

choice_in : (at : ℕ) (b : Bool) (r s : Result Draft ScriptPlace) → FaultIn at r → FaultIn at s → FaultIn at (cond b r s)
choice_in at true r s first second = first
choice_in at false r s first second = second

set_in : (at : ℕ) (words : List (List ℕ)) → FaultIn at (set_line at words)
unfolding set_line
set_in at [] = refl
set_in at (a ∷ []) = refl
set_in at (keyword ∷ word ∷ []) = demand_in at (bytes_eq keyword (codes "set")) (Syntax at) _ refl (demand_some_in at (set_named word) (Syntax at) _ refl (λ set. tt))
set_in at (a ∷ b ∷ c ∷ words) = refl

input_in : (draft : Draft) (at : ℕ) (kind : InputKind) (name : List ℕ) → FaultIn at (input_line draft at kind name)
unfolding input_line
input_in draft at kind name = demand_in at (is_name name && (length draft.steps == 0)) (Syntax at) _ refl (demand_in at (is_new draft name) (Name at) _ refl tt)

output_in : (draft : Draft) (at : ℕ) (name : List ℕ) → FaultIn at (output_line draft at name)
unfolding output_line
output_in draft at name = demand_in at (is_name name) (Syntax at) _ refl (demand_some_in at (register_named draft name) (Name at) _ refl (λ output. tt))

short_in : (draft : Draft) (at : ℕ) (keyword name : List ℕ) → FaultIn at (short_line draft at keyword name)
unfolding short_line
short_in draft at keyword name =
    choice_in at (bytes_eq keyword (codes "cipher")) _ _ (input_in draft at Cipher name)
    (choice_in at (bytes_eq keyword (codes "plain")) _ _ (input_in draft at Plain name)
    (demand_in at (bytes_eq keyword (codes "output")) (Syntax at) _ refl (output_in draft at name)))

step_in : (draft : Draft) (at : ℕ) (name : List ℕ) (op : Op) → FaultIn at (with_step draft at name op)
unfolding with_step
step_in draft at name op = demand_in at (has_shape (shapes_of draft.inputs draft.steps) op) (Shape at) _ refl tt

short_step_in : (draft : Draft) (at : ℕ) (name : List ℕ) (keyword : Keyword) (a : List ℕ) → FaultIn at (short_step draft at name keyword a)
unfolding short_step
short_step_in draft at name keyword a =
    demand_in at (is_name name && is_name a && takes_one (second_of keyword)) (Syntax at) _ refl
    (demand_in at (is_new draft name) (Name at) _ refl (demand_some_in at (register_named draft a) (Name at) _ refl (λ first. step_in draft at name _)))

long_step_in : (draft : Draft) (at : ℕ) (name : List ℕ) (keyword : Keyword) (a b : List ℕ) → FaultIn at (long_step draft at name keyword a b)
unfolding long_step
long_step_in draft at name keyword a b =
    demand_in at (is_name name && is_name a && is_second draft.set (second_of keyword) b) (Syntax at) _ refl
    (demand_in at (is_new draft name) (Name at) _ refl (demand_some_in at (register_named draft a) (Name at) _ refl
    (λ first. demand_some_in at (second_value draft (second_of keyword) b) (Name at) _ refl (λ other. step_in draft at name _))))

next_in : (draft : Draft) (at : ℕ) (words : List (List ℕ)) → FaultIn at (next_line draft at words)
unfolding next_line
next_in draft at [] = refl
next_in draft at (a ∷ []) = refl
next_in draft at (keyword ∷ name ∷ []) = short_in draft at keyword name
next_in draft at (a ∷ b ∷ c ∷ []) = refl
next_in draft at (name ∷ equals ∷ keyword ∷ a ∷ []) = demand_some_in at (keyword_after equals keyword) (Syntax at) _ refl (λ known. short_step_in draft at name known a)
next_in draft at (name ∷ equals ∷ keyword ∷ a ∷ b ∷ []) = demand_some_in at (keyword_after equals keyword) (Syntax at) _ refl (λ known. long_step_in draft at name known a b)
next_in draft at (a ∷ b ∷ c ∷ d ∷ e ∷ f ∷ words) = refl

line_in : (draft : Option Draft) (line : Line) → FaultIn line.number (after_line draft line)
unfolding after_line
line_in None line = set_in line.number line.words
line_in (Some draft) line = demand_in line.number (is_none draft.output) (Syntax line.number) _ refl (next_in draft line.number line.words)

-- the fault of one line of a text
one_in : (draft : Option Draft) (at : ℕ) (piece : List ℕ) → FaultIn at (after_lines draft (counted_from at (piece ∷ [])))
one_in draft at piece = by (not (is_passed_over (words_of piece)))
  where
    last : (r : Result Draft ScriptPlace) → FaultIn at r → FaultIn {A = Option Draft} at (grammar.followed r (λ next. Ok (Some next)))
    last (Ok next) here = tt
    last (Err place) here = here

    by : (counts : Bool) → FaultIn at (after_lines draft (cond counts (record { number = at; words = words_of piece } ∷ []) []))
    by true = last (after_line draft (record { number = at; words = words_of piece })) (line_in draft (record { number = at; words = words_of piece }))
    by false = tt

same_line : (n at : ℕ) (place : ScriptPlace) → IsInLine n place → IsInLine at place → n ≡ at
same_line n at (Syntax line) first second = sym first ∙ second
same_line n at (Name line) first second = sym first ∙ second
same_line n at (Shape line) first second = sym first ∙ second
same_line n at TooLong first second = absurd first

-- ---- the lines up to a fault

-- a line, and then the others
after_lines-cons : (draft : Option Draft) (number : ℕ) (piece : List ℕ) (pieces : List (List ℕ))
    → after_lines draft (counted_from number (piece ∷ pieces)) ≡ followed (after_lines draft (counted_from number (piece ∷ []))) (λ next. after_lines next (counted_from (number + 1) pieces))
after_lines-cons draft number piece pieces =
    ap (after_lines draft) (counted_from-cons number piece pieces) ∙ after_lines-append draft (counted_from number (piece ∷ [])) (counted_from (number + 1) pieces)

-- they have that fault already
fault_until : (draft : Option Draft) (pieces : List (List ℕ)) (at n : ℕ) (place : ScriptPlace) → IsInLine n place → after_lines draft (counted_from at pieces) ≡ Err place
    → (k : ℕ) × (n ≡ at + k) × (after_lines draft (counted_from at (take (suc k) pieces)) ≡ Err place)
fault_until draft [] at n place here given = absurd cc
fault_until draft (piece ∷ pieces) at n place here given =
    by (after_lines draft (counted_from at (piece ∷ []))) refl (one_in draft at piece) (sym (after_lines-cons draft at piece pieces) ∙ given) (λ next. fault_until next pieces (at + 1) n place here)
  where
    by : (r : Result (Option Draft) ScriptPlace) → after_lines draft (counted_from at (piece ∷ [])) ≡ r → FaultIn at r
        → followed r (λ next. after_lines next (counted_from (at + 1) pieces)) ≡ Err place
        → ((next : Option Draft) → after_lines next (counted_from (at + 1) pieces) ≡ Err place → (k : ℕ) × (n ≡ at + 1 + k) × (after_lines next (counted_from (at + 1) (take (suc k) pieces)) ≡ Err place))
        → (k : ℕ) × (n ≡ at + k) × (after_lines draft (counted_from at (take (suc k) (piece ∷ pieces))) ≡ Err place)
    by (Ok next) is within rest more =
        let found = more next rest in
        let where_is = found.1 in (
          suc found.0,
          omega arith,
          after_lines-cons draft at piece (take (suc found.0) pieces)
              ∙ ap (λ (r : Result (Option Draft) ScriptPlace). followed r (λ next. after_lines next (counted_from (at + 1) (take (suc found.0) pieces)))) is ∙ found.2,
        )
    by (Err e) is within rest more =
        let same : e ≡ place = cc in
        let line = same_line n at place here (subst (IsInLine at) same within) in
        (0, omega arith, is ∙ ap (λ (p : ScriptPlace). let r : Result (Option Draft) ScriptPlace = Err p in r) same)

-- a fault in a line that is there comes from the lines up to it
fault_there : (text : List ℕ) (place : ScriptPlace) (n : ℕ) → script_of text ≡ Err place → IsInLine n place → n ≤ length (lines_of text) → after_lines None (counted_from 1 (take n (lines_of text))) ≡ Err place
fault_there text place n given here there = by (is_too_long text) (after_lines None (counted_lines text)) refl given
  where
    in_lines : (k : ℕ) → n ≡ 1 + k → after_lines None (counted_from 1 (take (suc k) (lines_of text))) ≡ Err place → after_lines None (counted_from 1 (take n (lines_of text))) ≡ Err place
    in_lines k is failed =
        let same : suc k ≡ n = omega arith in
        subst (λ (m : ℕ). after_lines None (counted_from 1 (take m (lines_of text))) ≡ Err place) same failed

    by : (long : Bool) (r : Result (Option Draft) ScriptPlace) → after_lines None (counted_lines text) ≡ r → demand (not long) TooLong (grammar.followed r (finished (length (lines_of text) + 1))) ≡ Err place
        → after_lines None (counted_from 1 (take n (lines_of text))) ≡ Err place
    by true r is given =
        let same : TooLong ≡ place = cc in
        absurd (subst (IsInLine n) (sym same) here)
    by false (Err e) is given =
        let same : e ≡ place = cc in
        let found = fault_until None (lines_of text) 1 n place here (is ∙ ap (λ (p : ScriptPlace). let r : Result (Option Draft) ScriptPlace = Err p in r) same) in
        in_lines found.0 found.1 found.2
    by false (Ok None) is given =
        let same : Syntax (length (lines_of text) + 1) ≡ place = cc in
        let missed : length (lines_of text) + 1 ≡ n = subst (IsInLine n) (sym same) here in
        absurd (omega arith)
    by false (Ok (Some draft)) is given = ended draft.output given
      where
        ended : (o : Option ℕ) → demand_some {B = Script} o (Syntax (length (lines_of text) + 1)) (λ output. Ok (record { set = draft.set; inputs = draft.inputs; steps = draft.steps; output = output })) ≡ Err place
            → after_lines None (counted_from 1 (take n (lines_of text))) ≡ Err place
        ended None given =
            let same : Syntax (length (lines_of text) + 1) ≡ place = cc in
            let missed : length (lines_of text) + 1 ≡ n = subst (IsInLine n) (sym same) here in
            absurd (omega arith)
        ended (Some output) given = absurd cc

-- ---- words alone

-- lines without their numbers, by their words
pub bare_by_words : (lines : List Line) → map bare_line lines ≡ map (λ words. record { number = 0; words = words }) (map (λ (line : Line). line.words) lines)
bare_by_words [] = refl
bare_by_words (line ∷ lines) = ap (λ (rest : List Line). bare_line line ∷ rest) (bare_by_words lines)

-- a print is read without fault
pub printed_ok : (script : Script) → IsSound script
    → after_lines None (counted_lines (printed_script script)) ≡ Ok (Some (record { set = script.set; inputs = (renumbered script).inputs; steps = (renumbered script).steps; output = Some script.output }))
printed_ok script sound = ap (λ (lines : List Line). after_lines None lines) (printed_lines script sound) ∙ after_printed script sound

pub fault_stays : (text : List ℕ) (place : ScriptPlace) (n : ℕ) → script_of text ≡ Err place → IsInLine n place → n ≤ length (lines_of text) → (script : Script) → IsSound script
    → (rest : List (List (List ℕ))) → words_in (printed_script script) ≢ words_until n text ++ rest
fault_stays text place n given here there script sound rest same =
    let front : List Line = counted_from 1 (take n (lines_of text)) in
    let unnumbered : List (List (List ℕ)) → List Line = λ (lines : List (List (List ℕ))). map (λ words. record { number = 0; words = words }) lines in
    let failed = fault_there text place n given here there in
    let lines : map bare_line (counted_lines (printed_script script)) ≡ map bare_line front ++ unnumbered rest =
    bare_by_words (counted_lines (printed_script script)) ∙ ap unnumbered same ∙ map-append _ (words_until n text) rest ∙ ap (λ (ls : List Line). ls ++ unnumbered rest) (sym (bare_by_words front)) in
    let read = sym (ap bared_all (printed_ok script sound)) ∙ lines_bared None (counted_lines (printed_script script)) ∙ ap (after_lines None) lines ∙ after_lines-append None (map bare_line front) (unnumbered rest)
    ∙ ap (λ (r : Result (Option Draft) ScriptPlace). followed r (λ next. after_lines next (unnumbered rest))) (sym (lines_bared None front) ∙ ap bared_all failed) in
    absurd cc
