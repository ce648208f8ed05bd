-- What is known of the commands of a text.
use Rattle.std.proofs.Common.{◌≡◌, ℕ, zero, suc, List, [], ◌∷◌, Bool, true, false, not, cond, map, refl, ap, sym, ◌∙◌}
use Rattle.std.specs.Prelude.{Option, Some, None, Ok, Err, slice_get, if◌then◌else◌}
use Rattle.line_text.specs.Lines.{Line, counted_lines}
use Rattle.script_text.specs.declared.faults.ScriptPlace.TheVariants.{TooLong}
use Rattle.batch_text.specs.Commands.{is_command, is_too_long, first_bad, commands_unless, commands_of}

-- where the first of the lines that are bad is none, the first line is good and so are the others
good_first : (good : Bool) (line : Line) (bad : Option Line) → cond (not good) (Some line) bad ≡ None → good ≡ true
good_first true line bad none = refl
good_first false line bad none = absurd (cc)

good_others : (good : Bool) (line : Line) (bad : Option Line) → cond (not good) (Some line) bad ≡ None → bad ≡ None
good_others true line bad none = none
good_others false line bad none = absurd (cc)

-- where no line is bad, each may be a command
none_bad : (lines : List Line) → first_bad lines ≡ None → (count : ℕ) (words : List (List ℕ)) → slice_get (map (λ line. line.words) lines) count ≡ Some words → is_command words ≡ true
none_bad [] none count words at = absurd (cc)
none_bad (line ∷ lines) none zero words at =
    let same : line.words ≡ words = cc at in
    ap is_command (sym same) ∙ good_first (is_command line.words) line (first_bad lines) none
none_bad (line ∷ lines) none (suc count) words at = none_bad lines (good_others (is_command line.words) line (first_bad lines) none) count words at

-- each of the commands of a text may be one
pub each_command : (text : List ℕ) (listed : List (List (List ℕ))) → commands_of text ≡ Ok listed → (count : ℕ) (words : List (List ℕ)) → slice_get listed count ≡ Some words
    → is_command words ≡ true
each_command text listed is count words at = of_length (not (is_too_long text)) is
  where
    of_lines : (bad : Option Line) → first_bad (counted_lines text) ≡ bad → commands_unless bad (counted_lines text) ≡ Ok listed → is_command words ≡ true
    of_lines None none is =
        let same : listed ≡ map (λ line. line.words) (counted_lines text) = cc in
        none_bad (counted_lines text) none count words (ap (λ (l : List (List (List ℕ))). slice_get l count) (sym same) ∙ at)
    of_lines (Some bad) some is = absurd (cc)

    of_length : (fits : Bool) → (if fits then commands_unless (first_bad (counted_lines text)) (counted_lines text) else Err TooLong) ≡ Ok listed → is_command words ≡ true
    of_length true is = of_lines (first_bad (counted_lines text)) refl is
    of_length false is = absurd (cc)
