-- The values of a text, of which at most a byte too many was read.
use Rattle.std.proofs.Common.{◌≡◌, ℕ, zero, suc, ◌+◌, ◌-◌, ◌<◌, ◌≤◌, ⊎_elim, List, [], ◌∷◌, ◌++◌, length, slice_index, take, refl, sym, ◌∙◌, ap, subst, arith, cond}
use Rattle.std.specs.Prelude.{not, nat_le, nat_lt, position, replicate, Option, Some, None, option_map, Result, Ok, Err, if◌then◌else◌}
use Rattle.std.specs.List.{position_or_len}
use Rattle.std.specs.Option.{option_or}
use Rattle.std.proofs.lemmas.Bool.{cases_lt, lt-ltb}
use Rattle.std.proofs.lemmas.Bool.Decides.{nat_tests}
use Rattle.std.proofs.lemmas.List.{length-append, length-replicate, get_or_append_left, get_or-replicate}
use Rattle.std.proofs.Math.Seq.{get_or-append_right}
use Rattle.set_table.specs.declared.SetName.{SetName}
use Rattle.set_table.specs.Sets.{degree_of, plain_of}
use Rattle.script_text.specs.declared.faults.ValuePlace.{ValuePlace}
use Rattle.script_text.specs.declared.faults.ValuePlace.TheVariants.{TooLarge, TooMany, TooLong}
use Rattle.script_text.specs.Reading.{values_of, values_unless, fault_of_text, numbers}
use Rattle.command_model.specs.Reading.{values_file, or_refused, said_by}
use Rattle.command_words.specs.declared.status.Status.TheVariants.{BadValues}
use Rattle.command_stages.specs.Operands.{AreValues}
use Rattle.bfv_model.proofs.Sets.{plain_pos}
use Rattle.command_stages.proofs.Fronts.{front_enough}

-- a text that is too long is refused as such
too_long : (text : List ℕ) (n t : ℕ) → 4194304 < length text → values_of text n t ≡ Err TooLong
too_long text n t long = rw (lt-ltb 4194304 (length text) long) refl

pub values_of_front : (text : List ℕ) (n t : ℕ) → values_of (take 4194305 text) n t ≡ values_of text n t
values_of_front text n t = front_enough (λ l. values_of l n t) 4194304 (Err TooLong) (λ l long. too_long l n t long) text

-- of two parts of which none is there
none_first : (a b : Option ValuePlace) → option_or a b ≡ None → (a ≡ None) × (b ≡ None)
none_first None b none = (refl, none)
none_first (Some place) b none = absurd (cc)

-- values without fault
unless_none : (fault : Option ValuePlace) (all listed : List ℕ) → values_unless fault all ≡ Ok listed → (fault ≡ None) × (all ≡ listed)
unless_none None all listed is = (refl, cc)
unless_none (Some place) all listed is = absurd (cc)

-- there are at most n
few : (n count : ℕ) → (if nat_lt n count then Some TooMany else None) ≡ None → count ≤ n
few n count none = grind (arith, nat_tests)

-- none is too large
none_large : (found : Option ℕ) → option_map TooLarge found ≡ None → found ≡ None
none_large None none = refl
none_large (Some index) none = absurd (cc)

first_small : (t x first count : ℕ) → count + 1 ≤ cond (not (nat_le t x)) (1 + first) 0 → (x < t) × (count ≤ first)
first_small t x first count all = grind (arith, nat_tests)

all_small : (t : ℕ) (xs : List ℕ) → length xs ≤ position_or_len (λ v. nat_le t v) xs → (i : ℕ) → i < length xs → slice_index xs i < t
all_small t [] all i inside = absurd (omega arith)
all_small t (x ∷ xs) all zero inside = (first_small t x (position_or_len (λ v. nat_le t v) xs) (length xs) (omega arith)).0
all_small t (x ∷ xs) all (suc i) inside = all_small t xs (first_small t x (position_or_len (λ v. nat_le t v) xs) (length xs) (omega arith)).1 i (omega arith)

none_first_place : (first count : ℕ) → cond (nat_lt first count) (Some first) None ≡ None → count ≤ first
none_first_place first count none = grind (arith, nat_tests)

none_found : (t : ℕ) (xs : List ℕ) → position (λ v. nat_le t v) xs ≡ None → (i : ℕ) → i < length xs → slice_index xs i < t
none_found t xs none = all_small t xs (none_first_place _ _ none)

-- the values of a text are n, each below t
pub values_fit : (text listed : List ℕ) (n t : ℕ) → 0 < t → values_of text n t ≡ Ok listed → (length listed ≡ n) × ((i : ℕ) → i < n → slice_index listed i < t)
values_fit text listed n t positive is =
    let read = unless_none (fault_of_text text n t) (numbers text ++ replicate (n - length (numbers text)) 0) listed is in
    let first = none_first _ _ read.0 in
    let second = none_first _ _ first.1 in
    let third = none_first _ _ second.1 in
    let at_most = few n (length (numbers text)) third.0 in
    let small = none_found t (numbers text) (none_large _ third.1) in (
      ap length (sym read.1) ∙ length-append (numbers text) (replicate (n - length (numbers text)) 0) ∙ ap (λ (k : ℕ). length (numbers text) + k) (length-replicate (n - length (numbers text)) 0) ∙ omega arith,
      λ i below. subst (λ (l : List ℕ). slice_index l i < t) read.1 (⊎_elim
          (λ (inside : i < length (numbers text)). subst (λ v. v < t) (sym (get_or_append_left (numbers text) (replicate (n - length (numbers text)) 0) 0 i inside)) (small i inside))
          (λ (past : length (numbers text) ≤ i). subst (λ v. v < t) (sym (get_or-append_right (numbers text) (replicate (n - length (numbers text)) 0) i 0 past ∙ get_or-replicate (n - length (numbers text)) (i - length (numbers text)) 0 0 (omega arith))) positive)
          (cases_lt i (length (numbers text)))),
    )

pub are_values : (set : SetName) (text listed : List ℕ) → 0 < plain_of set → values_of text (degree_of set) (plain_of set) ≡ Ok listed → AreValues set listed
are_values set text listed positive is = let fit = values_fit text listed (degree_of set) (plain_of set) positive is in record { count = fit.0; below = fit.1 }

-- the values of a text that was taken
pub values_of_taken : (set : SetName) (word : ℕ) (text listed : List ℕ) → said_by (values_file set) word text ≡ Ok listed → AreValues set listed
values_of_taken set word text listed is = of_result (values_of text (degree_of set) (plain_of set)) refl is
  where
    of_result : (read : Result (List ℕ) ValuePlace) → values_of text (degree_of set) (plain_of set) ≡ read → or_refused (BadValues word) read ≡ Ok listed → AreValues set listed
    of_result (Ok values) found is = let same : values ≡ listed = cc in are_values set text listed (plain_pos set) (found ∙ ap Ok same)
    of_result (Err place) found is = absurd (cc)
