-- A list of values that was printed is read as the same values.
use Rattle.std.proofs.Common.{◌≡◌, ◌<◌, ◌≤◌, ◌∙◌, ◌*◌, ◌+◌, ◌-◌, ◌/◌, ◌^◌, ℕ, zero, suc, Bool, true, false, cond, not, nat_lt, nat_le, ◌&&◌, ◌||◌, List, [], ◌∷◌, ◌++◌, length, map, filter, take, drop, replicate, position, decimal, Option, refl, sym, ap, arith, subst, Ok, None, Some, append_assoc, append-nil, length-append, take-append-drop}
use Rattle.std.specs.List.{All, list_all, slice_split, position_or_len, join_with_byte}
use Rattle.std.specs.Char.{is_ascii_digit}
use Rattle.std.proofs.lemmas.Bool.{and_parts}
use Rattle.std.proofs.lemmas.Bool.Decides.{nat_tests}
use Rattle.std.proofs.lemmas.Fmt.{decimal_nonempty}
use Rattle.std.proofs.lemmas.List.Elements.{All-head, All-tail, All-take, All-drop}
use Rattle.std.proofs.lemmas.List.Splits.{slice_split-cons_yes, slice_split_at}
use Rattle.line_text.specs.Names.{written_number}
use Rattle.std.specs.Option.{option_or, option_map}
use Rattle.script_text.specs.declared.faults.ValuePlace.TheVariants.{BadText, TooLarge, TooMany, TooLong}
use Rattle.script_text.specs.Reading.{is_blank, numbers, stretches, values_of, values_unless, earlier, first_stray, first_surplus}
use Rattle.script_text.specs.Values.{printed_row, printed_values}
use Rattle.script_text.proofs.PrintedNumbers.{written_decimal, few_digits, digits_only}

abbrev is_stray : ℕ → Bool
is_stray byte = not (is_ascii_digit byte || is_blank byte)

abbrev is_run : List ℕ → Bool
is_run = list_all is_ascii_digit

-- a text of digits and blanks, without a run of more than twenty digits, and with these numbers
record Says (text values : List ℕ) (most : ℕ) : Type 0 where
  numbers : numbers text ≡ values
  clean : length text ≤ position_or_len is_stray text
  short_runs : length (stretches 21 text) ≤ position_or_len is_run (stretches 21 text)
  size : length text ≤ most

says_nothing : Says [] [] 0
says_nothing = record { numbers = refl; clean = omega arith; short_runs = omega arith; size = omega arith }

-- a byte that isn't stray stands before such a text
clean_before : (stray : Bool) (size first : ℕ) → stray ≡ false → size ≤ first → suc size ≤ cond (not stray) (1 + first) 0
clean_before stray size first clean is = grind (arith, nat_tests)

-- a stretch that isn't one of digits stands before others
short_before : (run : Bool) (size first : ℕ) → run ≡ false → size ≤ first → suc size ≤ cond (not run) (1 + first) 0
short_before run size first is fits = grind (arith, nat_tests)

-- the stretches of a text whose first one has another byte than digits
stretches_before : (byte : ℕ) (text : List ℕ) → is_run (take 21 (byte ∷ text)) ≡ false
    → length (stretches 21 text) ≤ position_or_len is_run (stretches 21 text)
    → length (stretches 21 (byte ∷ text)) ≤ position_or_len is_run (stretches 21 (byte ∷ text))
stretches_before byte text is fits = case (nat_le 21 (length (byte ∷ text)))
  where
    case : (long : Bool)
        → length (cond long (take 21 (byte ∷ text) ∷ stretches 21 text) []) ≤ position_or_len is_run (cond long (take 21 (byte ∷ text) ∷ stretches 21 text) [])
    case true = short_before (is_run (take 21 (byte ∷ text))) _ _ is fits
    case false = omega arith

blank_is_no_digit : (byte : ℕ) → is_blank byte ≡ true → is_ascii_digit byte ≡ false
blank_is_no_digit byte blank = grind (arith, nat_tests)

digit_is_no_blank : (byte : ℕ) → is_ascii_digit byte ≡ true → is_blank byte ≡ false
digit_is_no_blank byte digit = grind (arith, nat_tests)

blank_is_clean : (byte : ℕ) → is_blank byte ≡ true → is_stray byte ≡ false
blank_is_clean byte blank = grind (arith, nat_tests)

digit_is_clean : (byte : ℕ) → is_ascii_digit byte ≡ true → is_stray byte ≡ false
digit_is_clean byte digit = ap (λ b. not (b || is_blank byte)) digit

begins_without : (byte : ℕ) (rest : List ℕ) → is_ascii_digit byte ≡ false → is_run (byte ∷ rest) ≡ false
begins_without byte rest other = ap (λ b. b && is_run rest) other

after_blank : (blank : ℕ) (text values : List ℕ) (most : ℕ) → is_blank blank ≡ true → Says text values most → Says (blank ∷ text) values (suc most)
after_blank blank text values most is said = record {
  numbers = ap (λ parts. map written_number (filter (λ word. nat_lt 0 (length word)) parts)) (slice_split-cons_yes is_blank blank text is) ∙ said.numbers;
  clean = clean_before (is_stray blank) _ _ (blank_is_clean blank is) said.clean;
  short_runs = stretches_before blank text (begins_without blank (take 20 text) (blank_is_no_digit blank is)) said.short_runs;
  size = let size = said.size in omega arith;
}

-- the front of a word and a blank behind it, with at least the blank
run_stops : (n : ℕ) (word : List ℕ) (blank : ℕ) (text : List ℕ) → length word < n → is_ascii_digit blank ≡ false
    → is_run (take n (word ++ blank ∷ text)) ≡ false
run_stops zero word blank text short other = absurd (omega arith)
run_stops (suc n) [] blank text short other = begins_without blank (take n text) other
run_stops (suc n) (digit ∷ word) blank text short other = both_no (is_ascii_digit digit) (is_run (take n (word ++ blank ∷ text)))
    (run_stops n word blank text (omega arith) other)
  where
    both_no : (a b : Bool) → b ≡ false → (a && b) ≡ false
    both_no true b is = is
    both_no false b is = refl

clean_word : (word text : List ℕ) → is_run word ≡ true → length text ≤ position_or_len is_stray text
    → length (word ++ text) ≤ position_or_len is_stray (word ++ text)
clean_word [] text digits clean = clean
clean_word (digit ∷ word) text digits clean =
    let parts = and_parts (is_ascii_digit digit) (is_run word) digits in
    clean_before (is_stray digit) _ _ (digit_is_clean digit parts.0) (clean_word word text parts.1 clean)

short_word : (word : List ℕ) (blank : ℕ) (text : List ℕ) → length word ≤ 20 → is_ascii_digit blank ≡ false
    → length (stretches 21 (blank ∷ text)) ≤ position_or_len is_run (stretches 21 (blank ∷ text))
    → length (stretches 21 (word ++ blank ∷ text)) ≤ position_or_len is_run (stretches 21 (word ++ blank ∷ text))
short_word [] blank text short other fits = fits
short_word (digit ∷ word) blank text short other fits =
    stretches_before digit (word ++ blank ∷ text) (run_stops 21 (digit ∷ word) blank text (omega arith) other)
    (short_word word blank text (omega arith) other fits)

no_blanks : (word : List ℕ) → is_run word ≡ true → All (λ byte. is_blank byte ≡ false) word
no_blanks [] digits k d below = absurd (omega arith)
no_blanks (digit ∷ word) digits zero d below = digit_is_no_blank digit (and_parts (is_ascii_digit digit) (is_run word) digits).0
no_blanks (digit ∷ word) digits (suc k) d below = no_blanks word (and_parts (is_ascii_digit digit) (is_run word) digits).1 k d (omega arith)

-- a value and a blank before such a text
after_value : (value blank : ℕ) (text values : List ℕ) (most : ℕ) → value < 4294967296 → is_blank blank ≡ true → Says text values most
    → Says (decimal value ++ blank ∷ text) (value ∷ values) (11 + most)
after_value value blank text values most small is said = record {
  numbers =
      ap (λ parts. map written_number (filter (λ word. nat_lt 0 (length word)) parts))
      (slice_split_at is_blank (decimal value) blank text (no_blanks (decimal value) digits) is)
      ∙ kept (nat_lt 0 (length (decimal value))) some ∙ ap (λ number. number ∷ numbers text) (written_decimal value small)
      ∙ ap (λ others. value ∷ others) said.numbers;
  clean = clean_word (decimal value) (blank ∷ text) digits behind.clean;
  short_runs = short_word (decimal value) blank text (omega (arith, few)) (blank_is_no_digit blank is) behind.short_runs;
  size = let size = said.size in omega (arith, few, length-append (decimal value) (blank ∷ text));
}
  where
    digits : is_run (decimal value) ≡ true
    digits = digits_only value small

    few : length (decimal value) ≤ 10
    few = few_digits value small

    some : nat_lt 0 (length (decimal value)) ≡ true
    some = let more = decimal_nonempty value (omega arith) in grind (arith, nat_tests)

    behind : Says (blank ∷ text) values (suc most)
    behind = after_blank blank text values most is said

    kept : (test : Bool) → test ≡ true
        → map written_number (cond test (decimal value ∷ filter (λ word. nat_lt 0 (length word)) (slice_split is_blank text))
        (filter (λ word. nat_lt 0 (length word)) (slice_split is_blank text))) ≡ written_number (decimal value) ∷ numbers text
    kept test more = ap (λ b. map written_number (cond b (decimal value ∷ filter (λ word. nat_lt 0 (length word)) (slice_split is_blank text))
        (filter (λ word. nat_lt 0 (length word)) (slice_split is_blank text)))) more

abbrev IsSmall : ℕ → Type 0
IsSmall value = value < 4294967296

abbrev AreSmall : List ℕ → Type 0
AreSmall values = All IsSmall values

-- a greater bound on the size
larger : (text values : List ℕ) (most more : ℕ) → most ≤ more → Says text values most → Says text values more
larger text values most more fits said = record {
  numbers = said.numbers;
  clean = said.clean;
  short_runs = said.short_runs;
  size = let size = said.size in omega arith;
}

-- a printed row before such a text
after_row : (row text values : List ℕ) (most : ℕ) → AreSmall row → Says text values most
    → Says (printed_row row ++ text) (row ++ values) (11 * length row + 1 + most)
after_row [] text values most small said = larger (10 ∷ text) values (suc most) (11 * 0 + 1 + most) (omega arith) (after_blank 10 text values most refl said)
after_row (value ∷ []) text values most small said =
    let here = after_value value 10 text values most (All-head IsSmall value [] small) refl said in
    subst (λ whole. Says whole (value ∷ values) (11 * 1 + 1 + most)) (sym (append_assoc (decimal value) (10 ∷ []) text))
    (larger (decimal value ++ 10 ∷ text) (value ∷ values) (11 + most) (11 * 1 + 1 + most) (omega arith) here)
after_row (value ∷ next ∷ row) text values most small said =
    let rest = after_row (next ∷ row) text values most (All-tail IsSmall value (next ∷ row) small) said in
    let here = after_value value 32 (printed_row (next ∷ row) ++ text) (next ∷ row ++ values) _ (All-head IsSmall value (next ∷ row) small) refl rest in
    let joined = join_with_byte 32 (map decimal (next ∷ row)) in
    let apart : printed_row (value ∷ next ∷ row) ++ text ≡ decimal value ++ 32 ∷ (printed_row (next ∷ row) ++ text) =
    ap (λ front. front ++ text) (append_assoc (decimal value) (32 ∷ joined) (10 ∷ [])) ∙ append_assoc (decimal value) (32 ∷ joined ++ 10 ∷ []) text in
    subst (λ whole. Says whole (value ∷ next ∷ row ++ values) (11 * suc (suc (length row)) + 1 + most)) (sym apart)
    (larger _ (value ∷ next ∷ row ++ values) _ (11 * suc (suc (length row)) + 1 + most) (omega arith) here)

-- the printed text of values says these values
says_values : (values : List ℕ) → AreSmall values → Says (printed_values values) values (11 * length values + 2)
says_values values small =
    let half = length values / 2 in
    let second = after_row (drop half values) [] [] 0 (All-drop IsSmall half values small) says_nothing in
    let both = after_row (take half values) (printed_row (drop half values) ++ []) (drop half values ++ []) _ (All-take IsSmall half values small) second in
    subst (λ text. Says text values (11 * length values + 2)) (ap (λ row. printed_row (take half values) ++ row) (append-nil (printed_row (drop half values))))
    (subst (λ listed. Says (printed_row (take half values) ++ (printed_row (drop half values) ++ [])) listed (11 * length values + 2))
    (ap (λ row. take half values ++ row) (append-nil (drop half values)) ∙ take-append-drop half values)
    (larger _ _ _ _ (omega (arith, ap length (take-append-drop half values), length-append (take half values) (drop half values))) both))

-- none of a list is found where all stand before the first that is found
not_found : (first count : ℕ) → count ≤ first → cond (nat_lt first count) (Some first) None ≡ None
not_found first count none = grind (arith, nat_tests)

below_first : (t : ℕ) (values : List ℕ) → All (λ value. value < t) values → length values ≤ position_or_len (λ value. nat_le t value) values
below_first t [] below = omega arith
below_first t (value ∷ values) below =
    let here : value < t = All-head (λ v. v < t) value values below in
    let test : nat_le t value ≡ false = grind (arith, nat_tests) in
    clean_before (nat_le t value) _ _ test (below_first t values (All-tail (λ v. v < t) value values below))

not_less : (n : ℕ) → nat_lt n n ≡ false
not_less n = grind (arith, nat_tests)

all_pass : (long : Bool) (stray surplus : Option ℕ) (many : Bool) (large : Option ℕ) (padded : List ℕ) → long ≡ false → stray ≡ None → surplus ≡ None
    → many ≡ false → large ≡ None
    → values_unless (option_or (cond long (Some TooLong) None) (option_or (option_map BadText (earlier stray surplus)) (option_or (cond many (Some TooMany) None) (option_map TooLarge large)))) padded ≡ Ok padded
all_pass long stray surplus many large padded short clean runs few below = cc

-- a text that says these values is read as them
read_values : (text values : List ℕ) (t most : ℕ) → Says text values most → most ≤ 4194304 → All (λ value. value < t) values
    → values_of text (length values) t ≡ Ok values
read_values text values t most said fits below =
    all_pass (nat_lt 4194304 (length text)) (first_stray text) (first_surplus text) (nat_lt (length values) (length (numbers text)))
    (position (λ value. nat_le t value) (numbers text)) (numbers text ++ replicate (length values - length (numbers text)) 0) short
    (not_found _ _ said.clean) (ap (option_map (λ start. start + 20)) (not_found _ _ said.short_runs)) few large ∙ ap Ok padded
  where
    short : nat_lt 4194304 (length text) ≡ false
    short = let size = said.size in grind (arith, nat_tests)

    few : nat_lt (length values) (length (numbers text)) ≡ false
    few = subst (λ listed. nat_lt (length values) (length listed) ≡ false) (sym said.numbers) (not_less (length values))

    large : position (λ value. nat_le t value) (numbers text) ≡ None
    large = subst (λ listed. position (λ value. nat_le t value) listed ≡ None) (sym said.numbers) (not_found _ _ (below_first t values below))

    none_missing : length values - length values ≡ 0
    none_missing = omega arith

    padded : numbers text ++ replicate (length values - length (numbers text)) 0 ≡ values
    padded = subst (λ listed. listed ++ replicate (length values - length listed) 0 ≡ values) (sym said.numbers)
        (ap (λ count. values ++ replicate count 0) none_missing ∙ append-nil values)

-- what is printed is read as it was
pub read_printed_values : (values : List ℕ) (t : ℕ) → length values ≤ 65536 → t ≤ 2 ^ 32 → All (λ value. value < t) values
    → values_of (printed_values values) (length values) t ≡ Ok values
read_printed_values values t few small below =
    read_values (printed_values values) values t (11 * length values + 2)
    (says_values values (λ k d inside. let here = below k d inside in omega arith)) (omega arith) below
