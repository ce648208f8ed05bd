-- The lines of a printed script are plain and short, and few.
use Rattle.std.proofs.Common.{◌≡◌, ◌<◌, ◌≤◌, ◌==◌, ℕ, ◌+◌, ◌*◌, List, [], ◌∷◌, ◌++◌, length, map, replicate, slice_index, get_or, Bool, true, false, not, nat_le, ◌||◌, ◌&&◌, decimal, codes, refl, sym, ap, ap₂, ◌∙◌, subst, arith, length-append, append_assoc}
use Rattle.std.specs.Prelude.{slice_index_or, All}
use Rattle.std.specs.List.{list_all, flat_map}
use Rattle.std.specs.Char.{is_ascii_digit, is_ascii_lowercase}
use Rattle.std.specs.Str.{bytes_eq}
use Rattle.std.proofs.lemmas.Bool.{and_parts}
use Rattle.std.proofs.lemmas.Bool.Decides.{nat_tests}
use Rattle.std.proofs.lemmas.Fmt.{decimal_nonempty}
use Rattle.std.proofs.lemmas.List.{append-nil, length-map, length-replicate}
use Rattle.std.proofs.lemmas.List.Concat.{flat_map-append}
use Rattle.std.proofs.lemmas.List.Elements.{All-nil, All-cons, All-head, All-tail, All-append, All-map, All-filter, All-weaker}
use Rattle.std.proofs.lemmas.List.Sums.{AllPass-from_list_all, list_all-from_AllPass}
use Rattle.set_table.specs.declared.SetName.{SetName}
use Rattle.set_table.specs.declared.SetName.TheVariants.{One16, Toy16, S4096, S8192, S16384}
use Rattle.set_table.specs.Sets.{name_of}
use Rattle.script_text.specs.Limits.{max_script_bytes}
use Rattle.script_text.specs.declared.keyword.Keyword.{Keyword}
use Rattle.script_text.specs.declared.keyword.Keyword.TheVariants as keyword
use Rattle.script_text.specs.declared.script.InputKind.{InputKind}
use Rattle.script_text.specs.declared.script.InputKind.TheVariants.{Cipher, Plain}
use Rattle.script_text.specs.declared.script.Op.{Op}
use Rattle.script_text.specs.declared.script.Op.TheVariants.{Add, Sub, Neg, AddPlain, SubPlain, MulPlain, MulConst, Mul, Relin, Turn, Swap}
use Rattle.script_text.specs.declared.script.Input.{Input}
use Rattle.script_text.specs.declared.script.Step.{Step}
use Rattle.line_text.specs.Names.{is_name, is_name_byte}
use Rattle.script_text.specs.Keywords.{keyword_text}
use Rattle.script_text.specs.declared.script.Shape.{Shape}
use Rattle.script_text.specs.Scripts.{Script, IsSound, Fits, AllFit, shape_made, cipher_inputs, plain_inputs, is_cipher, is_plain, register_names, input_shape}
use Rattle.line_text.specs.Lines.{is_blank_in_line}
use Rattle.script_text.specs.Printed.{printed_line, printed_input, printed_step, printed_script, kind_text, keyword_of, first_operand, second_words, plain_names}
use Rattle.script_text.proofs.SecondOperand.{plain_small, degree_small}
use Rattle.script_text.proofs.PrintedScripts.{input_words, step_words, script_lines, IsPlainLine}
use Rattle.script_text.proofs.PrintedNumbers.{both, few_digits, digits_only}

-- ---- the text by its lines

printed_steps : (registers plains : List (List ℕ)) (steps : List Step) → flat_map (printed_step registers plains) steps ≡ flat_map printed_line (map (step_words registers plains) steps)
unfolding printed_step step_words
printed_steps registers plains [] = refl
printed_steps registers plains (step ∷ steps) = ap (λ (text : List ℕ). printed_step registers plains step ++ text) (printed_steps registers plains steps)

printed_inputs : (inputs : List Input) → flat_map printed_input inputs ≡ flat_map printed_line (map input_words inputs)
unfolding input_words
printed_inputs [] = refl
printed_inputs (input ∷ inputs) = ap (λ (text : List ℕ). printed_input input ++ text) (printed_inputs inputs)

-- four texts one after another
four_texts : (a b c d : List ℕ) → a ++ b ++ c ++ d ≡ a ++ (b ++ (c ++ d))
four_texts a b c d = append_assoc (a ++ b) c d ∙ append_assoc a b (c ++ d)

-- the text of a script is its lines, printed
pub printed_is_lines : (script : Script) → printed_script script ≡ flat_map printed_line (script_lines script)
unfolding script_lines
printed_is_lines script =
    let registers : List (List ℕ) = register_names script in
    let plains : List (List ℕ) = plain_names script in
    let last : List (List ℕ) = codes "output" ∷ slice_index_or (register_names script) script.output [] ∷ [] in
    let ins : List (List (List ℕ)) = map input_words script.inputs in
    let made : List (List (List ℕ)) = map (step_words (register_names script) (plain_names script)) script.steps in
    let behind : flat_map (printed_step (register_names script) (plain_names script)) script.steps ++ printed_line last ≡ flat_map printed_line (made ++ last ∷ []) =
    ap (λ (text : List ℕ). text ++ printed_line last) (printed_steps registers plains script.steps)
    ∙ ap (λ (text : List ℕ). flat_map printed_line made ++ text) (sym (append-nil (printed_line last)))
    ∙ sym (flat_map-append printed_line made (last ∷ [])) in
    four_texts (printed_line (codes "set" ∷ name_of script.set ∷ [])) (flat_map printed_input script.inputs) (flat_map (printed_step registers plains) script.steps) (printed_line last)
    ∙ ap (λ (text : List ℕ). printed_line (codes "set" ∷ name_of script.set ∷ []) ++ text)
    (ap (λ (text : List ℕ). flat_map printed_input script.inputs ++ text) behind
    ∙ ap (λ (text : List ℕ). text ++ flat_map printed_line (made ++ last ∷ [])) (printed_inputs script.inputs)
    ∙ sym (flat_map-append printed_line ins (made ++ last ∷ [])))

-- ---- words

-- bytes that make one word of a line, of at most 32 bytes
record IsShortWord (word : List ℕ) : Type 0 where
  pub some : 0 < length word
  pub bytes : list_all (λ byte. not (is_blank_in_line byte || (byte == 10))) word ≡ true
  pub few : length word ≤ 32

letter_stays : (byte : ℕ) → is_ascii_lowercase byte ≡ true → not (is_blank_in_line byte || (byte == 10)) ≡ true
letter_stays byte is = grind (arith, nat_tests)

name_byte_stays : (byte : ℕ) → is_name_byte byte ≡ true → not (is_blank_in_line byte || (byte == 10)) ≡ true
name_byte_stays byte is = grind (arith, nat_tests)

digit_stays : (byte : ℕ) → is_ascii_digit byte ≡ true → not (is_blank_in_line byte || (byte == 10)) ≡ true
digit_stays byte is = grind (arith, nat_tests)

-- what passes a stronger test passes a weaker one
all_weaker : (strong weak : ℕ → Bool) → ((byte : ℕ) → strong byte ≡ true → weak byte ≡ true) → (bytes : List ℕ) → list_all strong bytes ≡ true → list_all weak bytes ≡ true
all_weaker strong weak follows bytes all =
    list_all-from_AllPass weak bytes (All-weaker (λ byte. strong byte ≡ true) (λ byte. weak byte ≡ true) follows bytes (AllPass-from_list_all strong bytes all))

few_more : (size : ℕ) → nat_le size 31 ≡ true → size ≤ 31
few_more size is = grind (arith, nat_tests)

-- what the tests of a name say
record NameTests (byte : ℕ) (bytes : List ℕ) : Type 0 where
  pub first : is_ascii_lowercase byte ≡ true
  pub others : list_all is_name_byte bytes ≡ true
  pub few : length bytes ≤ 31

name_tests : (byte : ℕ) (bytes : List ℕ) → is_name (byte ∷ bytes) ≡ true → NameTests byte bytes
name_tests byte bytes is =
    let size = and_parts (is_ascii_lowercase byte && list_all is_name_byte bytes && nat_le (length bytes) 31) (not (bytes_eq (byte ∷ bytes) (codes "key"))) is in
    let letters = and_parts (is_ascii_lowercase byte && list_all is_name_byte bytes) (nat_le (length bytes) 31) size.0 in
    let all = and_parts (is_ascii_lowercase byte) (list_all is_name_byte bytes) letters.0 in
    record { first = all.0; others = all.1; few = few_more (length bytes) letters.1 }

-- a name is a word
name_word : (name : List ℕ) → is_name name ≡ true → IsShortWord name
name_word [] is = absurd cc
name_word (byte ∷ bytes) is =
    let tests = name_tests byte bytes is in
    record {
      some = omega arith;
      bytes = both (not (is_blank_in_line byte || (byte == 10))) (list_all (λ other. not (is_blank_in_line other || (other == 10))) bytes)
          (letter_stays byte tests.first) (all_weaker is_name_byte (λ other. not (is_blank_in_line other || (other == 10))) name_byte_stays bytes tests.others);
      few = omega arith;
    }

-- a line that begins with a name isn't passed over
name_counts : (name : List ℕ) → is_name name ≡ true → (slice_index name 0 == 35) ≡ false
name_counts [] is = absurd cc
name_counts (byte ∷ bytes) is = let first = (name_tests byte bytes is).first in by byte first
  where
    by : (byte : ℕ) → is_ascii_lowercase byte ≡ true → (byte == 35) ≡ false
    by byte is = grind (arith, nat_tests)

-- `=` is no name
pub name_differs : (name : List ℕ) → is_name name ≡ true → bytes_eq name (codes "=") ≡ false
name_differs [] is = absurd cc
name_differs (byte ∷ bytes) is =
    let first = (name_tests byte bytes is).first in
    ap (λ (same : Bool). same && bytes_eq bytes []) (by byte first)
  where
    by : (byte : ℕ) → is_ascii_lowercase byte ≡ true → (byte == 61) ≡ false
    by byte is = grind (arith, nat_tests)

-- a number in decimal is a word
decimal_word : (k : ℕ) → k < 4294967296 → IsShortWord (decimal k)
decimal_word k small =
    let few = few_digits k small in
    record {
      some = decimal_nonempty k (omega arith);
      bytes = all_weaker is_ascii_digit (λ byte. not (is_blank_in_line byte || (byte == 10))) digit_stays (decimal k) (digits_only k small);
      few = omega arith;
    }

equals_word : IsShortWord (codes "=")
equals_word = record { some = omega arith; bytes = refl; few = omega arith }

set_word : IsShortWord (codes "set")
set_word = record { some = omega arith; bytes = refl; few = omega arith }

output_word : IsShortWord (codes "output")
output_word = record { some = omega arith; bytes = refl; few = omega arith }

kind_word : (kind : InputKind) → IsShortWord (kind_text kind)
kind_word Cipher = record { some = omega arith; bytes = refl; few = omega arith }
kind_word Plain = record { some = omega arith; bytes = refl; few = omega arith }

set_name_word : (set : SetName) → IsShortWord (name_of set)
set_name_word One16 = record { some = omega arith; bytes = refl; few = omega arith }
set_name_word Toy16 = record { some = omega arith; bytes = refl; few = omega arith }
set_name_word S4096 = record { some = omega arith; bytes = refl; few = omega arith }
set_name_word S8192 = record { some = omega arith; bytes = refl; few = omega arith }
set_name_word S16384 = record { some = omega arith; bytes = refl; few = omega arith }

keyword_word : (word : Keyword) → IsShortWord (keyword_text word)
keyword_word keyword.Add = record { some = omega arith; bytes = refl; few = omega arith }
keyword_word keyword.Sub = record { some = omega arith; bytes = refl; few = omega arith }
keyword_word keyword.Neg = record { some = omega arith; bytes = refl; few = omega arith }
keyword_word keyword.AddPlain = record { some = omega arith; bytes = refl; few = omega arith }
keyword_word keyword.SubPlain = record { some = omega arith; bytes = refl; few = omega arith }
keyword_word keyword.MulPlain = record { some = omega arith; bytes = refl; few = omega arith }
keyword_word keyword.MulConst = record { some = omega arith; bytes = refl; few = omega arith }
keyword_word keyword.Mul = record { some = omega arith; bytes = refl; few = omega arith }
keyword_word keyword.Relin = record { some = omega arith; bytes = refl; few = omega arith }
keyword_word keyword.Turn = record { some = omega arith; bytes = refl; few = omega arith }
keyword_word keyword.Swap = record { some = omega arith; bytes = refl; few = omega arith }

-- ---- the operands of steps

-- the second operand is among so many registers or plain inputs, or a number below 2^32
abbrev SecondInRange : ℕ → ℕ → Op → Type 0
SecondInRange most plains (Add a b) = b < most
SecondInRange most plains (Sub a b) = b < most
SecondInRange most plains (Neg a) = Unit {0}
SecondInRange most plains (AddPlain a p) = p < plains
SecondInRange most plains (SubPlain a p) = p < plains
SecondInRange most plains (MulPlain a p) = p < plains
SecondInRange most plains (MulConst a k) = k < 4294967296
SecondInRange most plains (Mul a b) = b < most
SecondInRange most plains (Relin a) = Unit {0}
SecondInRange most plains (Turn a k) = k < 4294967296
SecondInRange most plains (Swap a) = Unit {0}

record InRange (most plains : ℕ) (op : Op) : Type 0 where
  pub first : first_operand op < most
  pub second : SecondInRange most plains op

-- an operation that fits some of the registers has its operands in range
fits_in_range : (set : SetName) (most plains : ℕ) (shapes : List Shape) (op : Op) → length shapes ≤ most → Fits set plains shapes op → InRange most plains op
fits_in_range set most plains shapes (Add a b) short fits = record { first = omega (arith, fits.operands.0); second = omega (arith, fits.operands.1.0) }
fits_in_range set most plains shapes (Sub a b) short fits = record { first = omega (arith, fits.operands.0); second = omega (arith, fits.operands.1.0) }
fits_in_range set most plains shapes (Neg a) short fits = record { first = omega (arith, fits.operands.0); second = tt }
fits_in_range set most plains shapes (AddPlain a p) short fits = record { first = omega (arith, fits.operands.0); second = fits.plain }
fits_in_range set most plains shapes (SubPlain a p) short fits = record { first = omega (arith, fits.operands.0); second = fits.plain }
fits_in_range set most plains shapes (MulPlain a p) short fits = record { first = omega (arith, fits.operands.0); second = fits.plain }
fits_in_range set most plains shapes (MulConst a k) short fits = record { first = omega (arith, fits.operands.0); second = omega (arith, fits.factor, plain_small set) }
fits_in_range set most plains shapes (Mul a b) short fits = record { first = omega (arith, fits.operands.0); second = omega (arith, fits.operands.1.0) }
fits_in_range set most plains shapes (Relin a) short fits = record { first = omega (arith, fits.operands.0); second = tt }
fits_in_range set most plains shapes (Turn a k) short fits = record { first = omega (arith, fits.operands.0); second = omega (arith, fits.distance.1, degree_small set) }
fits_in_range set most plains shapes (Swap a) short fits = record { first = omega (arith, fits.operands.0); second = tt }

all_in_range : (set : SetName) (most plains : ℕ) (shapes : List Shape) (steps : List Step) → length shapes + length steps ≤ most → AllFit set plains shapes steps → All (λ step. InRange most plains step.op) steps
all_in_range set most plains shapes [] short fit = All-nil (λ (step : Step). InRange most plains step.op)
all_in_range set most plains shapes (step ∷ steps) short fit =
    let one = length-append shapes (shape_made shapes step.op ∷ []) in
    All-cons (λ (step : Step). InRange most plains step.op) step steps
    (fits_in_range set most plains shapes step.op (omega arith) fit.0)
    (all_in_range set most plains (shapes ++ shape_made shapes step.op ∷ []) steps (omega arith) fit.1)

-- ---- names

-- names of one kind before others
names_parts : {A : Type 0} (name_of : A → List ℕ) (things : List A) (others : List (List ℕ)) → All (λ name. is_name name ≡ true) (map name_of things ++ others)
    → All (λ thing. is_name (name_of thing) ≡ true) things × All (λ name. is_name name ≡ true) others
names_parts {A} name_of [] others all = (All-nil (λ (thing : A). is_name (name_of thing) ≡ true), all)
names_parts {A} name_of (thing ∷ things) others all =
    let rest = names_parts name_of things others (All-tail (λ name. is_name name ≡ true) (name_of thing) (map name_of things ++ others) all) in
    (All-cons (λ (thing : A). is_name (name_of thing) ≡ true) thing things (All-head (λ name. is_name name ≡ true) (name_of thing) (map name_of things ++ others) all) rest.0, rest.1)

-- what is said of the names of a script
pub record AreNames (script : Script) : Type 0 where
  pub inputs : All (λ input. is_name input.name ≡ true) script.inputs
  pub steps : All (λ step. is_name step.name ≡ true) script.steps
  pub registers : All (λ name. is_name name ≡ true) (register_names script)
  pub plains : All (λ name. is_name name ≡ true) (plain_names script)

pub sound_names : (script : Script) → IsSound script → AreNames script
sound_names script sound =
    let both = names_parts (λ (input : Input). input.name) script.inputs (map (λ (step : Step). step.name) script.steps) sound.names in
    let made = subst (All (λ name. is_name name ≡ true)) (sym (append-nil (map (λ (step : Step). step.name) script.steps))) both.1 in
    let ciphers = All-filter is_cipher (λ (input : Input). is_name input.name ≡ true) script.inputs both.0 in
    let plain = All-filter is_plain (λ (input : Input). is_name input.name ≡ true) script.inputs both.0 in
    record {
      inputs = both.0;
      steps = (names_parts (λ (step : Step). step.name) script.steps [] made).0;
      registers = All-append (λ name. is_name name ≡ true) (map (λ (input : Input). input.name) (cipher_inputs script.inputs)) (map (λ (step : Step). step.name) script.steps)
          (All-map (λ name. is_name name ≡ true) (λ (input : Input). input.name) (cipher_inputs script.inputs) ciphers) both.1;
      plains = All-map (λ name. is_name name ≡ true) (λ (input : Input). input.name) (plain_inputs script.inputs) plain;
    }

-- ---- lines

-- a plain line, of at most so many bytes
record IsShortLine (words : List (List ℕ)) : Type 0 where
  pub plain : IsPlainLine words
  pub few : length (printed_line words) ≤ 165

-- each further word of a line has a space before it
few_further : (words : List (List ℕ)) → All IsShortWord words → length (flat_map (λ other. 32 ∷ other) words) ≤ 33 * length words
few_further [] all = omega arith
few_further (word ∷ words) all =
    let first = (All-head IsShortWord word words all).few in
    let rest = few_further words (All-tail IsShortWord word words all) in
    let joined = length-append (32 ∷ word) (flat_map (λ (other : List ℕ). 32 ∷ other) words) in
    omega (arith, first, rest, joined)

-- at most five words make a short line
short_line : (word : List ℕ) (words : List (List ℕ)) → length words ≤ 4 → All IsShortWord (word ∷ words) → (slice_index word 0 == 35) ≡ false → IsShortLine (word ∷ words)
short_line word words five all counts =
    let first = (All-head IsShortWord word words all).few in
    let rest = few_further words (All-tail IsShortWord word words all) in
    let further = flat_map (λ (other : List ℕ). 32 ∷ other) words in
    let front = length-append word further in
    let whole = length-append (word ++ further) (10 ∷ []) in
    record {
      plain = record { some = omega arith; each = λ i below. record { some = (all i [] below).some; bytes = (all i [] below).bytes }; counts = counts };
      few = omega (arith, first, rest, front, whole);
    }

-- two words make a short line
two_words : (word other : List ℕ) → IsShortWord word → IsShortWord other → (slice_index word 0 == 35) ≡ false → IsShortLine (word ∷ other ∷ [])
two_words word other first second counts =
    short_line word (other ∷ []) (omega arith) (All-cons IsShortWord word (other ∷ []) first (All-cons IsShortWord other [] second (All-nil IsShortWord))) counts

kind_counts : (kind : InputKind) → (slice_index (kind_text kind) 0 == 35) ≡ false
kind_counts Cipher = refl
kind_counts Plain = refl

input_lines : (inputs : List Input) → All (λ input. is_name input.name ≡ true) inputs → All IsShortLine (map input_words inputs)
unfolding input_words
input_lines inputs names = All-map IsShortLine input_words inputs
    (λ i d below. two_words (kind_text (get_or inputs i d).kind) (get_or inputs i d).name (kind_word (get_or inputs i d).kind) (name_word (get_or inputs i d).name (names i d below)) (kind_counts (get_or inputs i d).kind))

-- a name among others
named_word : (names : List (List ℕ)) (i : ℕ) → All (λ name. is_name name ≡ true) names → i < length names → IsShortWord (slice_index_or names i [])
named_word names i all below = name_word (slice_index_or names i []) (all i [] below)

one_word : (word : List ℕ) → IsShortWord word → All IsShortWord (word ∷ [])
one_word word is = All-cons IsShortWord word [] is (All-nil IsShortWord)

-- the words of the second operand
operand_words : (registers plains : List (List ℕ)) (op : Op) → All (λ name. is_name name ≡ true) registers → All (λ name. is_name name ≡ true) plains
    → SecondInRange (length registers) (length plains) op → All IsShortWord (second_words registers plains op)
operand_words registers plains (Add a b) names others range = one_word (slice_index_or registers b []) (named_word registers b names range)
operand_words registers plains (Sub a b) names others range = one_word (slice_index_or registers b []) (named_word registers b names range)
operand_words registers plains (Neg a) names others range = All-nil IsShortWord
operand_words registers plains (AddPlain a p) names others range = one_word (slice_index_or plains p []) (named_word plains p others range)
operand_words registers plains (SubPlain a p) names others range = one_word (slice_index_or plains p []) (named_word plains p others range)
operand_words registers plains (MulPlain a p) names others range = one_word (slice_index_or plains p []) (named_word plains p others range)
operand_words registers plains (MulConst a k) names others range = one_word (decimal k) (decimal_word k range)
operand_words registers plains (Mul a b) names others range = one_word (slice_index_or registers b []) (named_word registers b names range)
operand_words registers plains (Relin a) names others range = All-nil IsShortWord
operand_words registers plains (Turn a k) names others range = one_word (decimal k) (decimal_word k range)
operand_words registers plains (Swap a) names others range = All-nil IsShortWord

few_operands : (registers plains : List (List ℕ)) (op : Op) → length (second_words registers plains op) ≤ 1
few_operands registers plains (Add a b) = omega arith
few_operands registers plains (Sub a b) = omega arith
few_operands registers plains (Neg a) = omega arith
few_operands registers plains (AddPlain a p) = omega arith
few_operands registers plains (SubPlain a p) = omega arith
few_operands registers plains (MulPlain a p) = omega arith
few_operands registers plains (MulConst a k) = omega arith
few_operands registers plains (Mul a b) = omega arith
few_operands registers plains (Relin a) = omega arith
few_operands registers plains (Turn a k) = omega arith
few_operands registers plains (Swap a) = omega arith

step_line : (registers plains : List (List ℕ)) (step : Step) → is_name step.name ≡ true → All (λ name. is_name name ≡ true) registers → All (λ name. is_name name ≡ true) plains
    → InRange (length registers) (length plains) step.op → IsShortLine (step_words registers plains step)
unfolding step_words
step_line registers plains step name names others range =
    let first = slice_index_or registers (first_operand step.op) [] in
    let second = second_words registers plains step.op in
    let word = keyword_text (keyword_of step.op) in
    let few = few_operands registers plains step.op in
    short_line step.name (codes "=" ∷ word ∷ first ∷ second) (omega (arith, few))
    (All-cons IsShortWord step.name (codes "=" ∷ word ∷ first ∷ second) (name_word step.name name)
    (All-cons IsShortWord (codes "=") (word ∷ first ∷ second) equals_word
    (All-cons IsShortWord word (first ∷ second) (keyword_word (keyword_of step.op))
    (All-cons IsShortWord first second (named_word registers (first_operand step.op) names range.first) (operand_words registers plains step.op names others range.second)))))
    (name_counts step.name name)

-- how many registers have names
pub length-register_names : (script : Script) → length (register_names script) ≡ length (cipher_inputs script.inputs) + length script.steps
length-register_names script =
    length-append (map (λ (input : Input). input.name) (cipher_inputs script.inputs)) (map (λ (step : Step). step.name) script.steps)
    ∙ ap₂ (λ (a b : ℕ). a + b) (length-map (cipher_inputs script.inputs) (λ (input : Input). input.name)) (length-map script.steps (λ (step : Step). step.name))

step_lines : (script : Script) → IsSound script → All IsShortLine (map (step_words (register_names script) (plain_names script)) script.steps)
step_lines script sound =
    let names = sound_names script sound in
    let registers = register_names script in
    let plains = plain_names script in
    let count = length-register_names script in
    let twos = length-replicate {A = Shape} (length (cipher_inputs script.inputs)) input_shape in
    let plain_count : length plains ≡ length (plain_inputs script.inputs) = length-map (plain_inputs script.inputs) (λ (input : Input). input.name) in
    let ranges = all_in_range script.set (length registers) (length (plain_inputs script.inputs)) (replicate (length (cipher_inputs script.inputs)) input_shape) script.steps (omega (arith, count, twos)) sound.fit in
    All-map IsShortLine (step_words registers plains) script.steps
    (λ i d below. step_line registers plains (get_or script.steps i d) (names.steps i d below) names.registers names.plains
    (subst (λ (n : ℕ). InRange (length registers) n (get_or script.steps i d).op) (sym plain_count) (ranges i d below)))

output_line_short : (script : Script) → IsSound script → IsShortLine (codes "output" ∷ slice_index_or (register_names script) script.output [] ∷ [])
output_line_short script sound =
    two_words (codes "output") (slice_index_or (register_names script) script.output []) output_word
    (named_word (register_names script) script.output (sound_names script sound).registers (subst (λ (n : ℕ). script.output < n) (sym (length-register_names script)) sound.output)) refl

-- all lines of a script
short_lines : (script : Script) → IsSound script → All IsShortLine (script_lines script)
unfolding script_lines
short_lines script sound =
    let output : List (List ℕ) = codes "output" ∷ slice_index_or (register_names script) script.output [] ∷ [] in
    let inputs = map input_words script.inputs in
    let steps = map (step_words (register_names script) (plain_names script)) script.steps in
    All-cons IsShortLine (codes "set" ∷ name_of script.set ∷ []) (inputs ++ (steps ++ output ∷ []))
    (two_words (codes "set") (name_of script.set) set_word (set_name_word script.set) refl)
    (All-append IsShortLine inputs (steps ++ output ∷ []) (input_lines script.inputs (sound_names script sound).inputs)
    (All-append IsShortLine steps (output ∷ []) (step_lines script sound)
    (All-cons IsShortLine output [] (output_line_short script sound) (All-nil IsShortLine))))

pub plain_lines : (script : Script) → IsSound script → (i : ℕ) → i < length (script_lines script) → IsPlainLine (slice_index_or (script_lines script) i [])
plain_lines script sound i below = (short_lines script sound i [] below).plain

-- ---- the length of the text

few_bytes : (lines : List (List (List ℕ))) → All IsShortLine lines → length (flat_map printed_line lines) ≤ 165 * length lines
few_bytes [] all = omega arith
few_bytes (words ∷ lines) all =
    let first = (All-head IsShortLine words lines all).few in
    let rest = few_bytes lines (All-tail IsShortLine words lines all) in
    let joined = length-append (printed_line words) (flat_map printed_line lines) in
    omega (arith, first, rest, joined)

pub length-script_lines : (script : Script) → length (script_lines script) ≡ length script.inputs + length script.steps + 2
unfolding script_lines
length-script_lines script =
    let output : List (List ℕ) = codes "output" ∷ slice_index_or (register_names script) script.output [] ∷ [] in
    let inputs = map input_words script.inputs in
    let steps = map (step_words (register_names script) (plain_names script)) script.steps in
    let whole = length-append inputs (steps ++ output ∷ []) in
    let rest = length-append steps (output ∷ []) in
    let input_count = length-map script.inputs input_words in
    let step_count = length-map script.steps (step_words (register_names script) (plain_names script)) in
    omega (arith, whole, rest, input_count, step_count)

pub short_printed : (script : Script) → IsSound script → length (printed_script script) ≤ max_script_bytes
short_printed script sound =
    let bytes = few_bytes (script_lines script) (short_lines script sound) in
    let count = length-script_lines script in
    let same = ap length (printed_is_lines script) in
    let inputs = sound.few_inputs in
    let steps = sound.few_steps in
    omega (arith, bytes, count, same, inputs, steps)
