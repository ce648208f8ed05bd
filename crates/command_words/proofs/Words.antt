-- Words as strings and as lists of bytes.
use Rattle.std.proofs.Common.{◌≡◌, ◌<◌, ◌≤◌, inl, inr, subst, Bool, true, false, ◌||◌, ℕ, List, [], ◌∷◌, ◌++◌, map, refl, sym, ap, arith, append-nil, length, get_or, ◌&&◌, nat_le, ◌-◌, take, drop}
use Rattle.std.specs.Prelude.{String, Option, Some, None, is_some, codes, if◌then◌else◌}
use Rattle.std.specs.Str.{bytes_eq}
use Rattle.std.proofs.lemmas.List.{length-map}
use Rattle.std.proofs.Math.Seq.{take-length}
use Rattle.std.proofs.lemmas.List.Folds.{list_all-map}
use Rattle.std.specs.List.{list_any, list_all}
use Rattle.std.specs.String.{string_bytes}
use Rattle.std.specs.declared.alloc.Global.{Global}
use Rattle.set_table.specs.declared.SetName.{SetName}
use Rattle.set_table.specs.Sets.{set_named}
use Rattle.command_words.specs.Step.{step_named}
use Rattle.command_words.specs.Form.{has_empty_word, form_of, form_of_three, form_of_four, form_of_full_words, is_binding, is_run, HasCount, IsOperand}
use Rattle.command_words.specs.Line.{text_about, word_at}
use Rattle.command_words.specs.declared.form.Form.{Form}
use Rattle.command_words.specs.declared.form.Form.TheVariants.{Secret, Public, Relin, Turn, Encrypt, Run, Decrypt, Check, Report, Batch}
use Rattle.command_words.specs.declared.step.Step.{Step}

-- one of the strings passes a test of bytes exactly where one of the words does
pub list_any-map : (test : List ℕ → Bool) (words : List (String Global)) → list_any test (map string_bytes words) ≡ list_any (λ word. test (string_bytes word)) words
list_any-map test [] = refl
list_any-map test (word ∷ words) = ap (λ (b : Bool). test (string_bytes word) || b) (list_any-map test words)

-- the form of four words is told by the first two
pub full_four : (words : List (String Global)) (command first : String Global) → 4 ≤ length words → length words < 5
    → command ≡ get_or words 0 command → first ≡ get_or words 1 first
    → form_of_full_words (map string_bytes words) ≡ form_of_three (string_bytes command) (string_bytes first)
full_four (_ ∷ _ ∷ _ ∷ _ ∷ []) command first least below is second = rw is (rw second refl)
full_four [] command first least below is second = absurd (omega arith)
full_four (_ ∷ []) command first least below is second = absurd (omega arith)
full_four (_ ∷ _ ∷ []) command first least below is second = absurd (omega arith)
full_four (_ ∷ _ ∷ _ ∷ []) command first least below is second = absurd (omega arith)
full_four (_ ∷ _ ∷ _ ∷ _ ∷ _ ∷ _) command first least below is second = absurd (omega arith)

-- the form of five words is told by the first and the third
pub full_five : (words : List (String Global)) (command second : String Global) → 5 ≤ length words → length words < 6
    → command ≡ get_or words 0 command → second ≡ get_or words 2 second
    → form_of_full_words (map string_bytes words) ≡ form_of_four (string_bytes command) (string_bytes second)
full_five (_ ∷ _ ∷ _ ∷ _ ∷ _ ∷ []) command second least below is third = rw is (rw third refl)
full_five [] command second least below is third = absurd (omega arith)
full_five (_ ∷ []) command second least below is third = absurd (omega arith)
full_five (_ ∷ _ ∷ []) command second least below is third = absurd (omega arith)
full_five (_ ∷ _ ∷ _ ∷ []) command second least below is third = absurd (omega arith)
full_five (_ ∷ _ ∷ _ ∷ _ ∷ []) command second least below is third = absurd (omega arith)
full_five (_ ∷ _ ∷ _ ∷ _ ∷ _ ∷ _ ∷ _) command second least below is third = absurd (omega arith)

-- whether words are those of `run`
pub run_words : (words : List (String Global)) (command : String Global) → 3 ≤ length words → command ≡ get_or words 0 command
    → is_run (map string_bytes words) ≡ (bytes_eq (string_bytes command) (codes "run")
    && (nat_le (length words - 3) 997 && list_all (λ word. is_binding (string_bytes word)) (take (length words - 3) (drop 3 words))))
run_words (name ∷ script ∷ out ∷ bindings) command least is =
    let count : length (name ∷ script ∷ out ∷ bindings) - 3 ≡ length bindings = omega arith in
    rw is (rw count (rw (take-length bindings) (rw (length-map bindings (string_bytes {Z = Global})) (rw (list_all-map is_binding (string_bytes {Z = Global}) bindings) refl))))
run_words [] command least is = absurd (omega arith)
run_words (_ ∷ []) command least is = absurd (omega arith)
run_words (_ ∷ _ ∷ []) command least is = absurd (omega arith)

-- the number of a file operand is that of a word
pub operand_below : (form : Form) (word count : ℕ) → HasCount form count → IsOperand form count word → word < count
operand_below Secret word count is second = omega arith
operand_below Public word count is (inl first) = omega arith
operand_below Public word count is (inr second) = omega arith
operand_below Relin word count is (inl first) = omega arith
operand_below Relin word count is (inr second) = omega arith
operand_below Turn word count is (inl first) = omega arith
operand_below Turn word count is (inr third) = omega arith
operand_below Encrypt word count is (inl first) = omega arith
operand_below Encrypt word count is (inr (inl second)) = omega arith
operand_below Encrypt word count is (inr (inr third)) = omega arith
operand_below Run word count is (inl first) = lt is.0 first
  where
    lt : 3 ≤ count → word ≡ 1 → word < count
    lt least first = omega arith
operand_below Run word count is (inr binding) = binding.1
operand_below Decrypt word count is (inl first) = omega arith
operand_below Decrypt word count is (inr second) = omega arith
operand_below Check word count is first = omega arith
operand_below Report word count is first = omega arith
operand_below Batch word count is first = omega arith

-- a text about a word begins with the text
pub text_about-split : (words : List (List ℕ)) (text : List ℕ) (whole : Bool) (word : Option ℕ) → text_about words text whole word ≡ text ++ text_about words [] whole word
text_about-split words text whole None = sym (append-nil text)
text_about-split words text whole (Some word) = refl

-- ---- what words with a form say besides
-- words with the form of a secret name a set, those of a turn a step, and those of a batch begin with its name
abbrev pub Says : Form → List (List ℕ) → Type 0
Says Secret words = (set : SetName) × (set_named (word_at words 1) ≡ Some set)
Says Turn words = (step : Step) × (step_named (word_at words 2) ≡ Some step)
Says Batch words = bytes_eq (word_at words 0) (codes "batch") ≡ true
Says _ words = Unit {0}

by_test : {S : Type 0} {form : Form} {a b : Option Form} (test : Bool) → (test ≡ true → a ≡ Some form → S) → (b ≡ Some form → S) → (if test then a else b) ≡ Some form → S
by_test true first second is = first refl is
by_test false first second is = second is

here : (words : List (List ℕ)) (form found : Form) → Says found words → Some found ≡ Some form → Says form words
here words form found says is = let same : found ≡ form = cc in subst (λ (f : Form). Says f words) same says

nowhere : {S : Type 0} {form : Form} → None ≡ Some form → S
nowhere is = absurd (cc)

is_there : {A : Type 0} (found : Option A) → is_some found ≡ true → (value : A) × (found ≡ Some value)
is_there (Some value) some = (value, refl)
is_there None some = absurd (cc)

full_words_say : (words : List (List ℕ)) (form : Form) → form_of_full_words words ≡ Some form → Says form words
unfolding form_of_three form_of_four
full_words_say (command ∷ first ∷ []) form is =
    by_test (bytes_eq command (codes "check")) (λ _. here _ _ Check tt) (by_test (bytes_eq command (codes "batch")) (λ named. here _ _ Batch named) nowhere) is
full_words_say (command ∷ first ∷ second ∷ []) form is = by_test (bytes_eq command (codes "report")) (λ _. here _ _ Report tt) nowhere is
full_words_say (command ∷ first ∷ second ∷ third ∷ []) form is =
    by_test (bytes_eq command (codes "secret")) (λ _. by_test (is_some (set_named first)) (λ some. here _ _ Secret (is_there (set_named first) some)) nowhere)
    (by_test (bytes_eq command (codes "public")) (λ _. here _ _ Public tt)
    (by_test (bytes_eq command (codes "relin")) (λ _. here _ _ Relin tt)
    (by_test (bytes_eq command (codes "decrypt")) (λ _. here _ _ Decrypt tt) nowhere))) is
full_words_say (command ∷ first ∷ second ∷ third ∷ fourth ∷ []) form is =
    by_test (bytes_eq command (codes "encrypt")) (λ _. here _ _ Encrypt tt)
    (by_test (bytes_eq command (codes "turn")) (λ _. by_test (is_some (step_named second)) (λ some. here _ _ Turn (is_there (step_named second) some)) nowhere) nowhere) is
full_words_say _ form is = absurd (cc)

pub words_say : (words : List (List ℕ)) (form : Form) → form_of words ≡ Some form → Says form words
words_say words form is = by_test (has_empty_word words) (λ _. nowhere) (by_test (is_run words) (λ _. here _ _ Run tt) (full_words_say words form)) is
