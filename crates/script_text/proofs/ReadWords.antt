-- A word that was understood is the one that is printed for what it means.
use Rattle.std.proofs.Common.{◌≡◌, ◌<◌, ◌==◌, ◌/◌, ℕ, List, [], ◌∷◌, length, map, get_or, Bool, true, false, not, cond, ◌&&◌, nat_lt, nat_le, Some, None, decimal, codes, slice_index, refl, sym, ap, ◌∙◌, arith}
use Rattle.std.specs.List.{list_all, find}
use Rattle.std.specs.Str.{bytes_eq}
use Rattle.std.specs.Char.{is_ascii_digit}
use Rattle.std.proofs.lemmas.Bool.{and_parts}
use Rattle.std.proofs.lemmas.Bool.Decides.{nat_tests}
use Rattle.std.proofs.lemmas.Fmt.{decimal-digits_value}
use Rattle.std.proofs.lemmas.List.Quantifiers.{position-Some}
use Rattle.std.proofs.lemmas.Slice.Eq.{bytes_eq-Decides}
use Rattle.set_table.specs.declared.SetName.{SetName}
use Rattle.set_table.specs.Sets.{sets, name_of, degree_of, plain_of, set_named}
use Rattle.line_text.specs.Names.{written_number, is_number, is_number_in}
use Rattle.script_text.specs.declared.keyword.Keyword.{Keyword}
use Rattle.script_text.specs.declared.keyword.Keyword.TheVariants as keyword
use Rattle.script_text.specs.declared.script.Input.{Input}
use Rattle.script_text.specs.Keywords.{keyword_text, keyword_named, keywords, second_of, operation}
use Rattle.script_text.specs.Scripts.{cipher_inputs, plain_inputs, names_of}
use Rattle.script_text.specs.Grammar.{Draft, register_named, plain_named, takes_one, is_second, second_value, keyword_after}
use Rattle.script_text.specs.Printed.{keyword_of, first_operand, second_words}
use Rattle.script_text.proofs.PrintedNumbers.{numerals}
use Rattle.script_text.proofs.SecondOperand.{plain_small, degree_small}

-- what `find` gives passes the test
found_passes : {A : Type 0} (test : A → Bool) (xs : List A) (x : A) → find test xs ≡ Some x → test x ≡ true
found_passes test [] x found = absurd cc
found_passes test (y ∷ ys) x found = by (test y) refl found (found_passes test ys x)
  where
    by : (passes : Bool) → test y ≡ passes → cond passes (Some y) (find test ys) ≡ Some x → (find test ys ≡ Some x → test x ≡ true) → test x ≡ true
    by true is found more = let same : y ≡ x = cc in sym (ap test same) ∙ is
    by false is found more = more found

-- the name of a register that was found
pub register_word : (draft : Draft) (word : List ℕ) (r : ℕ) → register_named draft word ≡ Some r → get_or (names_of (cipher_inputs draft.inputs) draft.steps) r [] ≡ word
unfolding register_named
register_word draft word r found =
    let names = names_of (cipher_inputs draft.inputs) draft.steps in
    (bytes_eq-Decides (get_or names r []) word).0 (position-Some (λ other. bytes_eq other word) names r [] found).1

-- the name of a plain input that was found
pub plain_word : (draft : Draft) (word : List ℕ) (p : ℕ) → plain_named draft word ≡ Some p → get_or (map (λ (input : Input). input.name) (plain_inputs draft.inputs)) p [] ≡ word
unfolding plain_named
plain_word draft word p found =
    let names = map (λ (input : Input). input.name) (plain_inputs draft.inputs) in
    (bytes_eq-Decides (get_or names p []) word).0 (position-Some (λ other. bytes_eq other word) names p [] found).1

-- 0 stands first only where it stands alone
stands_alone : (first size : ℕ) → not ((first == 48) && nat_lt 1 size) ≡ true → 0 < size → first ≡ 48 → size ≡ 1
stands_alone first size leads some is = grind (arith, nat_tests)

more_than_none : (size : ℕ) → nat_lt 0 size ≡ true → 0 < size
more_than_none size some = grind (arith, nat_tests)

-- a number has one spelling
pub number_word : (word : List ℕ) → is_number word ≡ true → written_number word < 65538 → decimal (written_number word) ≡ word
number_word word is small =
    let last = and_parts (list_all is_ascii_digit word && nat_lt 0 (length word) && nat_le (length word) 10) (not ((slice_index word 0 == 48) && nat_lt 1 (length word))) is in
    let few = and_parts (list_all is_ascii_digit word && nat_lt 0 (length word)) (nat_le (length word) 10) last.0 in
    let first = and_parts (list_all is_ascii_digit word) (nat_lt 0 (length word)) few.0 in
    let some = more_than_none (length word) first.1 in
    decimal-digits_value numerals word first.0 some (stands_alone (slice_index word 0) (length word) last.1 some) (omega arith)

-- a number in range
number_in_word : (low end : ℕ) (word : List ℕ) (b : ℕ) → end < 65538 → is_number_in low end word ≡ true → Some (written_number word) ≡ Some b → decimal b ≡ word
number_in_word low end word b few is found =
    let last = and_parts (is_number word && nat_le low (written_number word)) (nat_lt (written_number word) end) is in
    let first = and_parts (is_number word) (nat_le low (written_number word)) last.0 in
    let below : written_number word < end = grind (arith, nat_tests) in
    let same : written_number word ≡ b = cc in
    ap decimal (sym same) ∙ number_word word first.0 (omega arith)

-- the word of a second operand
pub second_word : (draft : Draft) (k : Keyword) (a b : ℕ) (word : List ℕ) → is_second draft.set (second_of k) word ≡ true → second_value draft (second_of k) word ≡ Some b
    → second_words (names_of (cipher_inputs draft.inputs) draft.steps) (map (λ (input : Input). input.name) (plain_inputs draft.inputs)) (operation k a b) ≡ word ∷ []
unfolding is_second second_value
second_word draft keyword.Add a b word is found = ap (λ (w : List ℕ). w ∷ []) (register_word draft word b found)
second_word draft keyword.Sub a b word is found = ap (λ (w : List ℕ). w ∷ []) (register_word draft word b found)
second_word draft keyword.Neg a b word is found = absurd cc
second_word draft keyword.AddPlain a b word is found = ap (λ (w : List ℕ). w ∷ []) (plain_word draft word b found)
second_word draft keyword.SubPlain a b word is found = ap (λ (w : List ℕ). w ∷ []) (plain_word draft word b found)
second_word draft keyword.MulPlain a b word is found = ap (λ (w : List ℕ). w ∷ []) (plain_word draft word b found)
second_word draft keyword.MulConst a b word is found = ap (λ (w : List ℕ). w ∷ []) (number_in_word 0 (plain_of draft.set) word b (plain_small draft.set) is found)
second_word draft keyword.Mul a b word is found = ap (λ (w : List ℕ). w ∷ []) (register_word draft word b found)
second_word draft keyword.Relin a b word is found = absurd cc
second_word draft keyword.Turn a b word is found = ap (λ (w : List ℕ). w ∷ []) (number_in_word 1 (degree_of draft.set / 2) word b (degree_small draft.set) is found)
second_word draft keyword.Swap a b word is found = absurd cc

-- no word where no second operand is taken
pub no_second_word : (registers plains : List (List ℕ)) (k : Keyword) (a b : ℕ) → takes_one (second_of k) ≡ true → second_words registers plains (operation k a b) ≡ []
no_second_word registers plains keyword.Add a b one = absurd cc
no_second_word registers plains keyword.Sub a b one = absurd cc
no_second_word registers plains keyword.Neg a b one = refl
no_second_word registers plains keyword.AddPlain a b one = absurd cc
no_second_word registers plains keyword.SubPlain a b one = absurd cc
no_second_word registers plains keyword.MulPlain a b one = absurd cc
no_second_word registers plains keyword.MulConst a b one = absurd cc
no_second_word registers plains keyword.Mul a b one = absurd cc
no_second_word registers plains keyword.Relin a b one = refl
no_second_word registers plains keyword.Turn a b one = absurd cc
no_second_word registers plains keyword.Swap a b one = refl

pub keyword_of-operation : (k : Keyword) (a b : ℕ) → (keyword_of (operation k a b) ≡ k) × (first_operand (operation k a b) ≡ a)
keyword_of-operation keyword.Add a b = (refl, refl)
keyword_of-operation keyword.Sub a b = (refl, refl)
keyword_of-operation keyword.Neg a b = (refl, refl)
keyword_of-operation keyword.AddPlain a b = (refl, refl)
keyword_of-operation keyword.SubPlain a b = (refl, refl)
keyword_of-operation keyword.MulPlain a b = (refl, refl)
keyword_of-operation keyword.MulConst a b = (refl, refl)
keyword_of-operation keyword.Mul a b = (refl, refl)
keyword_of-operation keyword.Relin a b = (refl, refl)
keyword_of-operation keyword.Turn a b = (refl, refl)
keyword_of-operation keyword.Swap a b = (refl, refl)

-- the keyword of a step has one spelling
keyword_word : (word : List ℕ) (k : Keyword) → keyword_named word ≡ Some k → keyword_text k ≡ word
keyword_word word k found = (bytes_eq-Decides (keyword_text k) word).0 (found_passes (λ (other : Keyword). bytes_eq (keyword_text other) word) keywords k found)

pub keyword_after_word : (equals word : List ℕ) (k : Keyword) → keyword_after equals word ≡ Some k → (equals ≡ codes "=") × (keyword_text k ≡ word)
unfolding keyword_after
keyword_after_word equals word k found = by (bytes_eq equals (codes "=")) refl found
  where
    by : (b : Bool) → bytes_eq equals (codes "=") ≡ b → cond b (keyword_named word) None ≡ Some k → (equals ≡ codes "=") × (keyword_text k ≡ word)
    by true is found = ((bytes_eq-Decides equals (codes "=")).0 is, keyword_word word k found)
    by false is found = absurd cc

-- the name of a set has one spelling
pub set_word : (word : List ℕ) (set : SetName) → set_named word ≡ Some set → name_of set ≡ word
unfolding set_named
set_word word set found = sym ((bytes_eq-Decides word (name_of set)).0 (found_passes (λ (other : SetName). bytes_eq word (name_of other)) sets set found))
