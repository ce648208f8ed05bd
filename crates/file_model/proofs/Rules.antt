-- What the rules of a file's fields say of their numbers.
use Rattle.std.proofs.Common.{◌≡◌, ◌⊎◌, ℕ, ◌+◌, ◌*◌, ◌/◌, ◌%◌, ◌^◌, ◌<◌, ◌≤◌, List, [], ◌∷◌, length, get_or, refl, ap, arith, lit<, inl, inr}
use Rattle.std.specs.Prelude.{Bool, true, ◌&&◌, ◌||◌, ◌==◌, nat_lt, nat_le, slice_index, IsTrue}
use Rattle.std.specs.List.{list_all}
use Rattle.std.proofs.Math.Logic.{⊎_elim}
use Rattle.std.proofs.Math.Nat.{mul-le-mul_left}
use Rattle.std.proofs.Math.Pow.{pow_mono}
use Rattle.std.proofs.lemmas.Bool.{eqb-true, ltb-true, leb-true, cases_lt, and_parts, or_cases, both_ways, true_from_ne_false}
use Rattle.std.proofs.lemmas.List.Folds.{list_all_at}
use Rattle.std.proofs.lemmas.List.{get_or_past}
use Rattle.set_table.specs.declared.SetName.{SetName}
use Rattle.set_table.specs.declared.SetName.TheVariants.{One16, Toy16, S4096, S8192, S16384}
use Rattle.set_table.specs.declared.KeyKind.TheVariants.{Relin, Turn}
use Rattle.set_table.specs.Sets.{degree_of, data_of, key_of}
use Rattle.ring_law.specs.Moduli.{product}
use Rattle.bound_num.specs.Bound.{bound_value, IsCanonical}
use Rattle.file_model.specs.declared.file_kind.FileKind.{FileKind}
use Rattle.file_model.specs.declared.file_kind.FileKind.TheVariants.{Secret, PublicKey, SwitchKey, Cipher}
use Rattle.bfv_model.specs.Limit.{limit}
use Rattle.file_model.specs.FileText.{FileContent, KeepsRules, parts_fit, element_fits, bound_fits, row_count, row_moduli, word_modulus}
use Rattle.bfv_model.proofs.Limits.{limit_le, limit_lt}
use Rattle.file_model.proofs.Heads.{FieldsAreShort}
use Rattle.bfv_model.proofs.Sets.{degree_lt, data_count_lt}

-- an element of a list that passes whole
pub list_all-at : {X : Type 0} (test : X → Bool) (xs : List X) (i : ℕ) (d : X) → list_all test xs ≡ true → i < length xs
    → test (get_or xs i d) ≡ true
list_all-at test xs i d all below =
    true_from_ne_false (test (get_or xs i d)) (λ no. both_ways (list_all test xs) (list_all_at test xs i d below no) all)

element_lt : (kind : FileKind) (set : SetName) (element : ℕ) → IsTrue (element_fits kind set element) → element < 4294967296
element_lt (SwitchKey Turn) set element fits =
    let range = (and_parts (element % 2 == 1) (nat_lt 1 element && nat_lt element (2 * degree_of set)) fits).1 in
    let below = ltb-true element (2 * degree_of set) (and_parts (nat_lt 1 element) (nat_lt element (2 * degree_of set)) range).1 in
    let degree = degree_lt set in
    omega arith
element_lt (SwitchKey Relin) set element fits = let none = eqb-true element 0 fits in omega arith
element_lt Secret set element fits = let none = eqb-true element 0 fits in omega arith
element_lt PublicKey set element fits = let none = eqb-true element 0 fits in omega arith
element_lt Cipher set element fits = let none = eqb-true element 0 fits in omega arith

-- what the rule of a cipher's bound says
pub record BoundFits (set : SetName) (mantissa exponent : ℕ) : Type 0 where
  pub word : mantissa < 4294967296
  pub full : (exponent ≡ 0) ⊎ (2147483648 ≤ mantissa)
  pub within : bound_value mantissa exponent ≤ limit (data_of set)

-- what the rule of a bound says
pub cipher_bound : (set : SetName) (mantissa exponent : ℕ) → IsTrue (bound_fits Cipher set mantissa exponent)
    → BoundFits set mantissa exponent
cipher_bound set mantissa exponent fits =
    let canonical = nat_lt mantissa 4294967296 && ((exponent == 0) || nat_le 2147483648 mantissa) in
    let both = and_parts canonical (nat_le (bound_value mantissa exponent) (limit (data_of set))) fits in
    let parts = and_parts (nat_lt mantissa 4294967296) ((exponent == 0) || nat_le 2147483648 mantissa) both.0 in
    record {
      word = ltb-true mantissa 4294967296 parts.0;
      full =
          ⊎_elim (λ (is : (exponent == 0) ≡ true). inl (eqb-true exponent 0 is))
          (λ (is : nat_le 2147483648 mantissa ≡ true). inr (leb-true 2147483648 mantissa is))
          (or_cases (exponent == 0) (nat_le 2147483648 mantissa) parts.1);
      within = leb-true (bound_value mantissa exponent) (limit (data_of set)) both.1;
    }

-- the bound of a cipher's file is a canonical bound
pub cipher_bound-IsCanonical : (set : SetName) (mantissa exponent : ℕ) → IsTrue (bound_fits Cipher set mantissa exponent)
    → IsCanonical mantissa exponent
cipher_bound-IsCanonical set mantissa exponent fits =
    let b = cipher_bound set mantissa exponent fits in
    record { word = b.word; full = b.full }

-- and it leaves room for decryption
pub cipher_bound-room : (set : SetName) (mantissa exponent : ℕ) → IsTrue (bound_fits Cipher set mantissa exponent)
    → 4 * bound_value mantissa exponent ≤ product (data_of set)
cipher_bound-room set mantissa exponent fits =
    let within = (cipher_bound set mantissa exponent fits).within in
    let quarter = limit_le (data_of set) in
    omega arith

above_top : (top m e value : ℕ) → top ≤ 2 ^ e → 0 < m → m * 2 ^ e ≤ value → value < top → ⊥
above_top top m e value high positive within below =
    let scaled : 2 ^ e * 1 ≤ 2 ^ e * m = mul-le-mul_left (2 ^ e) positive in
    omega arith

no_bound : (mantissa exponent : ℕ) → IsTrue ((mantissa == 0) && (exponent == 0)) → (mantissa < 4294967296) × (exponent < 4294967296)
no_bound mantissa exponent fits =
    let both = and_parts (mantissa == 0) (exponent == 0) fits in
    let mantissa_is = eqb-true mantissa 0 both.0 in
    let exponent_is = eqb-true exponent 0 both.1 in
    (omega arith, omega arith)

exponent_small : (set : SetName) (mantissa exponent : ℕ) → BoundFits set mantissa exponent → exponent < 400
unfolding bound_value
exponent_small set mantissa exponent fits =
    ⊎_elim (λ (below : exponent < 400). below)
    (λ (above : 400 ≤ exponent).
    let positive : 0 < mantissa = ⊎_elim (λ (none : exponent ≡ 0). absurd (omega arith))
    (λ (full : 2147483648 ≤ mantissa). omega arith) fits.full in
    absurd (above_top (2 ^ 400) mantissa exponent (limit (data_of set)) (pow_mono above) positive fits.within (limit_lt set)))
    (cases_lt exponent 400)

bound_lt : (kind : FileKind) (set : SetName) (mantissa exponent : ℕ) → IsTrue (bound_fits kind set mantissa exponent)
    → (mantissa < 4294967296) × (exponent < 4294967296)
bound_lt Cipher set mantissa exponent fits =
    let b = cipher_bound set mantissa exponent fits in
    let word = b.word in
    let small = exponent_small set mantissa exponent b in
    (word, omega arith)
bound_lt Secret set mantissa exponent fits = no_bound mantissa exponent fits
bound_lt PublicKey set mantissa exponent fits = no_bound mantissa exponent fits
bound_lt (SwitchKey kind) set mantissa exponent fits = no_bound mantissa exponent fits

switch_row_count_lt : (set : SetName) → 2 * length (data_of set) * (length (data_of set) + 1) < 256
switch_row_count_lt One16 = lit< tt
switch_row_count_lt Toy16 = lit< tt
switch_row_count_lt S4096 = lit< tt
switch_row_count_lt S8192 = lit< tt
switch_row_count_lt S16384 = lit< tt

row_count_lt : (kind : FileKind) (set : SetName) (parts : ℕ) → IsTrue (parts_fit kind parts) → row_count kind set parts < 256
row_count_lt Secret set parts fits = lit< tt
row_count_lt PublicKey set parts fits = let rows = data_count_lt set in omega arith
row_count_lt (SwitchKey kind) set parts fits = switch_row_count_lt set
row_count_lt Cipher set parts fits =
    let rows = data_count_lt set in
    ⊎_elim (λ (two : (parts == 2) ≡ true). let is = ap (λ (p : ℕ). p * length (data_of set)) (eqb-true parts 2 two) in omega arith)
    (λ (three : (parts == 3) ≡ true). let is = ap (λ (p : ℕ). p * length (data_of set)) (eqb-true parts 3 three) in omega arith)
    (or_cases (parts == 2) (parts == 3) fits)

-- a file has fewer than 2^24 words
pub word_count_lt : (c : FileContent) → KeepsRules c → length c.words < 16777216
word_count_lt c rules =
    let rows = row_count_lt c.kind c.set c.parts rules.parts in
    let degree = degree_lt c.set in
    let most : degree_of c.set * row_count c.kind c.set c.parts ≤ degree_of c.set * 256 = mul-le-mul_left (degree_of c.set) (omega arith) in
    let count = rules.count in
    omega arith

pub fields_are_short : (c : FileContent) → KeepsRules c → FieldsAreShort c
fields_are_short c rules =
    let bound = bound_lt c.kind c.set c.mantissa c.exponent rules.bound in
    let count = word_count_lt c rules in
    record {
      key_id = rules.key_id;
      element = element_lt c.kind c.set c.element rules.element;
      mantissa = bound.0;
      exponent = bound.1;
      count = omega arith;
    }

-- each modulus is a word
all_words : List ℕ → Bool
all_words moduli = list_all (λ q. nat_lt q 18446744073709551616) moduli

all_words-at : (moduli : List ℕ) → all_words moduli ≡ true → (i : ℕ) → slice_index moduli i < 18446744073709551616
unfolding all_words
all_words-at moduli all i =
    ⊎_elim (λ (below : i < length moduli). ltb-true (slice_index moduli i) 18446744073709551616
    (list_all-at (λ q. nat_lt q 18446744073709551616) moduli i 0 all below))
    (λ (past : length moduli ≤ i). let none = get_or_past moduli i 0 past in omega arith)
    (cases_lt i (length moduli))

data_words : (set : SetName) → all_words (data_of set) ≡ true
unfolding all_words
data_words One16 = refl
data_words Toy16 = refl
data_words S4096 = refl
data_words S8192 = refl
data_words S16384 = refl

key_words : (set : SetName) → all_words (key_of set) ≡ true
unfolding all_words
key_words One16 = refl
key_words Toy16 = refl
key_words S4096 = refl
key_words S8192 = refl
key_words S16384 = refl

secret_words : all_words (3 ∷ []) ≡ true
unfolding all_words
secret_words = refl

row_moduli_words : (kind : FileKind) (set : SetName) → all_words (row_moduli kind set) ≡ true
row_moduli_words Secret set = secret_words
row_moduli_words PublicKey set = data_words set
row_moduli_words (SwitchKey kind) set = key_words set
row_moduli_words Cipher set = data_words set

-- each modulus of a file is a word
pub word_modulus_lt : (kind : FileKind) (set : SetName) (i : ℕ) → word_modulus kind set i < 18446744073709551616
word_modulus_lt kind set i =
    all_words-at (row_moduli kind set) (row_moduli_words kind set) (i / degree_of set % length (row_moduli kind set))

-- each word of a file is a word of 64 bits
pub word_lt : (c : FileContent) → KeepsRules c → (i : ℕ) → slice_index c.words i < 18446744073709551616
word_lt c rules i =
    ⊎_elim (λ (below : i < length c.words). let small = word_modulus_lt c.kind c.set i in let reduced = rules.reduced i below in omega arith)
    (λ (past : length c.words ≤ i). let none = get_or_past c.words i 0 past in omega arith)
    (cases_lt i (length c.words))
