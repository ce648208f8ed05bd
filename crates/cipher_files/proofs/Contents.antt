-- The contents of files that are written.
use Rattle.std.proofs.Common.{◌≡◌, ◌⊎◌, ◌<◌, ◌≤◌, ◌+◌, ◌-◌, ◌*◌, ◌/◌, ◌%◌, ◌++◌, List, [], ◌∷◌, map, take, drop, length, length-take, length-drop, get_or, get_or-drop, ℕ, zero, suc, ℤ, pos, negsuc, nat_abs, refl, sym, ◌∙◌, ap, ap₂, subst, arith, append_assoc, mod-lt, lit<, ⊎_elim}
use Rattle.std.specs.Prelude.{Option, None, Some, true, slice_index, slice_range, unwrap_or}
use Rattle.std.specs.FinMap as map
use Rattle.std.specs.Option.{ForSome}
use Rattle.std.specs.List.{concat}
use Rattle.std.proofs.Math.Nat.{mod-one, mul-le-mul_right}
use Rattle.std.proofs.lemmas.List.{append-nil, ext_get_or, get_or-map, get_or-take, length-map}
use Rattle.std.proofs.lemmas.Nat.{div-mul-add, mod-mul-add}
use Rattle.outer_io.specs.Store.{Files, with_file}
use Rattle.set_table.specs.declared.SetName.{SetName}
use Rattle.set_table.specs.Sets.{data_of, degree_of, key_of}
use Rattle.ring_law.specs.Sums.{values_below}
use Rattle.ring_law.specs.Residues.{residue}
use Rattle.ring_law.specs.Polynomials.{AllWithin}
use Rattle.ring_law.specs.Rows.{listed_polynomial, word_at}
use Rattle.ring_law.proofs.Residues.{residue_lt}
use Rattle.ring_law.proofs.Values.{get_or-values_below, length-values_below, values_below-get_or}
use Rattle.file_model.specs.declared.file_kind.FileKind.{FileKind}
use Rattle.file_model.specs.declared.file_kind.FileKind.TheVariants.{Secret}
use Rattle.file_model.specs.Bytes.{word_bytes}
use Rattle.file_model.specs.FileText.{KeepsRules, digested, file_text, head_text, row_count, row_moduli, word_modulus}
use Rattle.bfv_model.specs.Holds.{listed_word, listed_words, secret_polynomial, ternary_coefficient}
use Rattle.bfv_model.proofs.Sets.{degree_pos, data_count_pos}
use Rattle.file_model.proofs.Words.{word_bytes-append, word_bytes-take-add}
use Rattle.bfv_params.specs.Rows.{ReducedInTurn}
use Rattle.file_model.specs.KeyWords.{digit_words, key_words}
use Rattle.cipher_files.specs.Contents.{IsFront, part_words, secret_words}
use Rattle.file_model.specs.Heads.{HeadKeepsRules, content_with, wants}
use Rattle.file_model.specs.declared.head.Head.{Head}
use Rattle.file_model.specs.declared.head.Wanted.TheVariants.{Key}
use Rattle.cipher_files.proofs.ListedWords.{length-listed_words, listed_words-add, listed_words_ext, listed_words_reduced}
use Rattle.cipher_files.proofs.RowWords.{listed_words-rows, word_bytes-none}
use Rattle.cipher_files.proofs.Tables.{key_table}

-- ---- texts
-- a text from its pieces, each put behind the ones before
pub eight_pieces : (b1 b2 b3 b4 b5 b6 b7 b8 p1 p2 p3 p4 p5 p6 p7 p8 : List ℕ) → take 7 b1 ≡ p1 → take 12 b2 ≡ take 7 b1 ++ p2 → take 16 b3 ≡ take 12 b2 ++ p3
    → take 32 b4 ≡ take 16 b3 ++ p4 → take 36 b5 ≡ take 32 b4 ++ p5 → take 40 b6 ≡ take 36 b5 ++ p6 → take 48 b7 ≡ take 40 b6 ++ p7 → take 64 b8 ≡ take 48 b7 ++ p8
    → take 64 b8 ≡ p1 ++ p2 ++ p3 ++ p4 ++ p5 ++ p6 ++ p7 ++ p8
eight_pieces b1 b2 b3 b4 b5 b6 b7 b8 p1 p2 p3 p4 p5 p6 p7 p8 e1 e2 e3 e4 e5 e6 e7 e8 =
    e8 ∙ ap (λ (l : List ℕ). l ++ p8) (e7 ∙ ap (λ (l : List ℕ). l ++ p7) (e6 ∙ ap (λ (l : List ℕ). l ++ p6) (e5 ∙ ap (λ (l : List ℕ). l ++ p5)
    (e4 ∙ ap (λ (l : List ℕ). l ++ p4) (e3 ∙ ap (λ (l : List ℕ). l ++ p3) (e2 ∙ ap (λ (l : List ℕ). l ++ p2) e1))))))

-- a file that was begun with its head, before the first word
pub front_of_head : (head : Head) (bytes : List ℕ) → ((words : List ℕ) → length words ≡ head.words → bytes ≡ head_text (content_with head words)) → IsFront head [] bytes
front_of_head head bytes is whole size =
    is whole size ∙ sym (append-nil (head_text (content_with head whole))) ∙ ap (λ (l : List ℕ). head_text (content_with head whole) ++ l) (sym word_bytes-none)

-- and with more words
pub front-more : (head : Head) (words more before bytes : List ℕ) → IsFront head words before → bytes ≡ before ++ word_bytes more → IsFront head (words ++ more) bytes
front-more head words more before bytes front is whole size =
    is
    ∙ ap (λ (l : List ℕ). l ++ word_bytes more) (front whole size)
    ∙ append_assoc (head_text (content_with head whole)) (word_bytes words) (word_bytes more)
    ∙ ap (λ (l : List ℕ). head_text (content_with head whole) ++ l) (sym (word_bytes-append words more))

-- a file that is ended after its last word
pub ended : (told : Option Files) (pending : Option (List ℕ)) (written name : List ℕ) (head : Head) (words : List ℕ) → pending ≡ Some name → length words ≡ head.words
    → ForSome told (λ _. IsFront head words written)
    → with_file told (unwrap_or pending []) (digested written) ≡ with_file told name (file_text (content_with head words))
unfolding file_text
ended None pending written name head words is size front = refl
ended (Some files) pending written name head words is size front =
    ap₂ (λ (n b : List ℕ). Some (map.insert files n b)) (ap (λ (p : Option (List ℕ)). unwrap_or p []) is) (ap digested (front files refl words size))

-- ---- rules
keeps_rules : (head : Head) (words : List ℕ) → HeadKeepsRules head → length words ≡ head.words
    → ((i : ℕ) → i < length words → slice_index words i < word_modulus head.kind head.set i) → KeepsRules (content_with head words)
keeps_rules head words rules size reduced = record {
  set = rules.set;
  parts = rules.parts;
  element = rules.element;
  key_id = rules.key_id;
  bound = rules.bound;
  count = size ∙ rules.count;
  reduced = reduced;
}

-- the words of parts are reduced where the rows are
listed_keep_rules : (head : Head) (n count parts : ℕ) (moduli : List ℕ) (word : ℕ → ℕ → ℕ → ℕ) → HeadKeepsRules head
    → n ≡ degree_of head.set → 0 < count → row_moduli head.kind head.set ≡ moduli → length moduli ≡ count → parts * count * n ≡ head.words
    → ((j i k : ℕ) → j < parts → i < count → k < n → word j i k < slice_index moduli i) → KeepsRules (content_with head (listed_words n count parts word))
listed_keep_rules head n count parts moduli word rules degree some are counted total reduced =
    let size = length-listed_words n count parts word in
    let positive : 0 < n = subst (λ (d : ℕ). 0 < d) (sym degree) (degree_pos head.set) in
    keeps_rules head (listed_words n count parts word) rules (size ∙ total) (λ i below.
    let place : i < parts * count * n = omega arith in
    let modulus : slice_index moduli (i / n % count) ≡ word_modulus head.kind head.set i =
    ap₂ (λ (d c : ℕ). slice_index moduli (i / d % c)) degree (sym counted)
    ∙ ap (λ (l : List ℕ). slice_index l (i / degree_of head.set % length l)) (sym are) in
    subst (λ (q : ℕ). slice_index (listed_words n count parts word) i < q) modulus
    (listed_words_reduced n count parts moduli word positive some reduced i place))

-- ---- secrets
pub secret_words-residues : (n : ℕ) (small : List ℤ) → length small ≡ n → secret_words n small ≡ map (residue 3) small
secret_words-residues n small size =
    values_below-get_or n (λ k. residue 3 (listed_polynomial small k)) (map (residue 3) small) 0 (length-map small (residue 3) ∙ size)
    (λ i below. let inside : i < length small = omega arith in get_or-map (residue 3) small i (pos 0) 0 inside)

ternary-residue : (x : ℤ) → nat_abs x ≤ 1 → ternary_coefficient (residue 3 x) ≡ x
ternary-residue (pos zero) within = refl
ternary-residue (pos (suc zero)) within = refl
ternary-residue (pos (suc (suc a))) within = absurd (omega arith)
ternary-residue (negsuc zero) within = refl
ternary-residue (negsuc (suc a)) within = absurd (omega arith)

-- what is written stands for the secret
pub secret_polynomial-words : (n : ℕ) (small : List ℤ) → AllWithin n 1 (listed_polynomial small) → (k : ℕ) → k < n
    → secret_polynomial (secret_words n small) k ≡ listed_polynomial small k
secret_polynomial-words n small within k below =
    ap ternary_coefficient (get_or-values_below n (λ i. residue 3 (listed_polynomial small i)) k 0 below)
    ∙ ternary-residue (listed_polynomial small k) (within k below)

-- more residues, a piece of so many at a time
pub residues-more : (coefficients : List ℤ) (done count : ℕ) (piece : List ℕ) → done + count ≤ length coefficients → length piece ≡ count
    → ((i : ℕ) → i < count → get_or piece i 0 ≡ residue 3 (listed_polynomial (slice_range coefficients done (done + count)) i))
    → word_bytes (take (done + count) (map (residue 3) coefficients)) ≡ word_bytes (take done (map (residue 3) coefficients)) ++ word_bytes piece
residues-more coefficients done count piece within size same =
    word_bytes-take-add residues done count
    ∙ ap (λ (l : List ℕ). word_bytes (take done residues) ++ word_bytes l) (ext_get_or 0 (take count (drop done residues)) piece sizes at)
  where
    residues : List ℕ
    residues = map (residue 3) coefficients

    sizes : length (take count (drop done residues)) ≡ length piece
    sizes = let long = length-map coefficients (residue 3) in simp (length-take, length-drop) (omega arith)

    at : (i : ℕ) → i < length (take count (drop done residues)) → get_or (take count (drop done residues)) i 0 ≡ get_or piece i 0
    at i below =
        let inside : i < count = omega (arith, sizes) in
        let part : i < done + count - done = omega arith in
        let place : done + i < length coefficients = omega arith in
        get_or-take count (drop done residues) i 0 inside ∙ get_or-drop done residues i 0
        ∙ get_or-map (residue 3) coefficients (done + i) (pos 0) 0 place
        ∙ ap (residue 3) (sym (get_or-take (done + count - done) (drop done coefficients) i (pos 0) part ∙ get_or-drop done coefficients i (pos 0)))
        ∙ sym (same i inside)

-- a head of a secret states as many words as coefficients
pub secret_count : (head : Head) (n : ℕ) → HeadKeepsRules head → head.kind ≡ Secret → n ≡ degree_of head.set → n ≡ head.words
secret_count head n rules is degree =
    let count : head.words ≡ 1 * degree_of head.set = rules.count ∙ ap (λ (k : FileKind). row_count k head.set head.parts * degree_of head.set) is in
    omega arith

pub secret_keeps_rules : (head : Head) (n : ℕ) (small : List ℤ) → HeadKeepsRules head → head.kind ≡ Secret
    → n ≡ degree_of head.set → KeepsRules (content_with head (secret_words n small))
secret_keeps_rules head n small rules is degree =
    let size : length (secret_words n small) ≡ n = length-values_below n (λ k. residue 3 (listed_polynomial small k)) in
    keeps_rules head (secret_words n small) rules (size ∙ secret_count head n rules is degree) (λ i below.
    let inside : i < n = omega arith in
    let modulus : 3 ≡ word_modulus head.kind head.set i =
    sym (ap (λ (p : ℕ). slice_index (3 ∷ []) p) (mod-one (i / degree_of head.set))) ∙ ap (λ (k : FileKind). word_modulus k head.set i) (sym is) in
    subst (λ (q : ℕ). slice_index (secret_words n small) i < q) modulus
    (subst (λ (w : ℕ). w < 3) (sym (get_or-values_below n (λ k. residue 3 (listed_polynomial small k)) i 0 inside)) (residue_lt 3 (listed_polynomial small i) (lit< tt))))

-- ---- parts
-- the words of the rows that the parts have
pub part_words-front : (n : ℕ) (set : SetName) (parts : ℕ) (rows : List (List ℕ)) → 0 < n
    → part_words n set parts (slice_range rows 0 (parts * length (data_of set))) ≡ part_words n set parts rows
part_words-front n set parts rows some =
    let count = length (data_of set) in
    let end = parts * count in
    listed_words_ext n count parts (listed_word count (slice_range rows 0 end)) (listed_word count rows) some (data_count_pos set)
    (λ j i k part row place.
    let most : suc j * count ≤ parts * count = mul-le-mul_right count part in
    let inside : j * count + i < end - 0 = omega arith in
    ap (λ (l : List ℕ). get_or l k 0) (get_or-take (end - 0) rows (j * count + i) [] inside))

pub length-front : (rows : List (List ℕ)) (end : ℕ) → end ≤ length rows → length (slice_range rows 0 end) ≡ end
length-front rows end within = simp length-take (omega arith)

pub at_most_three : (parts count : ℕ) → (parts ≡ 2) ⊎ (parts ≡ 3) → parts * count ≤ 3 * count
at_most_three parts count is =
    ⊎_elim (λ (two : parts ≡ 2). subst (λ (p : ℕ). p * count ≤ 3 * count) (sym two) (omega arith))
    (λ (three : parts ≡ 3). subst (λ (p : ℕ). p * count ≤ 3 * count) (sym three) (omega arith)) is

pub parts_keep_rules : (head : Head) (n parts : ℕ) (rows : List (List ℕ)) → HeadKeepsRules head → n ≡ degree_of head.set
    → row_moduli head.kind head.set ≡ data_of head.set → parts * length (data_of head.set) * n ≡ head.words → parts * length (data_of head.set) ≤ length rows
    → ReducedInTurn n (length (data_of head.set)) (data_of head.set) rows → KeepsRules (content_with head (part_words n head.set parts rows))
parts_keep_rules head n parts rows rules degree are total within reduced =
    let count = length (data_of head.set) in
    listed_keep_rules head n count parts (data_of head.set) (listed_word count rows) rules degree (data_count_pos head.set) are refl total
    (λ j i k part row place.
    let most : suc j * count ≤ parts * count = mul-le-mul_right count part in
    let inside : j * count + i < length rows = omega arith in
    subst (λ (r : ℕ). word_at rows (j * count + i) k < slice_index (data_of head.set) r) (mod-mul-add j count i row) (reduced (j * count + i) inside k place))

-- ---- digits of switching keys
pub digit_words-none : (set : SetName) (word : ℕ → ℕ → ℕ → ℕ → ℕ) → digit_words set 0 word ≡ []
digit_words-none set word =
    let n = degree_of set in
    let count = length (data_of set) + 1 in
    let none : 0 * 2 * count * n ≡ 0 = omega arith in
    ap (λ (size : ℕ). values_below size (λ p. word (p / n / count / 2) (p / n / count % 2) (p / n % count) (p % n))) none

-- one more digit
pub digit_words-more : (set : SetName) (put : ℕ) (word : ℕ → ℕ → ℕ → ℕ → ℕ) (rows : List (List ℕ)) → length rows ≡ 2 * (length (data_of set) + 1)
    → ((i : ℕ) → i < length rows → length (get_or rows i []) ≡ degree_of set)
    → ((j r k : ℕ) → j < 2 → r < length (data_of set) + 1 → k < degree_of set → listed_word (length (data_of set) + 1) rows j r k ≡ word put j r k)
    → digit_words set (put + 1) word ≡ digit_words set put word ++ concat rows
digit_words-more set put word rows size each same =
    let n = degree_of set in
    let count = length (data_of set) + 1 in
    let by_part : ℕ → ℕ → ℕ → ℕ = λ part. word (part / 2) (part % 2) in
    let some_rows : 0 < count = omega arith in
    let parts : (put + 1) * 2 ≡ put * 2 + 2 = omega arith in
    ap (λ (p : ℕ). listed_words n count p by_part) parts
    ∙ listed_words-add n count (put * 2) 2 by_part (degree_pos set) some_rows
    ∙ ap (λ (l : List ℕ). digit_words set put word ++ l)
    (listed_words_ext n count 2 (λ j. by_part (put * 2 + j)) (listed_word count rows) (degree_pos set) some_rows
    (λ j r k part row place. ap₂ (λ x y. word x y r k) (div-mul-add put 2 j part) (mod-mul-add put 2 j part) ∙ sym (same j r k part row place))
    ∙ listed_words-rows n count 2 rows (degree_pos set) size each)

-- its words are reduced where the rows are
pub digit_reduced : (set : SetName) (put : ℕ) (word : ℕ → ℕ → ℕ → ℕ → ℕ) (rows : List (List ℕ)) → length rows ≡ 2 * (length (data_of set) + 1)
    → ReducedInTurn (degree_of set) (length (data_of set) + 1) (key_of set) rows
    → ((j r k : ℕ) → j < 2 → r < length (data_of set) + 1 → k < degree_of set → listed_word (length (data_of set) + 1) rows j r k ≡ word put j r k)
    → (j r k : ℕ) → j < 2 → r < length (data_of set) + 1 → k < degree_of set → word put j r k < slice_index (key_of set) r
digit_reduced set put word rows size reduced same j r k part row place =
    let count = length (data_of set) + 1 in
    let most : suc j * count ≤ 2 * count = mul-le-mul_right count part in
    let inside : j * count + r < length rows = omega arith in
    subst (λ (w : ℕ). w < slice_index (key_of set) r) (same j r k part row place)
    (subst (λ (i : ℕ). word_at rows (j * count + r) k < slice_index (key_of set) i) (mod-mul-add j count r row) (reduced (j * count + r) inside k place))

-- a head of a switching key states as many words as its digits have
pub key_words-count : (head : Head) (word : ℕ → ℕ → ℕ → ℕ → ℕ) → HeadKeepsRules head → wants Key head.kind ≡ true
    → length (key_words head.set word) ≡ head.words
key_words-count head word rules is =
    let count = length (data_of head.set) in
    let table = key_table head.kind head.set is rules.set in
    let total : head.words ≡ 2 * count * (count + 1) * degree_of head.set = rules.count ∙ ap (λ (r : ℕ). r * degree_of head.set) (table.rows head.parts) in
    let same : 2 * count * (count + 1) * degree_of head.set ≡ count * 2 * (count + 1) * degree_of head.set = omega arith in
    length-listed_words (degree_of head.set) (count + 1) (count * 2) (λ part. word (part / 2) (part % 2)) ∙ sym (total ∙ same)

pub key_keeps_rules : (head : Head) (word : ℕ → ℕ → ℕ → ℕ → ℕ) → HeadKeepsRules head → wants Key head.kind ≡ true
    → ((i j r k : ℕ) → i < length (data_of head.set) → j < 2 → r < length (data_of head.set) + 1 → k < degree_of head.set → word i j r k < slice_index (key_of head.set) r)
    → KeepsRules (content_with head (key_words head.set word))
key_keeps_rules head word rules is reduced =
    let count = length (data_of head.set) in
    let n = degree_of head.set in
    let by_part : ℕ → ℕ → ℕ → ℕ = λ part. word (part / 2) (part % 2) in
    let table = key_table head.kind head.set is rules.set in
    let some_rows : 0 < count + 1 = omega arith in
    listed_keep_rules head n (count + 1) (count * 2) (key_of head.set) by_part rules refl some_rows table.moduli table.count
    (sym (length-listed_words n (count + 1) (count * 2) by_part) ∙ key_words-count head word rules is)
    (λ part r k below row place.
    let digit : part / 2 < count = omega arith in
    reduced (part / 2) (part % 2) r k digit (mod-lt part (lit< tt)) row place)
