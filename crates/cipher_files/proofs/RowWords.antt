-- The words of rows, one row after another.
use Rattle.std.proofs.Common.{◌≡◌, ℕ, zero, suc, ◌+◌, ◌-◌, ◌*◌, ◌/◌, ◌%◌, ◌<◌, ◌≤◌, List, [], ◌∷◌, ◌++◌, length, get_or, take, refl, sym, ◌∙◌, ap, arith, length-append, mod-lt}
use Rattle.std.specs.List.{concat}
use Rattle.std.proofs.Math.Nat.{div-lt_iff_lt-mul}
use Rattle.std.proofs.Math.Seq.{get_or-append_right}
use Rattle.std.proofs.lemmas.List.{append-nil, get_or_append_left, take_more}
use Rattle.std.proofs.lemmas.List.Folds.{concat-append}
use Rattle.std.proofs.lemmas.Nat.{div-add-mod'}
use Rattle.ring_law.specs.Rows.{word_at}
use Rattle.ring_law.proofs.Values.{values_below-get_or}
use Rattle.file_model.specs.Bytes.{word_bytes}
use Rattle.bfv_model.specs.Holds.{listed_word, listed_words}
use Rattle.file_model.proofs.Words.{word_bytes-append}

pub word_bytes-none : word_bytes [] ≡ []
unfolding word_bytes
word_bytes-none = refl

-- the bytes of one more row
pub row_bytes-more : (rows : List (List ℕ)) (i : ℕ) (row : List ℕ) → i < length rows → get_or rows i row ≡ row
    → word_bytes (concat (take (i + 1) rows)) ≡ word_bytes (concat (take i rows)) ++ word_bytes row
row_bytes-more rows i row below is =
    ap (λ (l : List (List ℕ)). word_bytes (concat l)) (take_more rows i row below)
    ∙ ap word_bytes (concat-append (take i rows) (get_or rows i row ∷ []))
    ∙ word_bytes-append (concat (take i rows)) (get_or rows i row ++ [])
    ∙ ap (λ (l : List ℕ). word_bytes (concat (take i rows)) ++ word_bytes l) (append-nil (get_or rows i row) ∙ is)

-- rows of n words each
pub length-concat : (rows : List (List ℕ)) (n : ℕ) → ((i : ℕ) → i < length rows → length (get_or rows i []) ≡ n) → length (concat rows) ≡ length rows * n
length-concat [] n each = omega arith
length-concat (row ∷ rows) n each =
    let first : length row ≡ n = each 0 (omega arith) in
    let others = length-concat rows n (λ i below. each (suc i) (omega arith)) in
    simp length-append (omega arith)

-- word k of row i
concat-at : (rows : List (List ℕ)) (n i k : ℕ) → ((i : ℕ) → i < length rows → length (get_or rows i []) ≡ n) → i < length rows → k < n
    → get_or (concat rows) (i * n + k) 0 ≡ get_or (get_or rows i []) k 0
concat-at [] n i k each below within = absurd (omega arith)
concat-at (row ∷ rows) n zero k each below within =
    let first : length row ≡ n = each 0 (omega arith) in
    let here : k < length row = omega arith in
    let place : 0 * n + k ≡ k = omega arith in
    ap (λ (x : ℕ). get_or (row ++ concat rows) x 0) place ∙ get_or_append_left row (concat rows) 0 k here
concat-at (row ∷ rows) n (suc i) k each below within =
    let first : length row ≡ n = each 0 (omega arith) in
    let past : length row ≤ suc i * n + k = omega arith in
    let place : suc i * n + k - length row ≡ i * n + k = omega arith in
    get_or-append_right row (concat rows) (suc i * n + k) 0 past
    ∙ ap (λ (x : ℕ). get_or (concat rows) x 0) place
    ∙ concat-at rows n i k (λ j b. each (suc j) (omega arith)) (omega arith) within

-- the words of rows are those of the parts that they make
pub listed_words-rows : (n count parts : ℕ) (rows : List (List ℕ)) → 0 < n → length rows ≡ parts * count
    → ((i : ℕ) → i < length rows → length (get_or rows i []) ≡ n) → listed_words n count parts (listed_word count rows) ≡ concat rows
listed_words-rows n count parts rows some size each =
    values_below-get_or (parts * count * n) (λ p. word_at rows (p / n / count * count + p / n % count) (p % n)) (concat rows) 0
    (length-concat rows n each ∙ ap (λ (r : ℕ). r * n) size) at
  where
    at : (p : ℕ) → p < parts * count * n → get_or (concat rows) p 0 ≡ word_at rows (p / n / count * count + p / n % count) (p % n)
    at p below =
        let row_below : p / n < parts * count = (div-lt_iff_lt-mul some).1 below in
        let inside : p / n < length rows = omega arith in
        ap (λ (x : ℕ). get_or (concat rows) x 0) (sym (div-add-mod' p n))
        ∙ concat-at rows n (p / n) (p % n) each inside (mod-lt p some)
        ∙ ap (λ (i : ℕ). word_at rows i (p % n)) (sym (div-add-mod' (p / n) count))
