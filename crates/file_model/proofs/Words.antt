-- Words as bytes, and back.
use Rattle.std.proofs.Common.{List, [], ap, append-nil, append_assoc, arith, div-one, drop, drop-drop, get_or, get_or-drop, length, length-append, length-drop, length-take, mod-eq_of_lt, refl, suc, sym, take, take-add, take-append-drop, zero, ℕ, ◌%◌, ◌*◌, ◌++◌, ◌+◌, ◌<◌, ◌^◌, ◌∙◌, ◌∷◌, ◌≡◌, ◌≤◌}
use Rattle.std.proofs.lemmas.Grind.{flat_map-append, same_number_lists}
use Rattle.std.proofs.lemmas.Nat.{le_bytes_8}
use Rattle.byteorder.specs.Endian.{IsRead, little_bytes, little_number}
use Rattle.byteorder.specs.Numbers.{little_from-bytes, little_from-take}
use Rattle.ring_law.proofs.Values.{get_or-values_below, length-values_below}
use Rattle.file_model.specs.Bytes.{IsBytes, bytes_from, number_from, word_bytes, words_from}
use Rattle.file_model.proofs.Bytes.{bytes-bytes_from, bytes-take, length-bytes_from, number_from-bytes_from}

pub word_bytes-append : (ws vs : List ℕ) → word_bytes (ws ++ vs) ≡ word_bytes ws ++ word_bytes vs
unfolding word_bytes
word_bytes-append ws vs = flat_map-append (little_bytes 8) ws vs

-- eight bytes for each word
pub length-word_bytes : (ws : List ℕ) → length (word_bytes ws) ≡ 8 * length ws
unfolding word_bytes
length-word_bytes [] = refl
length-word_bytes (w ∷ ws) = let others = length-word_bytes ws in simp length-append (omega arith)

-- the words up to a place, and some more
pub word_bytes-take-add : (ws : List ℕ) (done count : ℕ)
    → word_bytes (take (done + count) ws) ≡ word_bytes (take done ws) ++ word_bytes (take count (drop done ws))
word_bytes-take-add ws done count = ap word_bytes (take-add done count ws) ∙ word_bytes-append (take done ws) (take count (drop done ws))

-- eight bytes read as a number and written again
little_bytes-little_number : (bs : List ℕ) → length bs ≡ 8 → IsBytes bs → little_bytes 8 (little_number 8 bs) ≡ bs
little_bytes-little_number bs len fits = le_bytes_8 bs (little_number 8 bs) len fits (omega arith)

-- the bytes behind the first of several words
drop-next : (k : ℕ) (bs : List ℕ) → drop (8 * suc k) bs ≡ drop (8 * k) (drop 8 bs)
drop-next k bs = let e : 8 * suc k ≡ 8 + 8 * k = omega arith in ap (λ (n : ℕ). drop n bs) e ∙ sym (drop-drop (8 * k) 8 bs)

-- the words that were read from bytes have these bytes
pub word_bytes-read : (ws bs : List ℕ) → length bs ≡ 8 * length ws → IsBytes bs → IsRead little_number 8 bs ws → word_bytes ws ≡ bs
unfolding word_bytes
word_bytes-read [] [] len fits read = refl
word_bytes-read [] (b ∷ bs) len fits read = absurd (omega arith)
word_bytes-read (w ∷ ws) bs len fits read =
    let first : w ≡ little_number 8 (take 8 bs) = read 0 (omega arith) ∙ sym (little_from-take 0 8 8 bs (omega arith)) in
    let front : little_bytes 8 w ≡ take 8 bs = ap (little_bytes 8) first ∙ little_bytes-little_number (take 8 bs)
    (simp length-take (omega arith)) (bytes-take 8 bs fits) in
    let others : word_bytes ws ≡ drop 8 bs =
    word_bytes-read ws (drop 8 bs) (simp length-drop (omega arith)) (λ i. rw get_or-drop (fits (8 + i)))
    (λ k below. read (suc k) (omega arith) ∙ ap (little_number 8) (drop-next k bs)) in
    ap (λ (l : List ℕ). l ++ word_bytes ws) front ∙ ap (λ (l : List ℕ). take 8 bs ++ l) others ∙ take-append-drop 8 bs

number_from-first : (w : ℕ) (rest : List ℕ) → w < 18446744073709551616 → little_number 8 (little_bytes 8 w ++ rest) ≡ w
number_from-first w rest fits = little_from-bytes 8 0 w rest ∙ ap (λ (x : ℕ). x % 256 ^ 8) (div-one w) ∙ mod-eq_of_lt fits

-- a word among the bytes of words
pub number_from-word_bytes : (ws rest : List ℕ) (k : ℕ) → k < length ws → ((i : ℕ) → get_or ws i 0 < 18446744073709551616)
    → number_from (8 * k) 8 (word_bytes ws ++ rest) ≡ get_or ws k 0
unfolding number_from word_bytes
number_from-word_bytes [] rest k below fits = absurd (omega arith)
number_from-word_bytes (w ∷ ws) rest zero below fits =
    ap (little_number 8) (append_assoc (little_bytes 8 w) (word_bytes ws) rest) ∙ number_from-first w (word_bytes ws ++ rest) (fits 0)
number_from-word_bytes (w ∷ ws) rest (suc k) below fits =
    ap (little_number 8) (drop-next k ((little_bytes 8 w ++ word_bytes ws) ++ rest))
    ∙ number_from-word_bytes ws rest k (omega arith) (λ i. fits (suc i))

-- words whose bytes stand in a part are the numbers there
pub number_from-words : (ws bytes : List ℕ) (from n k : ℕ) → word_bytes ws ≡ bytes_from from (8 * n) bytes → n ≡ length ws → k < n
    → ((i : ℕ) → get_or ws i 0 < 18446744073709551616) → number_from (from + 8 * k) 8 bytes ≡ get_or ws k 0
number_from-words ws bytes from n k is len below fits =
    sym (number_from-bytes_from from 8 (8 * n) (8 * k) bytes (omega arith))
    ∙ ap (number_from (8 * k) 8) (sym is ∙ sym (append-nil (word_bytes ws)))
    ∙ number_from-word_bytes ws [] k (omega arith) fits

pub length-words_from : (from n : ℕ) (bs : List ℕ) → length (words_from from n bs) ≡ n
unfolding words_from
length-words_from from n bs = length-values_below n (λ i. number_from (from + 8 * i) 8 bs)

-- a word is the number in its bytes
pub get_or-words_from : (from n : ℕ) (bs : List ℕ) (i : ℕ) → i < n → get_or (words_from from n bs) i 0 ≡ number_from (from + 8 * i) 8 bs
unfolding words_from
get_or-words_from from n bs i below = get_or-values_below n (λ i. number_from (from + 8 * i) 8 bs) i 0 below

-- the words are the numbers in their bytes
pub words_from-words : (ws bytes : List ℕ) (from : ℕ) → word_bytes ws ≡ bytes_from from (8 * length ws) bytes
    → ((i : ℕ) → get_or ws i 0 < 18446744073709551616) → words_from from (length ws) bytes ≡ ws
words_from-words ws bytes from is fits =
    same_number_lists (words_from from (length ws) bytes) ws (length-words_from from (length ws) bytes) (λ i below.
    let inside : i < length ws = omega (arith, length-words_from from (length ws) bytes) in
    get_or-words_from from (length ws) bytes i inside ∙ number_from-words ws bytes from (length ws) i is refl inside fits)

-- bytes to words and back
pub word_bytes-words_from : (from n : ℕ) (bs : List ℕ) → IsBytes bs → from + 8 * n ≤ length bs
    → word_bytes (words_from from n bs) ≡ bytes_from from (8 * n) bs
unfolding number_from
word_bytes-words_from from n bs fits within =
    let part = bytes_from from (8 * n) bs in
    let count = length-words_from from n bs in
    let long : length part ≡ 8 * n = length-bytes_from from (8 * n) bs within in
    word_bytes-read (words_from from n bs) part (omega arith) (bytes-bytes_from from (8 * n) bs fits) (λ k below.
    let inside : k < n = omega arith in
    get_or-words_from from n bs k inside ∙ sym (number_from-bytes_from from 8 (8 * n) (8 * k) bs (omega arith)))
