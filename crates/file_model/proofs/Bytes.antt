-- Parts of a list of bytes, and the numbers in them.
use Rattle.std.proofs.Common.{◌≡◌, ℕ, zero, suc, ◌+◌, ◌-◌, ◌<◌, ◌≤◌, List, [], ◌∷◌, ◌++◌, length, get_or, take, drop, refl, sym, ◌∙◌, ap, arith, length-take, length-drop, get_or-drop, drop-drop, drop-cons}
use Rattle.std.specs.Prelude.{slice_index}
use Rattle.std.proofs.lemmas.List.{drop-take, append-nil, take_at, get_or-take}
use Rattle.std.proofs.lemmas.Nat.{le_bytes_4, le_bytes_8}
use Rattle.std.proofs.Math.Seq.{take-add, drop-append_seam}
use Rattle.byteorder.specs.Endian.{little_number, little_bytes}
use Rattle.byteorder.specs.Numbers.{little_from-take, little_number-reads_back}
use Rattle.file_model.specs.Bytes.{IsBytes, bytes_from, number_from}

-- parts of no bytes, and from the start
pub bytes_from-zero : (from : ℕ) (bs : List ℕ) → bytes_from from 0 bs ≡ []
unfolding bytes_from
bytes_from-zero from bs = refl

pub bytes_from-start : (n : ℕ) (bs : List ℕ) → bytes_from 0 n bs ≡ take n bs
unfolding bytes_from
bytes_from-start n bs = refl

-- a part in two
pub bytes_from-add : (from a b : ℕ) (bs : List ℕ) → bytes_from from (a + b) bs ≡ bytes_from from a bs ++ bytes_from (from + a) b bs
unfolding bytes_from
bytes_from-add from a b bs = take-add a b (drop from bs) ∙ ap (λ (l : List ℕ). take a (drop from bs) ++ take b l) (drop-drop a from bs)

-- the first bytes in two
pub take-bytes_from : (a b : ℕ) (bs : List ℕ) → take (a + b) bs ≡ take a bs ++ bytes_from a b bs
unfolding bytes_from
take-bytes_from a b bs = take-add a b bs

-- a part within the bytes is as long as asked for
pub length-bytes_from : (from n : ℕ) (bs : List ℕ) → from + n ≤ length bs → length (bytes_from from n bs) ≡ n
unfolding bytes_from
length-bytes_from from n bs within = simp (length-take, length-drop) (omega arith)

-- what stands between two lists
pub bytes_from-between : (before middle after : List ℕ) → bytes_from (length before) (length middle) (before ++ (middle ++ after)) ≡ middle
unfolding bytes_from
bytes_from-between before middle after = ap (take (length middle)) (drop-append_seam before (middle ++ after)) ∙ take_at middle after
    (length middle) refl

-- a number within a part
pub number_from-bytes_from : (from n k j : ℕ) (bs : List ℕ) → j + n ≤ k
    → number_from j n (bytes_from from k bs) ≡ number_from (from + j) n bs
unfolding bytes_from number_from
number_from-bytes_from from n k j bs within =
    let split : j + (k - j) ≡ k = omega arith in
    let inner : drop j (take k (drop from bs)) ≡ take (k - j) (drop j (drop from bs)) =
    ap (λ (x : ℕ). drop j (take x (drop from bs))) (sym split) ∙ drop-take j (k - j) (drop from bs) in
    ap (little_number n) inner
    ∙ little_from-take 0 n (k - j) (drop j (drop from bs)) (omega arith)
    ∙ ap (little_number n) (drop-drop j from bs)

-- parts of bytes are bytes
pub bytes-take : (n : ℕ) (bs : List ℕ) → IsBytes bs → IsBytes (take n bs)
bytes-take zero bs fits i = omega arith
bytes-take (suc n) [] fits i = omega arith
bytes-take (suc n) (b ∷ bs) fits zero = fits 0
bytes-take (suc n) (b ∷ bs) fits (suc i) = bytes-take n bs (λ j. fits (suc j)) i

pub bytes-bytes_from : (from n : ℕ) (bs : List ℕ) → IsBytes bs → IsBytes (bytes_from from n bs)
unfolding bytes_from
bytes-bytes_from from n bs fits = bytes-take n (drop from bs) (λ i. rw get_or-drop (fits (from + i)))

-- a number is that of its part
number_from-whole : (from n : ℕ) (bs : List ℕ) → number_from from n bs ≡ little_number n (bytes_from from n bs)
unfolding number_from bytes_from
number_from-whole from n bs = sym (little_from-take 0 n n (drop from bs) (omega arith))

-- bytes to a number and back
pub little_bytes-number_4 : (from : ℕ) (bs : List ℕ) → IsBytes bs → from + 4 ≤ length bs
    → little_bytes 4 (number_from from 4 bs) ≡ bytes_from from 4 bs
little_bytes-number_4 from bs fits within =
    ap (little_bytes 4) (number_from-whole from 4 bs)
    ∙ le_bytes_4 (bytes_from from 4 bs) (little_number 4 (bytes_from from 4 bs)) (length-bytes_from from 4 bs within)
    (bytes-bytes_from from 4 bs fits) (omega arith)

pub little_bytes-number_8 : (from : ℕ) (bs : List ℕ) → IsBytes bs → from + 8 ≤ length bs
    → little_bytes 8 (number_from from 8 bs) ≡ bytes_from from 8 bs
little_bytes-number_8 from bs fits within =
    ap (little_bytes 8) (number_from-whole from 8 bs)
    ∙ le_bytes_8 (bytes_from from 8 bs) (little_number 8 (bytes_from from 8 bs)) (length-bytes_from from 8 bs within)
    (bytes-bytes_from from 8 bs fits) (omega arith)

-- a number from its bytes
pub number_from-bytes_4 : (from x : ℕ) (bs : List ℕ) → bytes_from from 4 bs ≡ little_bytes 4 x → x < 4294967296 → number_from from 4 bs ≡ x
number_from-bytes_4 from x bs is fits =
    number_from-whole from 4 bs ∙ ap (little_number 4) (is ∙ sym (append-nil (little_bytes 4 x))) ∙ little_number-reads_back 4 x [] fits

pub number_from-bytes_8 : (from x : ℕ) (bs : List ℕ) → bytes_from from 8 bs ≡ little_bytes 8 x → x < 18446744073709551616
    → number_from from 8 bs ≡ x
number_from-bytes_8 from x bs is fits =
    number_from-whole from 8 bs ∙ ap (little_number 8) (is ∙ sym (append-nil (little_bytes 8 x))) ∙ little_number-reads_back 8 x [] fits

-- a part of one byte
pub bytes_from-one : (from : ℕ) (bs : List ℕ) → from < length bs → bytes_from from 1 bs ≡ slice_index bs from ∷ []
unfolding bytes_from
bytes_from-one from bs within = ap (take 1) (drop-cons bs from 0 within)

-- a byte, from its part
pub byte_from : (from x : ℕ) (bs : List ℕ) → bytes_from from 1 bs ≡ x ∷ [] → slice_index bs from ≡ x
unfolding bytes_from
byte_from from x bs is =
    let place : from + 0 ≡ from = omega arith in
    sym (get_or-take 1 (drop from bs) 0 0 (omega arith) ∙ get_or-drop from bs 0 0 ∙ ap (λ (i : ℕ). get_or bs i 0) place)
    ∙ ap (λ (l : List ℕ). get_or l 0 0) is
