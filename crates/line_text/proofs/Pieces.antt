-- The lines of a text by its pieces between line feeds. Behind a line feed at the end of the text there is an empty piece, which is
-- passed over as a line.
use Rattle.std.proofs.Common.{◌≡◌, ◌≢◌, ◌≤◌, ◌<◌, ◌-◌, ◌==◌, ℕ, take, slice_index, length-take, suc, ◌+◌, List, [], ◌∷◌, ◌++◌, length, Bool, true, false, not, cond, ◌&&◌, refl, sym, ap, ◌∙◌, arith, eqb-true}
use Rattle.std.proofs.lemmas.List.{take_all, take_more}
use Rattle.std.proofs.lemmas.List.Sums.{length-filter, count_by-le-length}
use Rattle.std.proofs.lemmas.List.Splits.{length-slice_split}
use Rattle.std.proofs.lemmas.Bool.Decides.{nat_tests}
use Rattle.std.specs.List.{slice_split, onto_first, count_by, filter}
use Rattle.line_text.specs.Lines.{Line, words_of, counted_from, counted_lines, lines_of, is_passed_over, without_end}

-- the pieces of a text between line feeds
abbrev pub pieces_of : List ℕ → List (List ℕ)
pieces_of text = slice_split (λ byte. byte == 10) text

pub lines_of-split : (text : List ℕ) → length text ≢ 0 → lines_of text ≡ slice_split (λ byte. byte == 10) (without_end text)
lines_of-split [] some = absurd (some refl)
lines_of-split (byte ∷ bytes) some =
    let more : (suc (length bytes) == 0) ≡ false = grind (arith, nat_tests) in
    ap (λ (empty : Bool). cond empty [] (slice_split (λ b. b == 10) (without_end (byte ∷ bytes)))) more

-- a text has at most one piece more than bytes
pub pieces_few : (text : List ℕ) → length (pieces_of text) ≤ length text + 1
pieces_few text =
    let pieces = length-slice_split (λ byte. byte == 10) text in
    let feeds = count_by-le-length (λ byte. byte == 10) text in
    omega arith

pub lines_few : (text : List ℕ) → length (lines_of text) ≤ length text + 1
lines_few [] = omega arith
lines_few (byte ∷ bytes) =
    let some : length (byte ∷ bytes) ≢ 0 = omega arith in
    let same = ap length (lines_of-split (byte ∷ bytes) some) in
    let few = pieces_few (without_end (byte ∷ bytes)) in
    let shorter = by (byte ∷ bytes) (slice_index (byte ∷ bytes) (length (byte ∷ bytes) - 1) == 10) in
    omega arith
  where
    by : (text : List ℕ) (ends : Bool) → length (cond ends (take (length text - 1) text) text) ≤ length text
    by text true = let taken = length-take (length text - 1) text in omega arith
    by text false = omega arith

-- also where the text is empty
counted_lines-split : (text : List ℕ) → counted_lines text ≡ counted_from 1 (slice_split (λ byte. byte == 10) (without_end text))
counted_lines-split [] = refl
counted_lines-split (byte ∷ bytes) =
    let some : length (byte ∷ bytes) ≢ 0 = omega arith in
    ap (λ (lines : List (List ℕ)). counted_from 1 lines) (lines_of-split (byte ∷ bytes) some)

-- a byte before pieces: it ends a line, or stands in the first one
put_before : (feeds : Bool) (byte : ℕ) (pieces : List (List ℕ)) → 0 < length pieces
    → cond feeds ([] ∷ (pieces ++ [] ∷ [])) (onto_first byte (pieces ++ [] ∷ [])) ≡ cond feeds ([] ∷ pieces) (onto_first byte pieces) ++ [] ∷ []
put_before feeds byte [] some = absurd (omega arith)
put_before true byte (piece ∷ pieces) some = refl
put_before false byte (piece ∷ pieces) some = refl

-- a line feed at the end of a text gives an empty piece
pieces_of-feed : (text : List ℕ) → pieces_of (text ++ 10 ∷ []) ≡ pieces_of text ++ [] ∷ []
pieces_of-feed [] = refl
pieces_of-feed (byte ∷ text) =
    let pieces = length-slice_split (λ byte. byte == 10) text in
    ap (λ (ps : List (List ℕ)). cond (byte == 10) ([] ∷ ps) (onto_first byte ps)) (pieces_of-feed text)
    ∙ put_before (byte == 10) byte (pieces_of text) (omega arith)

-- an empty piece at the end counts for nothing
counted_from-empty : (number : ℕ) (pieces : List (List ℕ)) → counted_from number (pieces ++ [] ∷ []) ≡ counted_from number pieces
counted_from-empty number [] = refl
counted_from-empty number (piece ∷ pieces) =
    ap (λ (lines : List Line). cond (not (is_passed_over (words_of piece))) (record { number = number; words = words_of piece } ∷ lines) lines)
    (counted_from-empty (number + 1) pieces)

-- a text that ends with this byte
ends_with : (text : List ℕ) (byte : ℕ) → 0 < length text → slice_index text (length text - 1) ≡ byte → text ≡ take (length text - 1) text ++ byte ∷ []
ends_with text byte some is =
    sym (take_all (length text - 1 + 1) text (omega arith)) ∙ take_more text (length text - 1) 0 (omega arith)
    ∙ ap (λ (b : ℕ). take (length text - 1) text ++ b ∷ []) is

-- a line feed at the end of a text gives no further line
counted_from-feed : (text : List ℕ) → counted_from 1 (pieces_of (text ++ 10 ∷ [])) ≡ counted_from 1 (pieces_of text)
counted_from-feed text = ap (counted_from 1) (pieces_of-feed text) ∙ counted_from-empty 1 (pieces_of text)

-- the lines that count are those among the pieces
pub counted_lines-pieces : (text : List ℕ) → counted_lines text ≡ counted_from 1 (pieces_of text)
counted_lines-pieces [] = refl
counted_lines-pieces (first ∷ rest) = counted_lines-split (first ∷ rest) ∙ by (first ∷ rest) (omega arith) (slice_index (first ∷ rest) (length (first ∷ rest) - 1) == 10) refl
  where
    by : (text : List ℕ) → 0 < length text → (ends : Bool) → (slice_index text (length text - 1) == 10) ≡ ends
        → counted_from 1 (pieces_of (cond ends (take (length text - 1) text) text)) ≡ counted_from 1 (pieces_of text)
    by text some false is = refl
    by text some true is =
        sym (counted_from-feed (take (length text - 1) text))
        ∙ ap (λ (t : List ℕ). counted_from 1 (pieces_of t)) (sym (ends_with text 10 some (eqb-true (slice_index text (length text - 1)) 10 is)))

-- one line, and then the others
pub counted_from-cons : (number : ℕ) (piece : List ℕ) (pieces : List (List ℕ)) → counted_from number (piece ∷ pieces) ≡ counted_from number (piece ∷ []) ++ counted_from (number + 1) pieces
counted_from-cons number piece pieces = by (not (is_passed_over (words_of piece)))
  where
    by : (counts : Bool) → cond counts (record { number = number; words = words_of piece } ∷ counted_from (number + 1) pieces) (counted_from (number + 1) pieces)
        ≡ cond counts (record { number = number; words = words_of piece } ∷ []) [] ++ counted_from (number + 1) pieces
    by true = refl
    by false = refl

-- ---- how many lines count

-- as many pieces as lines count
pub count-pieces : (text : List ℕ) → length (filter (λ piece. not (is_passed_over (words_of piece))) (pieces_of text)) ≡ length (counted_lines text)
count-pieces text = all 1 (pieces_of text) ∙ ap length (sym (counted_lines-pieces text))
  where
    one : (counts : Bool) (line : Line) (piece : List ℕ) (lines : List Line) (pieces : List (List ℕ)) → length pieces ≡ length lines
        → length (cond counts (piece ∷ pieces) pieces) ≡ length (cond counts (line ∷ lines) lines)
    one true line piece lines pieces more = ap suc more
    one false line piece lines pieces more = more

    all : (number : ℕ) (pieces : List (List ℕ)) → length (filter (λ piece. not (is_passed_over (words_of piece))) pieces) ≡ length (counted_from number pieces)
    all number [] = refl
    all number (piece ∷ pieces) =
        one (not (is_passed_over (words_of piece))) (record { number = number; words = words_of piece }) piece (counted_from (number + 1) pieces)
        (filter (λ piece. not (is_passed_over (words_of piece))) pieces) (all (number + 1) pieces)

count_step : (over passes : Bool) (test : Line → Bool) (line : Line) (lines : List Line) (piece : List ℕ) (pieces : List (List ℕ)) → test line ≡ passes
    → length (filter test lines) ≡ length pieces → length (filter test (cond (not over) (line ∷ lines) lines)) ≡ length (cond (not over && passes) (piece ∷ pieces) pieces)
count_step true passes test line lines piece pieces is more = more
count_step false passes test line lines piece pieces is more = ap (λ (b : Bool). length (cond b (line ∷ filter test lines) (filter test lines))) is ∙ by passes
  where
    by : (passes : Bool) → length (cond passes (line ∷ filter test lines) (filter test lines)) ≡ length (cond passes (piece ∷ pieces) pieces)
    by true = ap suc more
    by false = more

count_all : (test : List (List ℕ) → Bool) (number : ℕ) (pieces : List (List ℕ))
    → length (filter (λ line. test line.words) (counted_from number pieces)) ≡ length (filter (λ piece. not (is_passed_over (words_of piece)) && test (words_of piece)) pieces)
count_all test number [] = refl
count_all test number (piece ∷ pieces) =
    count_step (is_passed_over (words_of piece)) (test (words_of piece)) (λ line. test line.words) (record { number = number; words = words_of piece })
    (counted_from (number + 1) pieces) piece (filter (λ piece. not (is_passed_over (words_of piece)) && test (words_of piece)) pieces) refl (count_all test (number + 1) pieces)

-- how many of the lines pass a test
pub count-passing : (test : List (List ℕ) → Bool) (text : List ℕ)
    → length (filter (λ piece. not (is_passed_over (words_of piece)) && test (words_of piece)) (pieces_of text)) ≡ count_by (λ line. test line.words) (counted_lines text)
count-passing test text =
    sym (count_all test 1 (pieces_of text))
    ∙ ap (λ (lines : List Line). length (filter (λ line. test line.words) lines)) (sym (counted_lines-pieces text))
    ∙ length-filter (λ line. test line.words) (counted_lines text)
