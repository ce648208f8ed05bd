-- The lines of a printed text are those that were printed.
use Rattle.std.proofs.Common.{◌≡◌, ◌≢◌, ◌<◌, ◌-◌, ◌==◌, ℕ, ◌+◌, List, [], ◌∷◌, ◌++◌, length, map, take, get_or, Bool, true, false, not, cond, ◌||◌, nat_lt, refl, ap, ◌∙◌, sym, arith, length-append, append_assoc}
use Rattle.std.specs.Prelude.{slice_index_or}
use Rattle.std.specs.List.{All, filter, flat_map, join_with_byte, slice_split}
use Rattle.std.proofs.Math.Seq.{get_or-append_seam, take-append_seam}
use Rattle.std.proofs.lemmas.Bool.Decides.{nat_tests}
use Rattle.std.proofs.lemmas.List.{append-nil, length-map}
use Rattle.std.proofs.lemmas.List.Elements.{All-nil, All-cons, All-head, All-tail, All-append, All-map, All-from_get_or}
use Rattle.std.proofs.lemmas.List.Splits.{slice_split_none, slice_split_at}
use Rattle.std.proofs.lemmas.List.Sums.{AllPass-from_list_all}
use Rattle.line_text.specs.Lines.{Line, is_blank_in_line, is_passed_over, words_of, without_end, lines_of, counted_from, counted_lines}
use Rattle.script_text.specs.Printed.{printed_line}
use Rattle.line_text.proofs.Pieces.{lines_of-split}
use Rattle.script_text.proofs.PrintedScripts.{IsWord, IsPlainLine, numbered_words}

-- ---- pieces joined by a byte that none of them has

-- the joined pieces are cut at that byte into the same pieces
split_joined : (cuts : ℕ → Bool) (byte : ℕ) (piece : List ℕ) (pieces : List (List ℕ)) → cuts byte ≡ true → All (All (λ other. cuts other ≡ false)) (piece ∷ pieces)
    → slice_split cuts (join_with_byte byte (piece ∷ pieces)) ≡ piece ∷ pieces
split_joined cuts byte piece [] cut whole = slice_split_none cuts piece (All-head (All (λ other. cuts other ≡ false)) piece [] whole)
split_joined cuts byte piece (next ∷ pieces) cut whole =
    let first = All-head (All (λ other. cuts other ≡ false)) piece (next ∷ pieces) whole in
    let others = All-tail (All (λ other. cuts other ≡ false)) piece (next ∷ pieces) whole in
    slice_split_at cuts piece byte (join_with_byte byte (next ∷ pieces)) first cut ∙ ap (λ (parts : List (List ℕ)). piece ∷ parts) (split_joined cuts byte next pieces cut others)

-- what holds of that byte and of each byte of the pieces holds of each byte of the joined pieces
all_joined : (P : ℕ → Type 0) (byte : ℕ) (pieces : List (List ℕ)) → P byte → All (All P) pieces → All P (join_with_byte byte pieces)
all_joined P byte [] holds each = All-nil P
all_joined P byte (piece ∷ []) holds each = All-head (All P) piece [] each
all_joined P byte (piece ∷ next ∷ pieces) holds each =
    let first = All-head (All P) piece (next ∷ pieces) each in
    let others = all_joined P byte (next ∷ pieces) holds (All-tail (All P) piece (next ∷ pieces) each) in
    All-append P piece (byte ∷ join_with_byte byte (next ∷ pieces)) first (All-cons P byte (join_with_byte byte (next ∷ pieces)) holds others)

-- ---- the words of a line

-- a filter that every element passes gives the whole list
filter_whole : (test : List ℕ → Bool) (words : List (List ℕ)) → All (λ word. test word ≡ true) words → filter test words ≡ words
filter_whole test [] all = refl
filter_whole test (word ∷ words) all =
    let first = All-head (λ other. test other ≡ true) word words all in
    let others = All-tail (λ other. test other ≡ true) word words all in
    ap (λ (passes : Bool). cond passes (word ∷ filter test words) (filter test words)) first ∙ ap (λ (rest : List (List ℕ)). word ∷ rest) (filter_whole test words others)

-- a byte that isn't one or the other is neither
neither : (blank feed : Bool) → not (blank || feed) ≡ true → (blank ≡ false) × (feed ≡ false)
neither false false is = (refl, refl)
neither false true is = (refl, sym is)
neither true feed is = (sym is, elim feed as (λ (b : Bool). b ≡ false) [ true ↦ sym is | false ↦ refl ])

-- no byte of a word is a blank
word_unbroken : (word : List ℕ) → IsWord word → All (λ byte. is_blank_in_line byte ≡ false) word
word_unbroken word is k d below =
    (neither (is_blank_in_line (get_or word k d)) (get_or word k d == 10) (AllPass-from_list_all (λ byte. not (is_blank_in_line byte || (byte == 10))) word is.bytes k d below)).0

-- no byte of a word is a line feed
word_in_line : (word : List ℕ) → IsWord word → All (λ byte. (byte == 10) ≡ false) word
word_in_line word is k d below =
    (neither (is_blank_in_line (get_or word k d)) (get_or word k d == 10) (AllPass-from_list_all (λ byte. not (is_blank_in_line byte || (byte == 10))) word is.bytes k d below)).1

-- a word is not empty
word_some : (word : List ℕ) → IsWord word → nat_lt 0 (length word) ≡ true
word_some word is = let some = is.some in grind (arith, nat_tests)

-- the words of joined words are the words
words_joined : (words : List (List ℕ)) → IsPlainLine words → words_of (join_with_byte 32 words) ≡ words
words_joined [] plain = absurd (let some = plain.some in omega arith)
words_joined (word ∷ words) plain =
    let each : All IsWord (word ∷ words) = All-from_get_or IsWord (word ∷ words) [] plain.each in
    let parts : slice_split is_blank_in_line (join_with_byte 32 (word ∷ words)) ≡ word ∷ words =
    split_joined is_blank_in_line 32 word words refl (λ k d below. word_unbroken (get_or (word ∷ words) k d) (each k d below)) in
    ap (λ (pieces : List (List ℕ)). filter (λ piece. nat_lt 0 (length piece)) pieces) parts
    ∙ filter_whole (λ piece. nat_lt 0 (length piece)) (word ∷ words) (λ k d below. word_some (get_or (word ∷ words) k d) (each k d below))

-- joined words have no line feed
joined_in_line : (words : List (List ℕ)) → IsPlainLine words → All (λ byte. (byte == 10) ≡ false) (join_with_byte 32 words)
joined_in_line words plain =
    let each : All IsWord words = All-from_get_or IsWord words [] plain.each in
    all_joined (λ byte. (byte == 10) ≡ false) 32 words refl (λ k d below. word_in_line (get_or words k d) (each k d below))

-- ---- the lines of a text

-- a word, and then the others with a space before each, are the joined words
joined_words : (word : List ℕ) (words : List (List ℕ)) → word ++ flat_map (λ other. 32 ∷ other) words ≡ join_with_byte 32 (word ∷ words)
joined_words word [] = append-nil word
joined_words word (next ∷ words) = ap (λ (text : List ℕ). word ++ (32 ∷ text)) (joined_words next words)

-- a printed line is its joined words and a line feed
line_joined : (words : List (List ℕ)) → printed_line words ≡ join_with_byte 32 words ++ 10 ∷ []
line_joined [] = refl
line_joined (word ∷ words) = ap (λ (text : List ℕ). text ++ 10 ∷ []) (joined_words word words)

-- printed lines are the joined lines and a line feed
lines_joined : (line : List (List ℕ)) (lines : List (List (List ℕ)))
    → flat_map printed_line (line ∷ lines) ≡ join_with_byte 10 (map (join_with_byte 32) (line ∷ lines)) ++ 10 ∷ []
lines_joined line [] = append-nil (printed_line line) ∙ line_joined line
lines_joined line (next ∷ lines) =
    let rest : List ℕ = join_with_byte 10 (map (join_with_byte 32) (next ∷ lines)) in
    ap (λ (text : List ℕ). text ++ flat_map printed_line (next ∷ lines)) (line_joined line)
    ∙ ap (λ (text : List ℕ). (join_with_byte 32 line ++ 10 ∷ []) ++ text) (lines_joined next lines)
    ∙ append_assoc (join_with_byte 32 line) (10 ∷ []) (rest ++ 10 ∷ [])
    ∙ sym (append_assoc (join_with_byte 32 line) (10 ∷ rest) (10 ∷ []))

-- a text without the line feed that was put behind it
without_feed : (text : List ℕ) → without_end (text ++ 10 ∷ []) ≡ text
without_feed text =
    let at : length (text ++ 10 ∷ []) - 1 ≡ length text = omega (arith, length-append text (10 ∷ [])) in
    ap (λ (k : ℕ). cond (get_or (text ++ 10 ∷ []) k 0 == 10) (take k (text ++ 10 ∷ [])) (text ++ 10 ∷ [])) at
    ∙ ap (λ (byte : ℕ). cond (byte == 10) (take (length text) (text ++ 10 ∷ [])) (text ++ 10 ∷ [])) (get_or-append_seam text 10 [] 0)
    ∙ take-append_seam text (10 ∷ [])

-- the lines of printed lines are the joined words of each
lines_of_printed : (lines : List (List (List ℕ))) → ((i : ℕ) → i < length lines → IsPlainLine (slice_index_or lines i [])) → 0 < length lines
    → lines_of (flat_map printed_line lines) ≡ map (join_with_byte 32) lines
lines_of_printed [] plain some = absurd (omega arith)
lines_of_printed (line ∷ lines) plain some =
    let text : List ℕ = join_with_byte 10 (map (join_with_byte 32) (line ∷ lines)) in
    let each : All IsPlainLine (line ∷ lines) = All-from_get_or IsPlainLine (line ∷ lines) [] plain in
    let whole : All (All (λ byte. (byte == 10) ≡ false)) (map (join_with_byte 32) (line ∷ lines)) =
    All-map (All (λ byte. (byte == 10) ≡ false)) (join_with_byte 32) (line ∷ lines) (λ k d below. joined_in_line (get_or (line ∷ lines) k d) (each k d below)) in
    let long : length (text ++ 10 ∷ []) ≢ 0 = omega (arith, length-append text (10 ∷ [])) in
    ap (λ (printed : List ℕ). lines_of printed) (lines_joined line lines)
    ∙ lines_of-split (text ++ 10 ∷ []) long
    ∙ ap (λ (bytes : List ℕ). slice_split (λ byte. byte == 10) bytes) (without_feed text)
    ∙ split_joined (λ byte. byte == 10) 10 (join_with_byte 32 line) (map (join_with_byte 32) lines) refl whole

-- there are as many lines as were printed
pub lines_printed : (lines : List (List (List ℕ))) → ((i : ℕ) → i < length lines → IsPlainLine (slice_index_or lines i [])) → 0 < length lines
    → length (lines_of (flat_map printed_line lines)) ≡ length lines
lines_printed lines plain some = ap length (lines_of_printed lines plain some) ∙ length-map lines (join_with_byte 32)

-- ---- the lines that count

-- a plain line isn't passed over
plain_counts : (words : List (List ℕ)) → IsPlainLine words → not (is_passed_over words) ≡ true
plain_counts [] plain = absurd (let some = plain.some in omega arith)
plain_counts (word ∷ words) plain = ap not plain.counts

-- joined plain lines all count, and have their words
counted_joined : (number : ℕ) (lines : List (List (List ℕ))) → All IsPlainLine lines → counted_from number (map (join_with_byte 32) lines) ≡ numbered_words number lines
counted_joined number [] plain = refl
counted_joined number (line ∷ lines) plain =
    let first : IsPlainLine line = All-head IsPlainLine line lines plain in
    let others : List Line = counted_from (number + 1) (map (join_with_byte 32) lines) in
    ap (λ (words : List (List ℕ)). cond (not (is_passed_over words)) (record { number = number; words = words } ∷ others) others) (words_joined line first)
    ∙ ap (λ (counts : Bool). cond counts (record { number = number; words = line } ∷ others) others) (plain_counts line first)
    ∙ ap (λ (rest : List Line). record { number = number; words = line } ∷ rest) (counted_joined (number + 1) lines (All-tail IsPlainLine line lines plain))

-- the lines of printed lines that count are those lines, with their numbers
pub counted_printed : (lines : List (List (List ℕ))) → ((i : ℕ) → i < length lines → IsPlainLine (slice_index_or lines i [])) → 0 < length lines
    → counted_lines (flat_map printed_line lines) ≡ numbered_words 1 lines
counted_printed lines plain some =
    ap (λ (pieces : List (List ℕ)). counted_from 1 pieces) (lines_of_printed lines plain some)
    ∙ counted_joined 1 lines (All-from_get_or IsPlainLine lines [] plain)
