-- The tests of what stands behind a head.
use Rattle.std.proofs.Common.{◌≡◌, ◌≢◌, ℕ, ◌+◌, ◌*◌, List, length, sym, ◌∙◌, ap, arith}
use Rattle.std.specs.Prelude.{true, false, ◌==◌, Option, Err, find}
use Rattle.std.specs.List.{range_with_len}
use Rattle.std.proofs.lemmas.Bool.{eq-eqb, ne_eqb}
use Rattle.file_model.specs.Fronts.{stated_count, content_at}
use Rattle.outer_io.specs.declared.faults.Damage.TheVariants.{Digest}
use Rattle.file_model.specs.Scan.{bad_length, digest_fits, first_unreduced, is_unreduced, tested_words, tested_body}
use Rattle.file_model.specs.declared.faults.FileFault.TheVariants.{Damaged}
use Rattle.file_model.specs.declared.head.Head.{Head}
use Rattle.file_model.proofs.Tests.{test_yes, test_no}

-- the length isn't what the head asks for
pub body_length : (head : Head) (bytes : List ℕ) (size : ℕ) → head.words ≡ stated_count bytes → size ≡ length bytes → size ≢ 96 + 8 * head.words
    → tested_body head.kind head.set bytes ≡ Err (bad_length size (96 + 8 * head.words))
unfolding tested_body
body_length head bytes size words have other =
    test_no (length bytes == 96 + 8 * stated_count bytes) (bad_length (length bytes) (96 + 8 * stated_count bytes)) _
    (ne_eqb (length bytes) (96 + 8 * stated_count bytes) (λ same. other (omega arith)))
    ∙ ap (λ (n : ℕ). Err (bad_length n (96 + 8 * stated_count bytes))) (sym have)
    ∙ ap (λ (w : ℕ). Err (bad_length size (96 + 8 * w))) (sym words)

same_digest : (head : Head) (bytes : List ℕ) → head.words ≡ stated_count bytes
    → digest_fits (stated_count bytes) bytes ≡ digest_fits head.words bytes
same_digest head bytes words = ap (λ (w : ℕ). digest_fits w bytes) (sym words)

-- the digest is another
pub body_digest : (head : Head) (bytes : List ℕ) → head.words ≡ stated_count bytes → length bytes ≡ 96 + 8 * head.words
    → digest_fits head.words bytes ≡ false → tested_body head.kind head.set bytes ≡ Err (Damaged Digest)
unfolding tested_body
body_digest head bytes words size other =
    test_yes (length bytes == 96 + 8 * stated_count bytes) (bad_length (length bytes) (96 + 8 * stated_count bytes)) _
    (eq-eqb (length bytes) (96 + 8 * stated_count bytes) (omega arith))
    ∙ test_no (digest_fits (stated_count bytes) bytes) (Damaged Digest) _ (same_digest head bytes words ∙ other)

same_search : (head : Head) (bytes : List ℕ) → head.words ≡ stated_count bytes
    → first_unreduced head.kind head.set bytes ≡ find (is_unreduced head.kind head.set bytes) (range_with_len 0 head.words)
unfolding first_unreduced
same_search head bytes words = ap (λ (w : ℕ). find (is_unreduced head.kind head.set bytes) (range_with_len 0 w)) (sym words)

-- the words decide
pub body_words : (head : Head) (bytes : List ℕ) (unreduced : Option ℕ) → head.words ≡ stated_count bytes → length bytes ≡ 96 + 8 * head.words
    → digest_fits head.words bytes ≡ true → unreduced ≡ find (is_unreduced head.kind head.set bytes) (range_with_len 0 head.words)
    → tested_body head.kind head.set bytes ≡ tested_words (content_at head.kind head.set bytes) unreduced
unfolding tested_body
body_words head bytes unreduced words size digest is =
    test_yes (length bytes == 96 + 8 * stated_count bytes) (bad_length (length bytes) (96 + 8 * stated_count bytes)) _
    (eq-eqb (length bytes) (96 + 8 * stated_count bytes) (omega arith))
    ∙ test_yes (digest_fits (stated_count bytes) bytes) (Damaged Digest) _ (same_digest head bytes words ∙ digest)
    ∙ ap (tested_words (content_at head.kind head.set bytes)) (same_search head bytes words ∙ sym is)
