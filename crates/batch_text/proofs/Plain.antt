-- Plain words are ASCII.
use Rattle.std.proofs.Common.{◌≡◌, ◌<◌, ℕ, zero, suc, List, [], ◌∷◌, length, get_or, Bool, true, ap, ◌∙◌, arith}
use Rattle.std.proofs.lemmas.Bool.{and_parts}
use Rattle.std.proofs.lemmas.Bool.Decides.{nat_tests}
use Rattle.std.specs.List.{list_all}
use Rattle.std.specs.Str.{IsAscii}
use Rattle.batch_text.specs.Commands.{is_word_byte}

byte_is_ascii : (byte : ℕ) → is_word_byte byte ≡ true → byte < 128
byte_is_ascii byte is = grind (arith, nat_tests)

pub plain_is_ascii : (word : List ℕ) → list_all is_word_byte word ≡ true → IsAscii word
plain_is_ascii [] all i = omega arith
plain_is_ascii (byte ∷ bytes) all zero = byte_is_ascii byte (and_parts (is_word_byte byte) (list_all is_word_byte bytes) all).0
plain_is_ascii (byte ∷ bytes) all (suc i) = plain_is_ascii bytes (and_parts (is_word_byte byte) (list_all is_word_byte bytes) all).1 i

-- what all of a list pass, the one at a place passes
pub passed_at : {A : Type 0} (test : A → Bool) (all : List A) (i : ℕ) (x : A) → list_all test all ≡ true → i < length all → x ≡ get_or all i x → test x ≡ true
passed_at test [] i x passed below is = absurd (omega arith)
passed_at test (first ∷ rest) zero x passed below is = ap test is ∙ (and_parts (test first) (list_all test rest) passed).0
passed_at test (first ∷ rest) (suc i) x passed below is = passed_at test rest i x (and_parts (test first) (list_all test rest) passed).1 (omega arith) is
