-- Names are ASCII.
use Rattle.std.proofs.Common.{◌≡◌, ◌<◌, ℕ, zero, suc, List, [], ◌∷◌, true, ◌&&◌, not, nat_le, arith, length, codes}
use Rattle.std.proofs.lemmas.Bool.{and_parts}
use Rattle.std.proofs.lemmas.Bool.Decides.{nat_tests}
use Rattle.std.specs.List.{list_all}
use Rattle.std.specs.Str.{IsAscii, bytes_eq}
use Rattle.std.specs.Char.{is_ascii_lowercase}
use Rattle.line_text.specs.Names.{is_name, is_name_byte}

byte_is_ascii : (byte : ℕ) → is_name_byte byte ≡ true → byte < 128
byte_is_ascii byte is = grind (arith, nat_tests)

bytes_are_ascii : (bytes : List ℕ) → list_all is_name_byte bytes ≡ true → IsAscii bytes
bytes_are_ascii [] all i = omega arith
bytes_are_ascii (byte ∷ bytes) all zero = byte_is_ascii byte (and_parts (is_name_byte byte) (list_all is_name_byte bytes) all).0
bytes_are_ascii (byte ∷ bytes) all (suc i) = bytes_are_ascii bytes (and_parts (is_name_byte byte) (list_all is_name_byte bytes) all).1 i

-- what the first two tests of a name say
rest : (byte : ℕ) (bytes : List ℕ) → is_name (byte ∷ bytes) ≡ true → is_ascii_lowercase byte && list_all is_name_byte bytes ≡ true
rest byte bytes is =
    (and_parts (is_ascii_lowercase byte && list_all is_name_byte bytes) (nat_le (length bytes) 31)
    (and_parts (is_ascii_lowercase byte && list_all is_name_byte bytes && nat_le (length bytes) 31) (not (bytes_eq (byte ∷ bytes) (codes "key"))) is).0).0

pub name_is_ascii : (name : List ℕ) → is_name name ≡ true → IsAscii name
name_is_ascii [] is i = omega arith
name_is_ascii (byte ∷ bytes) is zero =
    let first = (and_parts (is_ascii_lowercase byte) (list_all is_name_byte bytes) (rest byte bytes is)).0 in
    grind (arith, nat_tests)
name_is_ascii (byte ∷ bytes) is (suc i) = bytes_are_ascii bytes (and_parts (is_ascii_lowercase byte) (list_all is_name_byte bytes) (rest byte bytes is)).1 i
