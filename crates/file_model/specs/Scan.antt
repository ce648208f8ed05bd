-- The tests of bytes for being a file of a wanted kind, in their order: the content that they state, or the first test that fails.
use Rattle.std.specs.Prelude.{ℕ, ◌+◌, ◌*◌, Bool, not, ◌==◌, nat_lt, nat_le, if◌then◌else◌, List, length, take, slice_index, [], ◌∷◌, Option, Some, None, Result, Ok, Err, find}
use Rattle.std.specs.List.{list_all, range_with_len}
use Rattle.std.specs.Str.{bytes_eq}
use Rattle.sha2.specs.Sha256.{sha256}
use Rattle.set_table.specs.declared.SetName.{SetName}
use Rattle.set_table.specs.declared.KeyKind.TheVariants.{Relin, Turn}
use Rattle.set_table.specs.Sets.{degree_of, set_numbered}
use Rattle.outer_io.specs.declared.faults.Damage.TheVariants.{Field, Length, Digest, NotReduced}
use Rattle.file_model.specs.declared.file_kind.FileKind.{FileKind}
use Rattle.file_model.specs.declared.file_kind.FileKind.TheVariants as kind
use Rattle.file_model.specs.Bytes.{bytes_from, number_from}
use Rattle.file_model.specs.FileText.{FileContent, format_name, version, number_of_kind, set_fits, parts_fit, element_fits, bound_fits, row_count, word_modulus}
use Rattle.file_model.specs.Fronts.{stated_count, content_at}
use Rattle.file_model.specs.Heads.{wants}
use Rattle.file_model.specs.declared.faults.FileFault.{FileFault}
use Rattle.file_model.specs.declared.faults.FileFault.TheVariants.{NotOurs, Version, Kind, Damaged}
use Rattle.file_model.specs.declared.head.Wanted.{Wanted}

-- the kind of this number
abbrev pub kind_of_number : ℕ → Option FileKind
kind_of_number number =
    find (λ k. number_of_kind k == number) (kind.Secret ∷ kind.PublicKey ∷ kind.SwitchKey Relin ∷ kind.SwitchKey Turn ∷ kind.Cipher ∷ [])

-- where a test fails its fault is the answer, and else the further tests decide
abbrev pub test : Bool → FileFault → Result FileContent FileFault → Result FileContent FileFault
test passes fault further = if passes then further else Err fault

-- the field at this offset breaks its rule
abbrev pub bad_field : ℕ → FileFault
bad_field offset = Damaged (Field offset)

-- the file has so many bytes, and its head asks for another number
abbrev pub bad_length : ℕ → ℕ → FileFault
bad_length have want = Damaged (Length have want)

-- behind so many words stands the digest of all bytes before it
abbrev pub digest_fits : ℕ → List ℕ → Bool
digest_fits words bytes = bytes_eq (bytes_from (64 + 8 * words) 32 bytes) (sha256 (take (64 + 8 * words) bytes))

-- the word of this number isn't below its modulus
abbrev pub is_unreduced : FileKind → SetName → List ℕ → ℕ → Bool
is_unreduced kind set bytes i = not (nat_lt (number_from (64 + 8 * i) 8 bytes) (word_modulus kind set i))

-- the number of the first such word
unfoldable pub first_unreduced : FileKind → SetName → List ℕ → Option ℕ
first_unreduced kind set bytes = find (is_unreduced kind set bytes) (range_with_len 0 (stated_count bytes))

-- each word is below its modulus
abbrev pub tested_words : FileContent → Option ℕ → Result FileContent FileFault
tested_words content None = Ok content
tested_words content (Some place) = Err (Damaged (NotReduced place))

-- there are as many bytes as the head asks for, the last 32 of them are the digest of the others, and the words are reduced
unfoldable pub tested_body : FileKind → SetName → List ℕ → Result FileContent FileFault
tested_body kind set bytes =
    test (length bytes == 96 + 8 * stated_count bytes) (bad_length (length bytes) (96 + 8 * stated_count bytes))
    (test (digest_fits (stated_count bytes) bytes) (Damaged Digest)
    (tested_words (content_at kind set bytes) (first_unreduced kind set bytes)))

-- the fields behind the kind keep their rules
unfoldable pub tested_fields : FileKind → SetName → List ℕ → Result FileContent FileFault → Result FileContent FileFault
tested_fields kind set bytes further =
    test (set_fits kind set) (bad_field 9)
    (test (parts_fit kind (slice_index bytes 10)) (bad_field 10)
    (test (slice_index bytes 11 == 0) (bad_field 11)
    (test (element_fits kind set (number_from 12 4 bytes)) (bad_field 12)
    (test (bound_fits kind set (number_from 32 4 bytes) (number_from 36 4 bytes)) (bad_field 32)
    (test (stated_count bytes == row_count kind set (slice_index bytes 10) * degree_of set) (bad_field 40)
    (test (list_all (λ byte. byte == 0) (bytes_from 48 16 bytes)) (bad_field 48) further))))))

-- the set is one of the table, the fields behind it keep their rules, and then further tests decide
abbrev pub set_tests : FileKind → Option SetName → List ℕ → (FileKind → SetName → Result FileContent FileFault) → Result FileContent FileFault
set_tests kind None bytes further = Err (bad_field 9)
set_tests kind (Some set) bytes further = tested_fields kind set bytes (further kind set)

-- the kind is one of the table, and wanted
abbrev pub kind_tests : Wanted → Option FileKind → List ℕ → (FileKind → SetName → Result FileContent FileFault) → Result FileContent FileFault
kind_tests wanted None bytes further = Err (bad_field 8)
kind_tests wanted (Some kind) bytes further =
    test (wants wanted kind) (Kind (number_of_kind kind)) (set_tests kind (set_numbered (slice_index bytes 9)) bytes further)

-- all tests of the head in their order, and then the further ones of a file of this kind and set
unfoldable pub head_tests : Wanted → List ℕ → (FileKind → SetName → Result FileContent FileFault) → Result FileContent FileFault
head_tests wanted bytes further =
    test (bytes_eq (take 7 bytes) format_name) NotOurs
    (test (nat_le 64 (length bytes)) (bad_length (length bytes) 64)
    (test (slice_index bytes 7 == version) (Version (slice_index bytes 7))
    (kind_tests wanted (kind_of_number (slice_index bytes 8)) bytes further)))

-- the tests of the head, and then those of what stands behind it
abbrev pub scanned : Wanted → List ℕ → Result FileContent FileFault
scanned wanted bytes = head_tests wanted bytes (λ kind set. tested_body kind set bytes)
