-- The tests of a head look at its 64 bytes alone.
use Rattle.std.proofs.Common.{◌≡◌, ℕ, ◌+◌, ◌-◌, ◌<◌, ◌≤◌, List, length, take, drop, refl, sym, ◌∙◌, ap, subst, arith, ⊎_elim, length-take, zero-add, lit<}
use Rattle.std.specs.Prelude.{nat_le, ◌==◌, slice_index, Option, Some, None, Result, Err}
use Rattle.std.specs.Str.{bytes_eq}
use Rattle.std.proofs.lemmas.Bool.{cases_lt, le-leb}
use Rattle.std.proofs.lemmas.List.{take_all, take-take, drop-take, get_or-take}
use Rattle.set_table.specs.declared.SetName.{SetName}
use Rattle.file_model.specs.declared.file_kind.FileKind.{FileKind}
use Rattle.file_model.specs.Bytes.{bytes_from, number_from}
use Rattle.file_model.specs.FileText.{FileContent, format_name, number_of_kind}
use Rattle.file_model.specs.Fronts.{stated_count, head_at, content_at}
use Rattle.file_model.proofs.Bytes.{number_from-bytes_from, bytes_from-start}
use Rattle.file_model.proofs.Words.{length-words_from}
use Rattle.file_model.specs.Heads.{wants, IsHeadOf}
use Rattle.file_model.specs.Scan.{test, bad_length, kind_of_number, tested_fields, tested_body, set_tests, kind_tests, head_tests, scanned}
use Rattle.set_table.specs.Sets.{set_numbered}
use Rattle.file_scan.specs.Scanning.{BeginsWith}
use Rattle.file_model.proofs.Tests.{test_yes}
use Rattle.file_model.specs.declared.faults.FileFault.{FileFault}
use Rattle.file_model.specs.declared.faults.FileFault.TheVariants.{NotOurs, Version, Kind}
use Rattle.file_model.specs.declared.head.Head.{Head}
use Rattle.file_model.specs.declared.head.Wanted.{Wanted}

-- bytes, numbers and parts of a head
front_byte : (i : ℕ) (bytes : List ℕ) → i < 64 → slice_index (take 64 bytes) i ≡ slice_index bytes i
front_byte i bytes below = get_or-take 64 bytes i 0 below

front_number : (from n : ℕ) (bytes : List ℕ) → from + n ≤ 64 → number_from from n (take 64 bytes) ≡ number_from from n bytes
front_number from n bytes within =
    ap (number_from from n) (sym (bytes_from-start 64 bytes)) ∙ number_from-bytes_from 0 n 64 from bytes within
    ∙ ap (λ (x : ℕ). number_from x n bytes) (zero-add from)

front_part : (from n : ℕ) (bytes : List ℕ) → from + n ≤ 64 → bytes_from from n (take 64 bytes) ≡ bytes_from from n bytes
unfolding bytes_from
front_part from n bytes within =
    let split : from + (64 - from) ≡ 64 = omega arith in
    ap (λ (k : ℕ). take n (drop from (take k bytes))) (sym split)
    ∙ ap (take n) (drop-take from (64 - from) bytes)
    ∙ take-take n (64 - from) (drop from bytes) (omega arith)

-- the fields of the front are those of the bytes
head_at-front : (kind : FileKind) (set : SetName) (bytes : List ℕ) → head_at kind set (take 64 bytes) ≡ head_at kind set bytes
head_at-front kind set bytes =
    let parts = front_byte 10 bytes (omega arith) in
    let element = front_number 12 4 bytes (omega arith) in
    let id = front_part 16 16 bytes (omega arith) in
    let m = front_number 32 4 bytes (omega arith) in
    let e = front_number 36 4 bytes (omega arith) in
    let words = front_number 40 8 bytes (omega arith) in
    rw (parts, element, id, m, e, words) refl

tested_fields-front : (kind : FileKind) (set : SetName) (bytes : List ℕ) (further : Result FileContent FileFault)
    → tested_fields kind set (take 64 bytes) further ≡ tested_fields kind set bytes further
unfolding tested_fields
tested_fields-front kind set bytes further =
    let parts = front_byte 10 bytes (omega arith) in
    let zero_byte = front_byte 11 bytes (omega arith) in
    let element = front_number 12 4 bytes (omega arith) in
    let m = front_number 32 4 bytes (omega arith) in
    let e = front_number 36 4 bytes (omega arith) in
    let words = front_number 40 8 bytes (omega arith) in
    let zeros = front_part 48 16 bytes (omega arith) in
    rw (parts, zero_byte, element, m, e, words, zeros) refl

set_tests-front : (kind : FileKind) (set : Option SetName) (bytes : List ℕ) (further : FileKind → SetName → Result FileContent FileFault)
    → set_tests kind set (take 64 bytes) further ≡ set_tests kind set bytes further
set_tests-front kind None bytes further = refl
set_tests-front kind (Some set) bytes further = tested_fields-front kind set bytes (further kind set)

kind_tests-front : (wanted : Wanted) (kind : Option FileKind) (bytes : List ℕ) (further : FileKind → SetName → Result FileContent FileFault)
    → kind_tests wanted kind (take 64 bytes) further ≡ kind_tests wanted kind bytes further
kind_tests-front wanted None bytes further = refl
kind_tests-front wanted (Some kind) bytes further =
    ap (λ (number : ℕ). test (wants wanted kind) (Kind (number_of_kind kind)) (set_tests kind (set_numbered number) (take 64 bytes) further))
    (front_byte 9 bytes (lit< tt))
    ∙ ap (λ (r : Result FileContent FileFault). test (wants wanted kind) (Kind (number_of_kind kind)) r)
    (set_tests-front kind (set_numbered (slice_index bytes 9)) bytes further)

-- the tests behind that of the length
abbrev version_tests : Wanted → List ℕ → (FileKind → SetName → Result FileContent FileFault) → Result FileContent FileFault
version_tests wanted bytes further =
    test (slice_index bytes 7 == 1) (Version (slice_index bytes 7)) (kind_tests wanted (kind_of_number (slice_index bytes 8)) bytes further)

version_tests-front : (wanted : Wanted) (bytes : List ℕ) (further : FileKind → SetName → Result FileContent FileFault)
    → version_tests wanted (take 64 bytes) further ≡ version_tests wanted bytes further
version_tests-front wanted bytes further =
    ap (λ (version : ℕ). test (version == 1) (Version version) (kind_tests wanted (kind_of_number (slice_index (take 64 bytes) 8)) (take 64 bytes) further))
    (front_byte 7 bytes (lit< tt))
    ∙ ap (λ (number : ℕ). test (slice_index bytes 7 == 1) (Version (slice_index bytes 7)) (kind_tests wanted (kind_of_number number) (take 64 bytes) further))
    (front_byte 8 bytes (lit< tt))
    ∙ ap (λ (r : Result FileContent FileFault). test (slice_index bytes 7 == 1) (Version (slice_index bytes 7)) r)
    (kind_tests-front wanted (kind_of_number (slice_index bytes 8)) bytes further)

-- where there is a whole head, the length decides nothing
long_tests : (wanted : Wanted) (bytes : List ℕ) (further : FileKind → SetName → Result FileContent FileFault) → 64 ≤ length bytes
    → head_tests wanted bytes further ≡ test (bytes_eq (take 7 bytes) format_name) NotOurs (version_tests wanted bytes further)
unfolding head_tests
long_tests wanted bytes further long =
    ap (λ (r : Result FileContent FileFault). test (bytes_eq (take 7 bytes) format_name) NotOurs r)
    (test_yes (nat_le 64 (length bytes)) (bad_length (length bytes) 64) (version_tests wanted bytes further) (le-leb 64 (length bytes) long))

pub head_tests-front : (wanted : Wanted) (bytes : List ℕ) (further : FileKind → SetName → Result FileContent FileFault)
    → head_tests wanted (take 64 bytes) further ≡ head_tests wanted bytes further
head_tests-front wanted bytes further = ⊎_elim short long (cases_lt (length bytes) 64)
  where
    short : length bytes < 64 → head_tests wanted (take 64 bytes) further ≡ head_tests wanted bytes further
    short less = ap (λ (l : List ℕ). head_tests wanted l further) (take_all 64 bytes (omega arith))

    long : 64 ≤ length bytes → head_tests wanted (take 64 bytes) further ≡ head_tests wanted bytes further
    long enough =
        long_tests wanted (take 64 bytes) further (omega (arith, length-take 64 bytes))
        ∙ ap (λ (l : List ℕ). test (bytes_eq l format_name) NotOurs (version_tests wanted (take 64 bytes) further)) (take-take 7 64 bytes (omega arith))
        ∙ ap (λ (r : Result FileContent FileFault). test (bytes_eq (take 7 bytes) format_name) NotOurs r) (version_tests-front wanted bytes further)
        ∙ sym (long_tests wanted bytes further enough)

pub scanned-front : (wanted : Wanted) (bytes front : List ℕ) → front ≡ take 64 bytes
    → scanned wanted bytes ≡ head_tests wanted front (λ kind set. tested_body kind set bytes)
scanned-front wanted bytes front is =
    sym (head_tests-front wanted bytes (λ kind set. tested_body kind set bytes))
    ∙ ap (λ (l : List ℕ). head_tests wanted l (λ kind set. tested_body kind set bytes)) (sym is)

-- a front that passes the tests
pub front_passes : (wanted : Wanted) (bytes front : List ℕ) (head : Head) → front ≡ take 64 bytes → 64 ≤ length front
    → head ≡ head_at head.kind head.set front
    → ((further : FileKind → SetName → Result FileContent FileFault) → head_tests wanted front further ≡ further head.kind head.set)
    → BeginsWith wanted bytes head
front_passes wanted bytes front head is long stated passes = record {
  long = omega (arith, ap length is, length-take 64 bytes);
  stated = stated ∙ ap (head_at head.kind head.set) is ∙ head_at-front head.kind head.set bytes;
  tests = scanned-front wanted bytes front is ∙ passes (λ k s. tested_body k s bytes);
}

-- and one that fails
pub front_fails : (wanted : Wanted) (bytes front : List ℕ) (fault : FileFault) → front ≡ take 64 bytes
    → ((further : FileKind → SetName → Result FileContent FileFault) → head_tests wanted front further ≡ Err fault)
    → scanned wanted bytes ≡ Err fault
front_fails wanted bytes front fault is fails = scanned-front wanted bytes front is ∙ fails (λ k s. tested_body k s bytes)

head_at-IsHeadOf : (kind : FileKind) (set : SetName) (bytes : List ℕ) → IsHeadOf (head_at kind set bytes) (content_at kind set bytes)
unfolding content_at
head_at-IsHeadOf kind set bytes = record { states = refl; count = sym (length-words_from 64 (stated_count bytes) bytes) }

-- the head is that of the content that the bytes state
pub begins-IsHeadOf : (wanted : Wanted) (bytes : List ℕ) (head : Head) → BeginsWith wanted bytes head
    → IsHeadOf head (content_at head.kind head.set bytes)
begins-IsHeadOf wanted bytes head begins =
    subst (λ (h : Head). IsHeadOf h (content_at head.kind head.set bytes)) (sym begins.stated) (head_at-IsHeadOf head.kind head.set bytes)
