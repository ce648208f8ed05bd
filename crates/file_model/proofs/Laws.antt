-- Bytes pass all tests exactly where they are a file of a wanted kind.
use Rattle.std.proofs.Common.{◌≡◌, ℕ, ◌+◌, ◌*◌, List, length, take, refl, sym, ◌∙◌, ap, subst}
use Rattle.std.specs.Prelude.{true, ◌==◌, nat_le, slice_index, Option, Some, None, Result, Ok}
use Rattle.std.specs.Str.{bytes_eq}
use Rattle.std.specs.List.{list_all}
use Rattle.std.proofs.lemmas.Bool.{eqb-true, eq-eqb, leb-true, le-leb}
use Rattle.std.proofs.lemmas.Slice.Eq.{bytes_eq-Decides}
use Rattle.sha2.specs.Sha256.{sha256}
use Rattle.set_table.specs.declared.SetName.{SetName}
use Rattle.set_table.specs.Sets.{degree_of}
use Rattle.outer_io.specs.declared.faults.Damage.TheVariants.{Digest}
use Rattle.file_model.specs.declared.file_kind.FileKind.{FileKind}
use Rattle.file_model.specs.Bytes.{IsBytes, bytes_from, number_from}
use Rattle.file_model.specs.FileText.{FileContent, IsFile, format_name, number_of_kind, set_fits, parts_fit, element_fits, bound_fits, row_count}
use Rattle.file_model.specs.Fronts.{stated_count, content_at}
use Rattle.file_model.proofs.Files.{HeadTests, FieldTests, DigestTests, WordsBelow, none_unreduced, all_reduced, tests-IsFile, file_is_read}
use Rattle.file_model.specs.Heads.{wants}
use Rattle.file_model.specs.Scan.{bad_field, bad_length, kind_of_number, first_unreduced, tested_words, tested_body, tested_fields, set_tests, kind_tests, head_tests, scanned}
use Rattle.set_table.specs.Sets.{set_numbered}
use Rattle.file_model.specs.declared.faults.FileFault.{FileFault}
use Rattle.file_model.specs.declared.faults.FileFault.TheVariants.{NotOurs, Version, Kind, Damaged}
use Rattle.file_model.specs.declared.head.Wanted.{Wanted}
use Rattle.file_model.proofs.Sets.{number_of-found, number_of_kind-found, set_numbered-number_of, kind_of_number-number_of_kind}
use Rattle.file_model.proofs.Tests.{test_yes, test_ok}

-- the words of a file
words_ok : (content : FileContent) (unreduced : Option ℕ) (other : FileContent) → tested_words content unreduced ≡ Ok other
    → (unreduced ≡ None) × (content ≡ other)
words_ok content None other is = (refl, cc)
words_ok content (Some place) other is = absurd (cc)

-- what is behind the head passes
record BodyPasses (kind : FileKind) (set : SetName) (bytes : List ℕ) (content : FileContent) : Type 0 where
  pub digest : DigestTests bytes
  pub words : WordsBelow kind set bytes
  pub content_is : content_at kind set bytes ≡ content

body_ok : (kind : FileKind) (set : SetName) (bytes : List ℕ) (content : FileContent) → tested_body kind set bytes ≡ Ok content
    → BodyPasses kind set bytes content
unfolding tested_body
body_ok kind set bytes content is =
    let end = 64 + 8 * stated_count bytes in
    let a = test_ok (length bytes == 96 + 8 * stated_count bytes) (bad_length (length bytes) (96 + 8 * stated_count bytes)) _ content is in
    let b = test_ok (bytes_eq (bytes_from end 32 bytes) (sha256 (take end bytes))) (Damaged Digest) _ content a.1 in
    let c = words_ok (content_at kind set bytes) (first_unreduced kind set bytes) content b.1 in
    record {
      digest = record {
        size = eqb-true (length bytes) (96 + 8 * stated_count bytes) a.0;
        digest = (bytes_eq-Decides (bytes_from end 32 bytes) (sha256 (take end bytes))).0 b.0;
      };
      words = none_unreduced kind set bytes c.0;
      content_is = c.1;
    }

body_yes : (kind : FileKind) (set : SetName) (bytes : List ℕ) → DigestTests bytes → WordsBelow kind set bytes
    → tested_body kind set bytes ≡ Ok (content_at kind set bytes)
unfolding tested_body
body_yes kind set bytes digest words =
    let end = 64 + 8 * stated_count bytes in
    test_yes (length bytes == 96 + 8 * stated_count bytes) (bad_length (length bytes) (96 + 8 * stated_count bytes)) _
    (eq-eqb (length bytes) (96 + 8 * stated_count bytes) digest.size)
    ∙ test_yes (bytes_eq (bytes_from end 32 bytes) (sha256 (take end bytes))) (Damaged Digest) _
    ((bytes_eq-Decides (bytes_from end 32 bytes) (sha256 (take end bytes))).1 digest.digest)
    ∙ ap (tested_words (content_at kind set bytes)) (all_reduced kind set bytes words)

-- the fields behind the kind pass
fields_ok : (kind : FileKind) (set : SetName) (bytes : List ℕ) (further : Result FileContent FileFault) (content : FileContent)
    → tested_fields kind set bytes further ≡ Ok content → FieldTests kind set bytes × (further ≡ Ok content)
unfolding tested_fields
fields_ok kind set bytes further content is =
    let a = test_ok (set_fits kind set) (bad_field 9) _ content is in
    let b = test_ok (parts_fit kind (slice_index bytes 10)) (bad_field 10) _ content a.1 in
    let c = test_ok (slice_index bytes 11 == 0) (bad_field 11) _ content b.1 in
    let d = test_ok (element_fits kind set (number_from 12 4 bytes)) (bad_field 12) _ content c.1 in
    let e = test_ok (bound_fits kind set (number_from 32 4 bytes) (number_from 36 4 bytes)) (bad_field 32) _ content d.1 in
    let f = test_ok (stated_count bytes == row_count kind set (slice_index bytes 10) * degree_of set) (bad_field 40) _ content e.1 in
    let g = test_ok (list_all (λ byte. byte == 0) (bytes_from 48 16 bytes)) (bad_field 48) further content f.1 in (
      record {
        set_rule = a.0;
        parts = b.0;
        zero_byte = eqb-true (slice_index bytes 11) 0 c.0;
        element = d.0;
        bound = e.0;
        count = eqb-true (stated_count bytes) (row_count kind set (slice_index bytes 10) * degree_of set) f.0;
        zeros = g.0;
      },
      g.1,
    )

fields_yes : (kind : FileKind) (set : SetName) (bytes : List ℕ) (further : Result FileContent FileFault) → FieldTests kind set bytes
    → tested_fields kind set bytes further ≡ further
unfolding tested_fields
fields_yes kind set bytes further t =
    test_yes (set_fits kind set) (bad_field 9) _ t.set_rule
    ∙ test_yes (parts_fit kind (slice_index bytes 10)) (bad_field 10) _ t.parts
    ∙ test_yes (slice_index bytes 11 == 0) (bad_field 11) _ (eq-eqb (slice_index bytes 11) 0 t.zero_byte)
    ∙ test_yes (element_fits kind set (number_from 12 4 bytes)) (bad_field 12) _ t.element
    ∙ test_yes (bound_fits kind set (number_from 32 4 bytes) (number_from 36 4 bytes)) (bad_field 32) _ t.bound
    ∙ test_yes (stated_count bytes == row_count kind set (slice_index bytes 10) * degree_of set) (bad_field 40) _
    (eq-eqb (stated_count bytes) (row_count kind set (slice_index bytes 10) * degree_of set) t.count)
    ∙ test_yes (list_all (λ byte. byte == 0) (bytes_from 48 16 bytes)) (bad_field 48) further t.zeros

set_ok : (kind : FileKind) (set : Option SetName) (bytes : List ℕ) (content : FileContent)
    → set_tests kind set bytes (λ k s. tested_body k s bytes) ≡ Ok content
    → (s : SetName) × (set ≡ Some s) × (tested_fields kind s bytes (tested_body kind s bytes) ≡ Ok content)
set_ok kind None bytes content is = absurd (cc)
set_ok kind (Some set) bytes content is = (set, refl, is)

kind_ok : (wanted : Wanted) (kind : Option FileKind) (bytes : List ℕ) (content : FileContent)
    → kind_tests wanted kind bytes (λ k s. tested_body k s bytes) ≡ Ok content
    → (k : FileKind) × (kind ≡ Some k) × (wants wanted k ≡ true)
    × (set_tests k (set_numbered (slice_index bytes 9)) bytes (λ k s. tested_body k s bytes) ≡ Ok content)
kind_ok wanted None bytes content is = absurd (cc)
kind_ok wanted (Some kind) bytes content is =
    let a = test_ok (wants wanted kind) (Kind (number_of_kind kind)) _ content is in (kind, refl, a.0, a.1)

-- bytes that pass are of a wanted kind and of a set, and what they state is the content
record Passes (wanted : Wanted) (bytes : List ℕ) (content : FileContent) : Type 0 where
  pub kind : FileKind
  pub set : SetName
  pub wanted_kind : wants wanted kind ≡ true
  pub head : HeadTests kind set bytes
  pub fields : FieldTests kind set bytes
  pub body : BodyPasses kind set bytes content

scanned_ok : (wanted : Wanted) (bytes : List ℕ) (content : FileContent) → scanned wanted bytes ≡ Ok content → Passes wanted bytes content
unfolding head_tests
scanned_ok wanted bytes content is =
    let a = test_ok (bytes_eq (take 7 bytes) format_name) NotOurs _ content is in
    let b = test_ok (nat_le 64 (length bytes)) (bad_length (length bytes) 64) _ content a.1 in
    let c = test_ok (slice_index bytes 7 == 1) (Version (slice_index bytes 7)) _ content b.1 in
    let d = kind_ok wanted (kind_of_number (slice_index bytes 8)) bytes content c.1 in
    let e = set_ok d.0 (set_numbered (slice_index bytes 9)) bytes content d.3 in
    let f = fields_ok d.0 e.0 bytes (tested_body d.0 e.0 bytes) content e.2 in
    record {
      kind = d.0;
      set = e.0;
      wanted_kind = d.2;
      head = record {
        long = leb-true 64 (length bytes) b.0;
        name = (bytes_eq-Decides (take 7 bytes) format_name).0 a.0;
        version = eqb-true (slice_index bytes 7) 1 c.0;
        kind_is = sym (number_of_kind-found (slice_index bytes 8) d.0 d.1);
        set_is = sym (number_of-found (slice_index bytes 9) e.0 e.1);
      };
      fields = f.0;
      body = body_ok d.0 e.0 bytes content f.1;
    }

kind_at : (kind : FileKind) (set : SetName) (bytes : List ℕ) → (content_at kind set bytes).kind ≡ kind
unfolding content_at
kind_at kind set bytes = refl

pub scanned-sound : (wanted : Wanted) (bytes : List ℕ) (content : FileContent) → IsBytes bytes → scanned wanted bytes ≡ Ok content
    → IsFile bytes content × (wants wanted content.kind ≡ true)
scanned-sound wanted bytes content fits is =
    let p = scanned_ok wanted bytes content is in (
      subst (IsFile bytes) p.body.content_is (tests-IsFile p.kind p.set bytes fits p.head p.fields p.body.digest p.body.words),
      ap (λ (c : FileContent). wants wanted c.kind) (sym p.body.content_is) ∙ ap (wants wanted) (kind_at p.kind p.set bytes) ∙ p.wanted_kind,
    )

pub scanned-complete : (wanted : Wanted) (bytes : List ℕ) (content : FileContent) → IsFile bytes content → wants wanted content.kind ≡ true
    → scanned wanted bytes ≡ Ok content
unfolding head_tests
scanned-complete wanted bytes content file wanted_kind =
    let read = file_is_read bytes content file in
    let kind : kind_of_number (slice_index bytes 8) ≡ Some content.kind =
    ap kind_of_number read.head.kind_is ∙ kind_of_number-number_of_kind content.kind in
    let set : set_numbered (slice_index bytes 9) ≡ Some content.set =
    ap set_numbered read.head.set_is ∙ set_numbered-number_of content.set in
    test_yes (bytes_eq (take 7 bytes) format_name) NotOurs _ ((bytes_eq-Decides (take 7 bytes) format_name).1 read.head.name)
    ∙ test_yes (nat_le 64 (length bytes)) (bad_length (length bytes) 64) _ (le-leb 64 (length bytes) read.head.long)
    ∙ test_yes (slice_index bytes 7 == 1) (Version (slice_index bytes 7)) _ (eq-eqb (slice_index bytes 7) 1 read.head.version)
    ∙ ap (λ (k : Option FileKind). kind_tests wanted k bytes (λ k s. tested_body k s bytes)) kind
    ∙ test_yes (wants wanted content.kind) (Kind (number_of_kind content.kind)) _ wanted_kind
    ∙ ap (λ (s : Option SetName). set_tests content.kind s bytes (λ k s. tested_body k s bytes)) set
    ∙ fields_yes content.kind content.set bytes (tested_body content.kind content.set bytes) read.fields
    ∙ body_yes content.kind content.set bytes read.digest read.words
    ∙ ap Ok read.content
