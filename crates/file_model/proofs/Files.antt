-- When bytes are a file: what the tests say, and that a file has one content.
use Rattle.std.proofs.Common.{◌≡◌, ℕ, zero, suc, ◌+◌, ◌*◌, ◌<◌, ◌≤◌, List, [], ◌∷◌, ◌++◌, length, get_or, take, replicate, refl, sym, ◌∙◌, ap, subst, arith, length-append, append_assoc, zero-add}
use Rattle.std.specs.Prelude.{Bool, true, ◌==◌, nat_lt, slice_index, IsTrue, None}
use Rattle.std.specs.List.{list_all, range_with_len}
use Rattle.std.proofs.lemmas.Bool.{eqb-true, ltb-true, lt-ltb, and_parts, and_from}
use Rattle.std.proofs.lemmas.List.{take_all, take_at, append-nil}
use Rattle.std.proofs.lemmas.List.FromFn.{length-range_with_len, get_or-range_with_len}
use Rattle.sha2.specs.Sha256.{sha256}
use Rattle.sha2.proofs.Facts256.{length-sha256}
use Rattle.set_table.specs.declared.SetName.{SetName}
use Rattle.set_table.specs.Sets.{number_of, degree_of}
use Rattle.file_model.specs.declared.file_kind.FileKind.{FileKind}
use Rattle.file_model.specs.Bytes.{IsBytes, word_bytes, bytes_from, number_from, words_from}
use Rattle.file_model.specs.FileText.{FileContent, KeepsRules, IsFile, format_name, number_of_kind, head_text, file_text, digested, set_fits, parts_fit, element_fits, bound_fits, row_count, word_modulus}
use Rattle.file_model.specs.Fronts.{stated_count, content_at}
use Rattle.file_model.specs.Scan.{first_unreduced}
use Rattle.file_model.proofs.Bytes.{take-bytes_from, length-bytes_from, bytes_from-between}
use Rattle.file_model.proofs.Words.{length-word_bytes, number_from-words, length-words_from, get_or-words_from, words_from-words, word_bytes-words_from}
use Rattle.file_model.proofs.Heads.{HeadFields, head_fields, head_text-fields, length-head_text}
use Rattle.file_model.proofs.Rules.{list_all-at, fields_are_short, word_lt}
use Rattle.file_model.proofs.Ranges.{list_all-find, find-list_all}
use Rattle.file_model.proofs.Sets.{number_of-once, number_of_kind-once}

-- a list of zeros
list_all-zeros : (bytes : List ℕ) (n : ℕ) → length bytes ≡ n → list_all (λ byte. byte == 0) bytes ≡ true → bytes ≡ replicate n 0
list_all-zeros [] zero len all = refl
list_all-zeros [] (suc n) len all = absurd (omega arith)
list_all-zeros (b ∷ bs) zero len all = absurd (omega arith)
list_all-zeros (b ∷ bs) (suc n) len all =
    let both = and_parts (b == 0) (list_all (λ byte. byte == 0) bs) all in
    ap (λ (x : ℕ). x ∷ bs) (eqb-true b 0 both.0) ∙ ap (λ (l : List ℕ). 0 ∷ l) (list_all-zeros bs n (omega arith) both.1)

-- what the tests of a head say
pub record HeadTests (kind : FileKind) (set : SetName) (bytes : List ℕ) : Type 0 where
  pub long : 64 ≤ length bytes
  pub name : take 7 bytes ≡ format_name
  pub version : slice_index bytes 7 ≡ 1
  pub kind_is : slice_index bytes 8 ≡ number_of_kind kind
  pub set_is : slice_index bytes 9 ≡ number_of set

-- what the tests of the further fields say
pub record FieldTests (kind : FileKind) (set : SetName) (bytes : List ℕ) : Type 0 where
  pub set_rule : IsTrue (set_fits kind set)
  pub parts : IsTrue (parts_fit kind (slice_index bytes 10))
  pub zero_byte : slice_index bytes 11 ≡ 0
  pub element : IsTrue (element_fits kind set (number_from 12 4 bytes))
  pub bound : IsTrue (bound_fits kind set (number_from 32 4 bytes) (number_from 36 4 bytes))
  pub count : stated_count bytes ≡ row_count kind set (slice_index bytes 10) * degree_of set
  pub zeros : list_all (λ byte. byte == 0) (bytes_from 48 16 bytes) ≡ true

-- a list whose every element passes
pub list_all-from : {X : Type 0} (test : X → Bool) (xs : List X) (d : X) → ((i : ℕ) → i < length xs → test (get_or xs i d) ≡ true)
    → list_all test xs ≡ true
list_all-from test [] d each = refl
list_all-from test (x ∷ xs) d each = and_from (test x) (list_all test xs) (each 0 (omega arith))
    (list_all-from test xs d (λ i below. each (suc i) (omega arith)))

-- what the test of the digest says
pub record DigestTests (bytes : List ℕ) : Type 0 where
  pub size : length bytes ≡ 96 + 8 * stated_count bytes
  pub digest : bytes_from (64 + 8 * stated_count bytes) 32 bytes ≡ sha256 (take (64 + 8 * stated_count bytes) bytes)

range_at : (n i : ℕ) → i < n → get_or (range_with_len 0 n) i 0 ≡ i
range_at n i below = get_or-range_with_len 0 n i 0 below ∙ zero-add i

-- each word is below its modulus
abbrev pub WordsBelow : FileKind → SetName → List ℕ → Type 0
WordsBelow kind set bytes = (i : ℕ) → i < stated_count bytes → number_from (64 + 8 * i) 8 bytes < word_modulus kind set i

-- it is, where no word is found that isn't, and back
pub none_unreduced : (kind : FileKind) (set : SetName) (bytes : List ℕ) → first_unreduced kind set bytes ≡ None → WordsBelow kind set bytes
unfolding first_unreduced
none_unreduced kind set bytes none i below =
    let count = stated_count bytes in
    let test : ℕ → Bool = λ i. nat_lt (number_from (64 + 8 * i) 8 bytes) (word_modulus kind set i) in
    let inside : i < length (range_with_len 0 count) = omega (arith, length-range_with_len 0 count) in
    let here : test i ≡ true = ap test (sym (range_at count i below))
    ∙ list_all-at test (range_with_len 0 count) i 0 (list_all-find test (range_with_len 0 count) none) inside in
    ltb-true (number_from (64 + 8 * i) 8 bytes) (word_modulus kind set i) here

pub all_reduced : (kind : FileKind) (set : SetName) (bytes : List ℕ) → WordsBelow kind set bytes → first_unreduced kind set bytes ≡ None
unfolding first_unreduced
all_reduced kind set bytes below =
    let count = stated_count bytes in
    let test : ℕ → Bool = λ i. nat_lt (number_from (64 + 8 * i) 8 bytes) (word_modulus kind set i) in
    find-list_all test (range_with_len 0 count) (list_all-from test (range_with_len 0 count) 0 (λ i inside.
    let in_count : i < count = omega (arith, length-range_with_len 0 count) in
    ap test (range_at count i in_count)
    ∙ lt-ltb (number_from (64 + 8 * i) 8 bytes) (word_modulus kind set i) (below i in_count)))

content_at-fields : (kind : FileKind) (set : SetName) (bytes : List ℕ) → HeadTests kind set bytes → FieldTests kind set bytes
    → HeadFields bytes (content_at kind set bytes)
unfolding content_at
content_at-fields kind set bytes head fields =
    let long = head.long in
    record {
      name = head.name;
      version = head.version;
      kind = head.kind_is;
      set = head.set_is;
      parts = refl;
      zero_byte = fields.zero_byte;
      element = refl;
      key_id = refl;
      mantissa = refl;
      exponent = refl;
      count = sym (length-words_from 64 (stated_count bytes) bytes);
      zeros = list_all-zeros (bytes_from 48 16 bytes) 16 (length-bytes_from 48 16 bytes (omega arith)) fields.zeros;
    }

content_at-rules : (kind : FileKind) (set : SetName) (bytes : List ℕ) → 64 ≤ length bytes → FieldTests kind set bytes
    → WordsBelow kind set bytes → KeepsRules (content_at kind set bytes)
unfolding content_at
content_at-rules kind set bytes long fields words =
    let count = stated_count bytes in
    record {
      set = fields.set_rule;
      parts = fields.parts;
      element = fields.element;
      key_id = length-bytes_from 16 16 bytes (omega arith);
      bound = fields.bound;
      count = length-words_from 64 count bytes ∙ fields.count;
      reduced = λ i below.
          let in_count : i < count = omega (arith, length-words_from 64 count bytes) in
          subst (λ (w : ℕ). w < word_modulus kind set i) (sym (get_or-words_from 64 count bytes i in_count))
          (words i in_count);
    }

content_at-text : (kind : FileKind) (set : SetName) (bytes : List ℕ) → IsBytes bytes → 64 ≤ length bytes
    → HeadFields bytes (content_at kind set bytes) → DigestTests bytes → bytes ≡ file_text (content_at kind set bytes)
unfolding content_at file_text
content_at-text kind set bytes fits long fields digest =
    let count = stated_count bytes in
    let content = content_at kind set bytes in
    let size = digest.size in
    let words : word_bytes (words_from 64 count bytes) ≡ bytes_from 64 (8 * count) bytes = word_bytes-words_from 64 count bytes fits
    (omega arith) in
    let front : take (64 + 8 * count) bytes ≡ head_text content ++ word_bytes (words_from 64 count bytes) =
    take-bytes_from 64 (8 * count) bytes
    ∙ ap (λ (l : List ℕ). l ++ bytes_from 64 (8 * count) bytes) (head_text-fields bytes content fits long fields)
    ∙ ap (λ (l : List ℕ). head_text content ++ l) (sym words) in
    sym (take_all (64 + 8 * count + 32) bytes (omega arith)) ∙ take-bytes_from (64 + 8 * count) 32 bytes
    ∙ ap (λ (l : List ℕ). take (64 + 8 * count) bytes ++ l) digest.digest
    ∙ ap digested front

-- bytes that pass the tests are the text of what they say
pub tests-IsFile : (kind : FileKind) (set : SetName) (bytes : List ℕ) → IsBytes bytes → HeadTests kind set bytes
    → FieldTests kind set bytes → DigestTests bytes → WordsBelow kind set bytes → IsFile bytes (content_at kind set bytes)
tests-IsFile kind set bytes fits head fields digest words = record {
  text = content_at-text kind set bytes fits head.long (content_at-fields kind set bytes head fields) digest;
  rules = content_at-rules kind set bytes head.long fields words;
}

-- the fields of a content, at the places of a head
content_of_fields : FileKind → SetName → ℕ → ℕ → List ℕ → ℕ → ℕ → List ℕ → FileContent
content_of_fields kind set parts element key_id mantissa exponent words =
    record { kind = kind; set = set; parts = parts; element = element; key_id = key_id; mantissa = mantissa; exponent = exponent; words = words }

same_content : (kind : FileKind) (set : SetName) (p p' e e' : ℕ) (i i' : List ℕ) (m m' x x' : ℕ) (w w' : List ℕ) → p ≡ p' → e ≡ e' → i ≡ i'
    → m ≡ m' → x ≡ x' → w ≡ w' → content_of_fields kind set p e i m x w ≡ content_of_fields kind set p' e' i' m' x' w'
same_content kind set p p' e e' i i' m m' x x' w w' parts element key_id mantissa exponent words = cc

-- a file's bytes pass the tests, and say its content
pub record FileIsRead (bytes : List ℕ) (c : FileContent) : Type 0 where
  pub head : HeadTests c.kind c.set bytes
  pub fields : FieldTests c.kind c.set bytes
  pub digest : DigestTests bytes
  pub words : WordsBelow c.kind c.set bytes
  pub content : content_at c.kind c.set bytes ≡ c

-- a text's parts
text_split : (c : FileContent) → file_text c ≡ head_text c ++ (word_bytes c.words ++ sha256 (head_text c ++ word_bytes c.words))
unfolding file_text
text_split c = append_assoc (head_text c) (word_bytes c.words) (sha256 (head_text c ++ word_bytes c.words))

text_front : (c : FileContent) → length c.key_id ≡ 16 → take (64 + 8 * length c.words) (file_text c) ≡ head_text c ++ word_bytes c.words
unfolding file_text
text_front c id =
    let body = head_text c ++ word_bytes c.words in
    let head = length-head_text c id in
    let words = length-word_bytes c.words in
    let long : length body ≡ 64 + 8 * length c.words = simp length-append (omega arith) in
    take_at body (sha256 body) (64 + 8 * length c.words) long

text_digest : (c : FileContent) → length c.key_id ≡ 16
    → bytes_from (64 + 8 * length c.words) 32 (file_text c) ≡ sha256 (head_text c ++ word_bytes c.words)
unfolding file_text
text_digest c id =
    let body = head_text c ++ word_bytes c.words in
    let head = length-head_text c id in
    let words = length-word_bytes c.words in
    let long : length body ≡ 64 + 8 * length c.words = simp length-append (omega arith) in
    let short : length (sha256 body) ≡ 32 = length-sha256 body in
    ap (λ (n : ℕ). bytes_from n 32 (body ++ sha256 body)) (sym long)
    ∙ ap (λ (n : ℕ). bytes_from (length body) n (body ++ sha256 body)) (sym short)
    ∙ ap (λ (l : List ℕ). bytes_from (length body) (length (sha256 body)) (body ++ l)) (sym (append-nil (sha256 body)))
    ∙ bytes_from-between body (sha256 body) []

-- the length of a text
pub length-file_text : (c : FileContent) → length c.key_id ≡ 16 → length (file_text c) ≡ 96 + 8 * length c.words
unfolding file_text
length-file_text c id =
    let head = length-head_text c id in
    let words = length-word_bytes c.words in
    let digest = length-sha256 (head_text c ++ word_bytes c.words) in
    simp length-append (omega arith)

-- the words' bytes behind the head
pub text_words : (c : FileContent) → length c.key_id ≡ 16 → bytes_from 64 (8 * length c.words) (file_text c) ≡ word_bytes c.words
text_words c id =
    let head = length-head_text c id in
    let words = length-word_bytes c.words in
    let digest = sha256 (head_text c ++ word_bytes c.words) in
    ap (bytes_from 64 (8 * length c.words)) (text_split c)
    ∙ ap (λ (n : ℕ). bytes_from n (8 * length c.words) (head_text c ++ (word_bytes c.words ++ digest))) (sym head)
    ∙ ap (λ (n : ℕ). bytes_from (length (head_text c)) n (head_text c ++ (word_bytes c.words ++ digest))) (sym words)
    ∙ bytes_from-between (head_text c) (word_bytes c.words) digest

text_is_read : (c : FileContent) → KeepsRules c → FileIsRead (file_text c) c
unfolding content_at content_of_fields
text_is_read c rules =
    let bytes = file_text c in
    let short = fields_are_short c rules in
    let after = word_bytes c.words ++ sha256 (head_text c ++ word_bytes c.words) in
    let f : HeadFields bytes c = subst (λ (l : List ℕ). HeadFields l c) (sym (text_split c)) (head_fields c after short) in
    let size = length-file_text c rules.key_id in
    let count = f.count in
    let words_is : words_from 64 (stated_count bytes) bytes ≡ c.words =
    ap (λ (n : ℕ). words_from 64 n bytes) count ∙ words_from-words c.words bytes 64 (sym (text_words c rules.key_id)) (word_lt c rules) in
    record {
      head = record { long = omega arith; name = f.name; version = f.version; kind_is = f.kind; set_is = f.set };
      fields = record {
        set_rule = rules.set;
        parts = subst (λ (x : ℕ). IsTrue (parts_fit c.kind x)) (sym f.parts) rules.parts;
        zero_byte = f.zero_byte;
        element = subst (λ (x : ℕ). IsTrue (element_fits c.kind c.set x)) (sym f.element) rules.element;
        bound =
            subst (λ (x : ℕ). IsTrue (bound_fits c.kind c.set x (number_from 36 4 bytes))) (sym f.mantissa)
            (subst (λ (x : ℕ). IsTrue (bound_fits c.kind c.set c.mantissa x)) (sym f.exponent) rules.bound);
        count = count ∙ rules.count ∙ ap (λ (x : ℕ). row_count c.kind c.set x * degree_of c.set) (sym f.parts);
        zeros = ap (list_all (λ byte. byte == 0)) f.zeros;
      };
      digest = record {
        size = omega arith;
        digest =
            ap (λ (n : ℕ). bytes_from (64 + 8 * n) 32 bytes) count ∙ text_digest c rules.key_id
            ∙ ap sha256 (sym (text_front c rules.key_id) ∙ ap (λ (n : ℕ). take (64 + 8 * n) bytes) (sym count));
      };
      words = λ i below.
          let inside : i < length c.words = omega arith in
          let word : number_from (64 + 8 * i) 8 bytes ≡ slice_index c.words i =
          number_from-words c.words bytes 64 (length c.words) i (sym (text_words c rules.key_id)) refl inside (word_lt c rules) in
          subst (λ (w : ℕ). w < word_modulus c.kind c.set i) (sym word) (rules.reduced i inside);
      content = same_content c.kind c.set _ c.parts _ c.element _ c.key_id _ c.mantissa _ c.exponent _ c.words f.parts f.element f.key_id f.mantissa f.exponent words_is;
    }

-- the same of any bytes that are a file
pub file_is_read : (bytes : List ℕ) (c : FileContent) → IsFile bytes c → FileIsRead bytes c
file_is_read bytes c file = subst (λ (l : List ℕ). FileIsRead l c) (sym file.text) (text_is_read c file.rules)

-- a file has one content
pub file_content-once : (bytes : List ℕ) (c d : FileContent) → IsFile bytes c → IsFile bytes d → c ≡ d
file_content-once bytes c d one other =
    let first = file_is_read bytes c one in
    let second = file_is_read bytes d other in
    let kind : c.kind ≡ d.kind = number_of_kind-once c.kind d.kind (sym first.head.kind_is ∙ second.head.kind_is) in
    let set : c.set ≡ d.set = number_of-once c.set d.set (sym first.head.set_is ∙ second.head.set_is) in
    sym first.content ∙ ap (λ (k : FileKind). content_at k c.set bytes) kind ∙ ap (λ (s : SetName). content_at d.kind s bytes) set
    ∙ second.content

-- the length of a file
pub file_length : (bytes : List ℕ) (c : FileContent) → IsFile bytes c → length bytes ≡ 96 + 8 * length c.words
file_length bytes c file = ap length file.text ∙ length-file_text c file.rules.key_id
