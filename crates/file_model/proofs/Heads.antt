-- The head of a file: its text and its fields.
use Rattle.std.proofs.Common.{◌≡◌, ℕ, ◌+◌, ◌<◌, ◌≤◌, List, [], ◌∷◌, ◌++◌, map, length, get_or, take, drop, replicate, refl, sym, ◌∙◌, ap, arith, length-append, append_assoc, get_or-drop, lit<}
use Rattle.std.specs.Prelude.{slice_index}
use Rattle.std.proofs.lemmas.List.{append-nil, get_or-take}
use Rattle.byteorder.specs.Endian.{little_bytes}
use Rattle.set_table.specs.Sets.{number_of}
use Rattle.file_model.specs.Bytes.{IsBytes, bytes_from, number_from}
use Rattle.file_model.specs.FileText.{FileContent, format_name, number_of_kind, head_text}
use Rattle.file_model.proofs.Bytes.{bytes_from-zero, bytes_from-start, bytes_from-add, bytes_from-between, little_bytes-number_4, little_bytes-number_8, number_from-bytes_4, number_from-bytes_8, bytes_from-one}

-- the text of pieces, one behind the other
abbrev pub joined : List (List ℕ) → List ℕ
joined [] = []
joined (p ∷ ps) = p ++ joined ps

-- parts of these widths, one behind the other
abbrev cut : List ℕ → ℕ → List ℕ → List (List ℕ)
cut [] from bs = []
cut (w ∷ ws) from bs = bytes_from from w bs ∷ cut ws (from + w) bs

abbrev total : List ℕ → ℕ
total [] = 0
total (w ∷ ws) = w + total ws

joined-cut : (ws : List ℕ) (from : ℕ) (bs : List ℕ) → joined (cut ws from bs) ≡ bytes_from from (total ws) bs
joined-cut [] from bs = sym (bytes_from-zero from bs)
joined-cut (w ∷ ws) from bs =
    ap (λ (l : List ℕ). bytes_from from w bs ++ l) (joined-cut ws (from + w) bs) ∙ sym (bytes_from-add from w (total ws) bs)

cut-joined : (ps : List (List ℕ)) (before after : List ℕ) → cut (map length ps) (length before) (before ++ (joined ps ++ after)) ≡ ps
cut-joined [] before after = refl
cut-joined (p ∷ ps) before after =
    let bytes = before ++ ((p ++ joined ps) ++ after) in
    let first : bytes_from (length before) (length p) bytes ≡ p =
    ap (λ (l : List ℕ). bytes_from (length before) (length p) (before ++ l)) (append_assoc p (joined ps) after)
    ∙ bytes_from-between before p (joined ps ++ after) in
    let moved : bytes ≡ (before ++ p) ++ (joined ps ++ after) =
    ap (λ (l : List ℕ). before ++ l) (append_assoc p (joined ps) after) ∙ sym (append_assoc before p (joined ps ++ after)) in
    let others : cut (map length ps) (length before + length p) bytes ≡ ps =
    ap (λ (n : ℕ). cut (map length ps) n bytes) (sym (length-append before p))
    ∙ ap (cut (map length ps) (length (before ++ p))) moved
    ∙ cut-joined ps (before ++ p) after in
    ap (λ (x : List ℕ). x ∷ cut (map length ps) (length before + length p) bytes) first ∙ ap (λ (l : List (List ℕ)). p ∷ l) others

-- the pieces of a head
abbrev head_pieces : FileContent → List (List ℕ)
head_pieces c =
    format_name ∷ (1 ∷ number_of_kind c.kind ∷ number_of c.set ∷ c.parts ∷ 0 ∷ []) ∷ little_bytes 4 c.element ∷ c.key_id
    ∷ little_bytes 4 c.mantissa ∷ little_bytes 4 c.exponent ∷ little_bytes 8 (length c.words) ∷ replicate 16 0 ∷ []

joined-eight : (a b c d e f g h : List ℕ) → joined (a ∷ b ∷ c ∷ d ∷ e ∷ f ∷ g ∷ h ∷ []) ≡ a ++ b ++ c ++ d ++ e ++ f ++ g ++ h
joined-eight a b c d e f g h = simp (append_assoc, append-nil)

head_text-joined : (c : FileContent) → head_text c ≡ joined (head_pieces c)
unfolding head_text
head_text-joined c =
    sym (joined-eight format_name (1 ∷ number_of_kind c.kind ∷ number_of c.set ∷ c.parts ∷ 0 ∷ []) (little_bytes 4 c.element) c.key_id
    (little_bytes 4 c.mantissa) (little_bytes 4 c.exponent) (little_bytes 8 (length c.words)) (replicate 16 0))

-- their widths
abbrev widths : List ℕ
widths = 7 ∷ 5 ∷ 4 ∷ 16 ∷ 4 ∷ 4 ∷ 8 ∷ 16 ∷ []

-- a head has 64 bytes
pub length-head_text : (c : FileContent) → length c.key_id ≡ 16 → length (head_text c) ≡ 64
unfolding head_text
length-head_text c id = simp length-append (omega arith)

cut-head_text : (c : FileContent) (after : List ℕ) → length c.key_id ≡ 16 → cut widths 0 (head_text c ++ after) ≡ head_pieces c
cut-head_text c after id =
    ap (λ (l : List ℕ). cut widths 0 (l ++ after)) (head_text-joined c)
    ∙ ap (λ (n : ℕ). cut (7 ∷ 5 ∷ 4 ∷ n ∷ 4 ∷ 4 ∷ 8 ∷ 16 ∷ []) 0 (joined (head_pieces c) ++ after)) (sym id)
    ∙ cut-joined (head_pieces c) [] after

-- the bytes at the fields of a head
pub record HeadFields (bytes : List ℕ) (c : FileContent) : Type 0 where
  pub name : take 7 bytes ≡ format_name
  pub version : slice_index bytes 7 ≡ 1
  pub kind : slice_index bytes 8 ≡ number_of_kind c.kind
  pub set : slice_index bytes 9 ≡ number_of c.set
  pub parts : slice_index bytes 10 ≡ c.parts
  pub zero_byte : slice_index bytes 11 ≡ 0
  pub element : number_from 12 4 bytes ≡ c.element
  pub key_id : bytes_from 16 16 bytes ≡ c.key_id
  pub mantissa : number_from 32 4 bytes ≡ c.mantissa
  pub exponent : number_from 36 4 bytes ≡ c.exponent
  pub count : number_from 40 8 bytes ≡ length c.words
  pub zeros : bytes_from 48 16 bytes ≡ replicate 16 0

-- the numbers of a head fit their bytes
pub record FieldsAreShort (c : FileContent) : Type 0 where
  pub key_id : length c.key_id ≡ 16
  pub element : c.element < 4294967296
  pub mantissa : c.mantissa < 4294967296
  pub exponent : c.exponent < 4294967296
  pub count : length c.words < 18446744073709551616

-- one of the five single bytes
single_byte : (i : ℕ) (bytes five : List ℕ) → bytes_from 7 5 bytes ≡ five → i < 5 → slice_index bytes (7 + i) ≡ slice_index five i
unfolding bytes_from
single_byte i bytes five is below = sym (get_or-take 5 (drop 7 bytes) i 0 below ∙ get_or-drop 7 bytes i 0) ∙ ap
    (λ (l : List ℕ). get_or l i 0) is

-- a text that begins with the head has its fields
pub head_fields : (c : FileContent) (after : List ℕ) → FieldsAreShort c → HeadFields (head_text c ++ after) c
head_fields c after short =
    let bytes = head_text c ++ after in
    let cuts = cut-head_text c after short.key_id in
    let piece : (i : ℕ) → get_or (cut widths 0 bytes) i [] ≡ get_or (head_pieces c) i [] = λ i. ap
    (λ (l : List (List ℕ)). get_or l i []) cuts in
    record {
      name = sym (bytes_from-start 7 bytes) ∙ piece 0;
      version = single_byte 0 bytes _ (piece 1) (lit< tt);
      kind = single_byte 1 bytes _ (piece 1) (lit< tt);
      set = single_byte 2 bytes _ (piece 1) (lit< tt);
      parts = single_byte 3 bytes _ (piece 1) (lit< tt);
      zero_byte = single_byte 4 bytes _ (piece 1) (lit< tt);
      element = number_from-bytes_4 12 c.element bytes (piece 2) short.element;
      key_id = piece 3;
      mantissa = number_from-bytes_4 32 c.mantissa bytes (piece 4) short.mantissa;
      exponent = number_from-bytes_4 36 c.exponent bytes (piece 5) short.exponent;
      count = number_from-bytes_8 40 (length c.words) bytes (piece 6) short.count;
      zeros = piece 7;
    }

same_head : (x y : List ℕ) (xs ys : List (List ℕ)) → x ≡ y → xs ≡ ys → x ∷ xs ≡ y ∷ ys
same_head x y xs ys first others = ap (λ (p : List ℕ). p ∷ xs) first ∙ ap (λ (l : List (List ℕ)). y ∷ l) others

-- bytes from a place on, the first of them apart
bytes_from-next : (from n : ℕ) (bs : List ℕ) → from < length bs
    → bytes_from from (1 + n) bs ≡ slice_index bs from ∷ bytes_from (from + 1) n bs
bytes_from-next from n bs within = bytes_from-add from 1 n bs ∙ ap (λ (l : List ℕ). l ++ bytes_from (from + 1) n bs)
    (bytes_from-one from bs within)

five_bytes : (bs : List ℕ) → 64 ≤ length bs
    → bytes_from 7 5 bs ≡ slice_index bs 7 ∷ slice_index bs 8 ∷ slice_index bs 9 ∷ slice_index bs 10 ∷ slice_index bs 11 ∷ []
five_bytes bs long =
    bytes_from-next 7 4 bs (omega arith)
    ∙ ap (λ (l : List ℕ). slice_index bs 7 ∷ l) (bytes_from-next 8 3 bs (omega arith)
    ∙ ap (λ (l : List ℕ). slice_index bs 8 ∷ l) (bytes_from-next 9 2 bs (omega arith)
    ∙ ap (λ (l : List ℕ). slice_index bs 9 ∷ l) (bytes_from-next 10 1 bs (omega arith)
    ∙ ap (λ (l : List ℕ). slice_index bs 10 ∷ l) (bytes_from-one 11 bs (omega arith)))))

same_five : (v v' k k' s s' p p' z z' : ℕ) → v ≡ v' → k ≡ k' → s ≡ s' → p ≡ p' → z ≡ z'
    → v ∷ k ∷ s ∷ p ∷ z ∷ [] ≡ v' ∷ k' ∷ s' ∷ p' ∷ z' ∷ []
same_five v v' k k' s s' p p' z z' version kind set parts zero_byte = cc

-- bytes with the fields of a content begin with its head
pub head_text-fields : (bytes : List ℕ) (c : FileContent) → IsBytes bytes → 64 ≤ length bytes → HeadFields bytes c
    → take 64 bytes ≡ head_text c
head_text-fields bytes c fits long f =
    sym (bytes_from-start 64 bytes) ∙ sym (joined-cut widths 0 bytes)
    ∙ ap joined
    (same_head _ _ _ _ (bytes_from-start 7 bytes ∙ f.name)
    (same_head _ _ _ _ (five_bytes bytes long ∙ same_five _ _ _ _ _ _ _ _ _ _ f.version f.kind f.set f.parts f.zero_byte)
    (same_head _ _ _ _ (sym (little_bytes-number_4 12 bytes fits (omega arith)) ∙ ap (little_bytes 4) f.element)
    (same_head _ _ _ _ f.key_id
    (same_head _ _ _ _ (sym (little_bytes-number_4 32 bytes fits (omega arith)) ∙ ap (little_bytes 4) f.mantissa)
    (same_head _ _ _ _ (sym (little_bytes-number_4 36 bytes fits (omega arith)) ∙ ap (little_bytes 4) f.exponent)
    (same_head _ _ _ _ (sym (little_bytes-number_8 40 bytes fits (omega arith)) ∙ ap (little_bytes 8) f.count)
    (same_head _ _ [] [] f.zeros refl))))))))
    ∙ sym (head_text-joined c)
