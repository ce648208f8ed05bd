-- Switching keys that are drawn: they depend on the coefficients of the secret alone, and are keys of it.
use Rattle.std.proofs.Common.{◌≡◌, ℕ, zero, suc, ◌+◌, ◌*◌, ◌/◌, ◌%◌, ◌^◌, ◌<◌, ℤ, pos, ◌+ℤ◌, ◌-ℤ◌, ◌*ℤ◌, List, length, refl, sym, ◌∙◌, ap, ap₂, subst, arith}
use Rattle.std.specs.Prelude.{Option, Some, None, IsSome, ◌==◌, if◌then◌else◌, slice_index, unwrap_or, ◌++◌, [], ◌∷◌}
use Rattle.std.proofs.lemmas.Nat.{div-mul-add, mod-mul-add}
use Rattle.set_table.specs.declared.SetName.{SetName}
use Rattle.set_table.specs.declared.KeyKind.{KeyKind}
use Rattle.set_table.specs.declared.KeyKind.TheVariants.{Relin, Turn}
use Rattle.set_table.specs.Sets.{degree_of, log_degree_of, data_of, key_of, special_of}
use Rattle.ring_law.specs.Residues.{residue}
use Rattle.ring_law.specs.Polynomials.{EqualPolynomials, power_coefficient, ring_turn}
use Rattle.ring_law.specs.Transform.{bit_reversal, evaluation, transform_entry}
use Rattle.ring_law.proofs.RingProduct.{ring_product_ext}
use Rattle.ring_law.proofs.Sums.{sum_below_ext}
use Rattle.bfv_model.specs.Drawn.{digit_place, drawn_digit_mask, drawn_error, drawn_switch}
use Rattle.bfv_model.specs.Holds.{secret_polynomial}
use Rattle.bfv_model.specs.Keys.{stored_key_word}
use Rattle.bfv_model.specs.SwitchKeys.{IsSwitchKeyIn, key_roots_of, key_source}
use Rattle.bfv_model.proofs.Ciphers.{stored_word-listed_words}
use Rattle.bfv_model.proofs.SetKeys.{drawn_switch-IsSwitchKeyIn}
use Rattle.bfv_model.proofs.Sets.{degree_pos}
use Rattle.bfv_params.proofs.Tables.{degree_of-power}
use Rattle.file_model.specs.declared.file_kind.FileKind.TheVariants.{SwitchKey}
use Rattle.file_model.specs.FileText.{FileContent}
use Rattle.file_model.specs.Heads.{content_with, made_head, no_bound}
use Rattle.file_model.specs.KeyWords.{key_words}
use Rattle.file_model.specs.DrawnFiles.{drawn_key, drawn_switch_file}
use Rattle.cipher_files.proofs.ListedWords.{listed_words_ext}
use Rattle.cipher_files.proofs.Tables.{key_table}
use Rattle.key_commands.specs.SwitchKeys.{content_drawn}

-- ---- equal secrets
-- equal polynomials have equal transforms
transform_entry_ext : (p log root : ℕ) (a b : ℕ → ℤ) (k : ℕ) → EqualPolynomials (2 ^ log) a b → transform_entry p log root a k ≡ transform_entry p log root b k
unfolding evaluation
transform_entry_ext p log root a b k same =
    ap (residue p) (sum_below_ext (2 ^ log) (λ i. a i *ℤ pos (root ^ (i * (2 * bit_reversal log k + 1)))) (λ i. b i *ℤ pos (root ^ (i * (2 * bit_reversal log k + 1))))
    (λ i below. ap (λ (x : ℤ). x *ℤ pos (root ^ (i * (2 * bit_reversal log k + 1)))) (same i below)))

-- and equal turns
ring_turn_ext : (n g : ℕ) (a b : ℕ → ℤ) (k : ℕ) → EqualPolynomials n a b → ring_turn n g a k ≡ ring_turn n g b k
unfolding ring_turn
ring_turn_ext n g a b k same =
    sum_below_ext n (λ i. a i *ℤ power_coefficient n (g * i) k) (λ i. b i *ℤ power_coefficient n (g * i) k) (λ i below. ap (λ (x : ℤ). x *ℤ power_coefficient n (g * i) k) (same i below))

key_source_ext : (kind : KeyKind) (n element : ℕ) (a b : ℕ → ℤ) → EqualPolynomials n a b → EqualPolynomials n (key_source kind n element a) (key_source kind n element b)
key_source_ext Relin n element a b same k below = ring_product_ext n a b a b same same k
key_source_ext Turn n element a b same k below = ring_turn_ext n element a b k same

drawn_switch_ext : (log : ℕ) (moduli : List ℕ) (P : ℕ) (roots : List ℕ) (source other s r : ℕ → ℤ) (words : ℕ → ℕ) (i part row k : ℕ)
    → EqualPolynomials (2 ^ log) source other → EqualPolynomials (2 ^ log) s r
    → drawn_switch log moduli P roots source s words i part row k ≡ drawn_switch log moduli P roots other r words i part row k
drawn_switch_ext log moduli P roots source other s r words i zero row k same_source same =
    let p = slice_index (moduli ++ P ∷ []) row in
    let root = slice_index roots row in
    ap₂ (λ x y. residue p (pos (transform_entry p log root (drawn_error words (digit_place (2 ^ log) moduli i)) k)
    -ℤ pos (drawn_digit_mask (2 ^ log) moduli P words i row k) *ℤ pos x
    +ℤ (if row == i then pos P *ℤ pos y else pos 0)))
    (transform_entry_ext p log root s r k same) (transform_entry_ext p log root source other k same_source)
drawn_switch_ext log moduli P roots source other s r words i (suc part) row k same_source same = refl

-- the same words are drawn for equal secrets
key_words_ext : (set : SetName) (kind : KeyKind) (element : ℕ) (s r : ℕ → ℤ) (words : ℕ → ℕ) → EqualPolynomials (degree_of set) s r
    → key_words set (drawn_key set (key_source kind (degree_of set) element s) s words) ≡ key_words set (drawn_key set (key_source kind (degree_of set) element r) r words)
key_words_ext set kind element s r words same =
    let n = degree_of set in
    let sources = key_source_ext kind n element s r same in
    listed_words_ext n (length (data_of set) + 1) (length (data_of set) * 2) (λ part. drawn_key set (key_source kind n element s) s words (part / 2) (part % 2))
    (λ part. drawn_key set (key_source kind n element r) r words (part / 2) (part % 2)) (degree_pos set) (omega arith)
    (λ part row k _ _ _. drawn_switch_ext (log_degree_of set) (data_of set) (unwrap_or (special_of set) 0) (key_roots_of set) (key_source kind n element s) (key_source kind n element r) s r words
    (part / 2) (part % 2) row k (of_degree (key_source kind n element s) (key_source kind n element r) sources) (of_degree s r same))
  where
    of_degree : (a b : ℕ → ℤ) → EqualPolynomials (degree_of set) a b → EqualPolynomials (2 ^ log_degree_of set) a b
    of_degree a b = subst (λ (m : ℕ). EqualPolynomials m a b) (degree_of-power set)

-- the content that is written is the one that is drawn to the secret in a file
pub content_is : (n : ℕ) (set : SetName) (id : List ℕ) (kind : KeyKind) (element : ℕ) (s : ℕ → ℤ) (content : FileContent) (words : ℕ → ℕ) → n ≡ degree_of set
    → content.set ≡ set → content.key_id ≡ id → EqualPolynomials n s (secret_polynomial content.words)
    → content_drawn n (made_head (SwitchKey kind) set 0 element id no_bound) kind element s words ≡ drawn_switch_file kind element content words
unfolding drawn_switch_file
content_is n set id kind element s content words degree set_is id_is same =
    ap (λ (d : ℕ). with_words set id (key_words set (drawn_key set (key_source kind d element s) s words))) degree
    ∙ ap (with_words set id) (key_words_ext set kind element s (secret_polynomial content.words) words
    (subst (λ (d : ℕ). EqualPolynomials d s (secret_polynomial content.words)) degree same))
    ∙ ap (λ (i : List ℕ). with_words set i (of_set set)) (sym id_is)
    ∙ ap (λ (z : SetName). with_words z content.key_id (of_set z)) (sym set_is)
  where
    with_words : SetName → List ℕ → List ℕ → FileContent
    with_words z i listed = content_with (made_head (SwitchKey kind) z 0 element i no_bound) listed

    of_set : SetName → List ℕ
    of_set z = key_words z (drawn_key z (key_source kind (degree_of z) element (secret_polynomial content.words)) (secret_polynomial content.words) words)

-- ---- keys
pub special_is : (special : Option ℕ) → IsSome special → special ≡ Some (unwrap_or special 0)
special_is (Some P) some = refl
special_is None some = absurd (cc)

-- the listed words are those of a key of the set
pub drawn_key_is : (set : SetName) (source s : ℕ → ℤ) (words : ℕ → ℕ) → IsSome (special_of set)
    → IsSwitchKeyIn set (stored_key_word (degree_of set) (length (key_of set)) (key_words set (drawn_key set source s words))) source s
drawn_key_is set source s words some =
    let key = drawn_switch-IsSwitchKeyIn set (unwrap_or (special_of set) 0) source s words (special_is (special_of set) some) in
    record {
      special = key.special;
      is_special = key.is_special;
      words = record {
        part = key.words.part;
        transforms = λ i j r k digit half row place. stored i j r k digit half row place ∙ key.words.transforms i j r k digit half row place;
        relation = key.words.relation;
      };
    }
  where
    word : ℕ → ℕ → ℕ → ℕ → ℕ
    word = drawn_key set source s words

    stored : (i j r k : ℕ) → i < length (data_of set) → j < 2 → r < length (data_of set) + 1 → k < 2 ^ log_degree_of set
        → stored_key_word (degree_of set) (length (key_of set)) (key_words set word) i j r k ≡ word i j r k
    stored i j r k digit half row place =
        ap (λ (rows : ℕ). stored_key_word (degree_of set) rows (key_words set word) i j r k) (key_table (SwitchKey Relin) set refl some).count
        ∙ stored_word-listed_words (degree_of set) (length (data_of set) + 1) (length (data_of set) * 2) (λ part. word (part / 2) (part % 2)) (i * 2 + j) r k
        (omega (arith, digit, half)) row (subst (λ (m : ℕ). k < m) (sym (degree_of-power set)) place)
        ∙ ap₂ (λ x y. word x y r k) (div-mul-add i 2 j half) (mod-mul-add i 2 j half)
