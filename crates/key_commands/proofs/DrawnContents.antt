-- The contents of files that are drawn, from what the calls that draw them give.
use Rattle.std.proofs.Common.{◌≡◌, ℕ, zero, suc, ◌+◌, ◌<◌, List, length, refl, sym, ◌∙◌, ap, subst, arith, ℤ, pos, neg_ℤ, ◌+ℤ◌, lit<, mod-lt}
use Rattle.std.specs.Prelude.{slice_index}
use Rattle.rand_core.specs.Stream.{Stream}
use Rattle.set_table.specs.declared.SetName.{SetName}
use Rattle.set_table.specs.Sets.{degree_of, data_of}
use Rattle.ring_law.specs.Sums.{values_below}
use Rattle.ring_law.specs.Residues.{residue}
use Rattle.ring_law.specs.Rows.{listed_polynomial}
use Rattle.ring_law.proofs.RingProduct.{ring_product_ext}
use Rattle.ring_law.proofs.Values.{values_below_ext, get_or-values_below}
use Rattle.file_model.specs.declared.file_kind.FileKind.TheVariants.{Secret, PublicKey}
use Rattle.bfv_model.specs.Drawn.{drawn_error, drawn_key_id, drawn_mask, drawn_secret, drawn_public, seed_stream, stream_word}
use Rattle.file_model.specs.DrawnFiles.{drawn_secret_file, drawn_public_file}
use Rattle.file_model.specs.FileText.{FileContent}
use Rattle.bfv_model.specs.Holds.{listed_word, listed_words, secret_polynomial, ternary_coefficient}
use Rattle.bfv_model.proofs.Sets.{degree_pos, data_count_pos}
use Rattle.cipher_files.specs.Contents.{secret_words, part_words}
use Rattle.file_model.specs.Heads.{content_with}
use Rattle.file_model.specs.declared.head.Head.{Head}
use Rattle.cipher_files.proofs.ListedWords.{listed_words_ext}
use Rattle.command_model.specs.Plan.{seed_word}

-- the word of a coefficient is its residue modulo 3
ternary_word : (word : ℕ) → word < 3 → residue 3 (ternary_coefficient word) ≡ word
ternary_word zero below = refl
ternary_word (suc zero) below = refl
ternary_word (suc (suc zero)) below = refl
ternary_word (suc (suc (suc word))) below = absurd (omega arith)

-- the words of a drawn secret
secret_words-drawn : (n : ℕ) (small : List ℤ) (words : ℕ → ℕ) → small ≡ values_below n (λ k. ternary_coefficient (drawn_secret words k))
    → secret_words n small ≡ values_below n (drawn_secret words)
secret_words-drawn n small words is =
    ap (secret_words n) is
    ∙ values_below_ext n (λ k. residue 3 (listed_polynomial (values_below n (λ j. ternary_coefficient (drawn_secret words j))) k)) (drawn_secret words)
    (λ k below. ap (residue 3) (get_or-values_below n (λ j. ternary_coefficient (drawn_secret words j)) k (pos 0) below)
    ∙ ternary_word (drawn_secret words k) (mod-lt (words (2 + k)) (lit< tt)))

abbrev secret_head : SetName → ℕ → List ℕ → Head
secret_head set n id = record { kind = Secret; set = set; parts = 0; element = 0; id = id; bound = record { m = 0; e = 0 }; words = n }

-- the content of the file of a secret that was drawn from the stream of a seed
pub secret_content : (set : SetName) (n : ℕ) (id : List ℕ) (small : List ℤ) (seed : List ℕ) (stream : Stream) → n ≡ degree_of set → stream ≡ seed_stream seed
    → id ≡ drawn_key_id (stream_word stream) → small ≡ values_below n (λ k. ternary_coefficient (drawn_secret (stream_word stream) k))
    → content_with (secret_head set n id) (secret_words n small) ≡ drawn_secret_file set (seed_word seed)
unfolding drawn_secret_file
secret_content set n id small seed stream degree stream_is id_is is =
    ap (content_with (secret_head set n id)) (secret_words-drawn n small (stream_word stream) is)
    ∙ ap (λ (i : List ℕ). content_with (secret_head set n i) (values_below n (drawn_secret (stream_word stream)))) id_is
    ∙ ap (λ (s : Stream). content_with (secret_head set n (drawn_key_id (stream_word s))) (values_below n (drawn_secret (stream_word s)))) stream_is
    ∙ ap (λ (d : ℕ). content_with (secret_head set n (drawn_key_id (seed_word seed))) (values_below d (drawn_secret (seed_word seed)))) degree

abbrev public_head : SetName → ℕ → List ℕ → Head
public_head set words id = record { kind = PublicKey; set = set; parts = 0; element = 0; id = id; bound = record { m = 0; e = 0 }; words = words }

-- the content of the file of a public key that was drawn for a secret of this set and id
pub public_content : (set : SetName) (n count : ℕ) (id : List ℕ) (rows : List (List ℕ)) (secret : FileContent) (words : ℕ → ℕ) → n ≡ degree_of set
    → secret.set ≡ set → secret.key_id ≡ id
    → ((part i k : ℕ) → part < 2 → i < length (data_of set) → k < n
    → listed_word (length (data_of set)) rows part i k ≡ drawn_public n (data_of set) (secret_polynomial secret.words) words part i k)
    → content_with (public_head set count id) (part_words n set 2 rows) ≡ drawn_public_file secret words
unfolding drawn_public_file
public_content set n count id rows secret words degree set_is id_is same =
    ap (content_with (public_head set count id))
    (listed_words_ext n (length (data_of set)) 2 (listed_word (length (data_of set)) rows) (drawn_public n (data_of set) (secret_polynomial secret.words) words)
    (subst (λ (d : ℕ). 0 < d) (sym degree) (degree_pos set)) (data_count_pos set) same)
    ∙ ap (λ (d : ℕ). content_with (public_head set count id) (listed_words d (length (data_of set)) 2 (drawn_public d (data_of set) (secret_polynomial secret.words) words))) degree
    ∙ ap (λ (i : List ℕ). content_with (public_head set count i) (listed_words (degree_of set) (length (data_of set)) 2 (drawn_public (degree_of set) (data_of set) (secret_polynomial secret.words) words))) (sym id_is)
    ∙ ap (λ (z : SetName). content_with (public_head z count secret.key_id) (listed_words (degree_of z) (length (data_of z)) 2 (drawn_public (degree_of z) (data_of z) (secret_polynomial secret.words) words))) (sym set_is)

-- a drawn public key depends on the coefficients of the secret alone
drawn_public_ext : (n : ℕ) (moduli : List ℕ) (s r : ℕ → ℤ) (words : ℕ → ℕ) (part i k : ℕ) → ((j : ℕ) → j < n → s j ≡ r j)
    → drawn_public n moduli s words part i k ≡ drawn_public n moduli r words part i k
drawn_public_ext n moduli s r words zero i k same =
    ap (λ (z : ℤ). residue (slice_index moduli i) (neg_ℤ (z +ℤ drawn_error words 0 k)))
    (ring_product_ext n (λ z. pos (drawn_mask n moduli words i z)) (λ z. pos (drawn_mask n moduli words i z)) s r (λ _ _. refl) same k)
drawn_public_ext n moduli s r words (suc part) i k same = refl

-- the words of rows are those of the public key that is drawn for a secret
abbrev pub AreDrawn : ℕ → List (List ℕ) → (ℕ → ℤ) → (ℕ → ℕ) → SetName → Type 0
AreDrawn n rows s words set = (part i k : ℕ) → part < 2 → i < length (data_of set) → k < n
    → listed_word (length (data_of set)) rows part i k ≡ drawn_public n (data_of set) s words part i k

pub drawn_for : (n : ℕ) (rows : List (List ℕ)) (s r : ℕ → ℤ) (words : ℕ → ℕ) (set other : SetName) → set ≡ other → ((k : ℕ) → k < n → s k ≡ r k)
    → AreDrawn n rows s words set → AreDrawn n rows r words other
drawn_for n rows s r words set other set_is same drawn = subst (AreDrawn n rows r words) set_is
    (λ part i k in_part row place. drawn part i k in_part row place ∙ drawn_public_ext n (data_of set) s r words part i k same)
