-- Ciphers that are drawn for values, from the words of their rows to the file that is written.
use Rattle.std.proofs.Common.{◌≡◌, ℕ, zero, suc, ◌*◌, ◌<◌, ℤ, pos, ◌+ℤ◌, List, length, slice_index, refl, sym, ◌∙◌, ap, subst, arith}
use Rattle.rand_core.specs.Stream.{Stream}
use Rattle.set_table.specs.declared.SetName.{SetName}
use Rattle.set_table.specs.Sets.{degree_of, plain_of, data_of}
use Rattle.ring_law.specs.Moduli.{product}
use Rattle.ring_law.specs.Residues.{residue}
use Rattle.ring_law.specs.Rows.{IsReduced, row_polynomial}
use Rattle.ring_law.proofs.RingProduct.{ring_product_ext}
use Rattle.file_model.specs.declared.file_kind.FileKind.TheVariants.{Cipher}
use Rattle.bfv_model.specs.Drawn.{drawn_cipher, drawn_error, drawn_ternary, greatest_error, seed_stream, stream_word}
use Rattle.file_model.specs.DrawnFiles.{drawn_cipher_file}
use Rattle.file_model.specs.FileText.{FileContent, file_text}
use Rattle.bfv_model.specs.Holds.{listed_word, listed_words, stored_word}
use Rattle.bfv_model.specs.NoiseBounds.{fresh_bound}
use Rattle.bfv_model.specs.Plaintexts.{scaled_plain}
use Rattle.bfv_model.specs.Slots.{slots_of}
use Rattle.bfv_model.proofs.Sets.{degree_pos, data_count_pos}
use Rattle.bound_num.specs.declared.Bound.{Bound}
use Rattle.bound_num.specs.Bound.{IsUp}
use Rattle.cipher_files.specs.Contents.{part_words}
use Rattle.file_model.specs.Heads.{IsHeadOf, content_with}
use Rattle.file_model.specs.declared.head.Head.{Head}
use Rattle.cipher_files.proofs.ListedWords.{listed_words_ext}
use Rattle.command_model.specs.Plan.{IsFreshCipher, seed_word}
use Rattle.key_commands.specs.Encrypted.{IsSealing}
use Rattle.command_stages.specs.Operands.{AreValues}

-- ---- the cipher of values
-- values of a set are reduced modulo its plaintext modulus
pub values_reduced : (set : SetName) (n : ℕ) (listed row : List ℕ) → n ≡ degree_of set → AreValues set listed → row ≡ listed → IsReduced n (plain_of set) row
values_reduced set n listed row degree values same k below =
    subst (λ (l : List ℕ). slice_index l k < plain_of set) (sym same) (values.below k (subst (λ (d : ℕ). k < d) degree below))

-- what is drawn for the plaintext of the values seals them
pub sealing_of : (set : SetName) (n : ℕ) (key word : ℕ → ℕ → ℕ → ℕ) (listed row plain seed : List ℕ) (stream : Stream) → n ≡ degree_of set → stream ≡ seed_stream seed
    → row ≡ listed → slots_of set (row_polynomial plain) ≡ row → IsReduced n (plain_of set) plain
    → ((part i k : ℕ) → part < 3 → i < length (data_of set) → k < n
    → word part i k ≡ drawn_cipher n (data_of set) (product (data_of set)) (plain_of set) key (slice_index plain) (stream_word stream) part i k)
    → IsSealing set key listed (seed_word seed) word
sealing_of set n key word listed row plain seed stream degree stream_is same slots reduced drawn = record {
  plaintext = slice_index plain;
  below = λ k below. reduced k (within k below);
  slots = slots ∙ same;
  drawn = λ part i k few inside below.
      drawn part i k (omega arith) inside (within k below)
      ∙ ap (λ (d : ℕ). drawn_cipher d (data_of set) (product (data_of set)) (plain_of set) key (slice_index plain) (stream_word stream) part i k) degree
      ∙ ap (λ (s : Stream). drawn_cipher (degree_of set) (data_of set) (product (data_of set)) (plain_of set) key (slice_index plain) (stream_word s) part i k) stream_is;
}
  where
    within : (k : ℕ) → k < degree_of set → k < n
    within k = subst (λ (d : ℕ). k < d) (sym degree)

-- keys with equal words draw equal ciphers
drawn_cipher_equal_keys : (n : ℕ) (moduli : List ℕ) (q t : ℕ) (key other : ℕ → ℕ → ℕ → ℕ) (m words : ℕ → ℕ) (part i k : ℕ) → part < 2
    → ((j z : ℕ) → j < 2 → z < n → key j i z ≡ other j i z)
    → drawn_cipher n moduli q t key m words part i k ≡ drawn_cipher n moduli q t other m words part i k
drawn_cipher_equal_keys n moduli q t key other m words zero i k few same =
    ap (λ (z : ℤ). residue (slice_index moduli i) (z +ℤ drawn_error words n k +ℤ pos (scaled_plain q t (m k))))
    (ring_product_ext n (λ z. pos (key 0 i z)) (λ z. pos (other 0 i z)) (drawn_ternary words) (drawn_ternary words)
    (λ z below. ap pos (same 0 z (omega arith) below)) (λ _ _. refl) k)
drawn_cipher_equal_keys n moduli q t key other m words (suc zero) i k few same =
    ap (λ (z : ℤ). residue (slice_index moduli i) (z +ℤ drawn_error words (2 * n) k))
    (ring_product_ext n (λ z. pos (key 1 i z)) (λ z. pos (other 1 i z)) (drawn_ternary words) (drawn_ternary words)
    (λ z below. ap pos (same 1 z (omega arith) below)) (λ _ _. refl) k)
drawn_cipher_equal_keys n moduli q t key other m words (suc (suc part)) i k few same = absurd (omega arith)

-- a cipher is sealed as well under each key with the same words
pub sealing_under : (set : SetName) (n : ℕ) (key other : ℕ → ℕ → ℕ → ℕ) (listed : List ℕ) (words : ℕ → ℕ) (word : ℕ → ℕ → ℕ → ℕ) → n ≡ degree_of set
    → ((j i k : ℕ) → j < 2 → i < length (data_of set) → k < n → key j i k ≡ other j i k)
    → IsSealing set key listed words word → IsSealing set other listed words word
sealing_under set n key other listed words word degree same sealing = record {
  plaintext = sealing.plaintext;
  below = sealing.below;
  slots = sealing.slots;
  drawn = λ part i k few inside below.
      sealing.drawn part i k few inside below
      ∙ drawn_cipher_equal_keys (degree_of set) (data_of set) (product (data_of set)) (plain_of set) key other sealing.plaintext words part i k few
      (λ j z half place. same j i z half inside (subst (λ (d : ℕ). z < d) (sym degree) place));
}

-- ---- its file
-- the head of a cipher under the public key with this head
abbrev pub cipher_head : Head → Bound → ℕ → Head
cipher_head public bound words = record {
  kind = Cipher;
  set = public.set;
  parts = 2;
  element = 0;
  id = public.id;
  bound = bound;
  words = words;
}

-- the text of a cipher that seals values is that of a fresh one
pub fresh_text : (public : Head) (content : FileContent) (n : ℕ) (bound : Bound) (count : ℕ) (rows : List (List ℕ)) (listed seed : List ℕ) → n ≡ degree_of public.set
    → IsHeadOf public content → IsUp (fresh_bound (degree_of public.set) (plain_of public.set) greatest_error) bound.m bound.e
    → IsSealing public.set (stored_word (degree_of public.set) (length (data_of public.set)) content.words) listed (seed_word seed)
    (listed_word (length (data_of public.set)) rows)
    → IsFreshCipher content listed seed (file_text (content_with (cipher_head public bound count) (part_words n public.set 2 rows)))
unfolding drawn_cipher_file
fresh_text public content n bound count rows listed seed degree head rounded sealing =
    subst (λ (c : FileContent). IsFreshCipher c listed seed (file_text (content_with (cipher_head public bound count) (part_words n public.set 2 rows))))
    (sym head.states) stated
  where
    word : ℕ → ℕ → ℕ → ℕ
    word = listed_word (length (data_of public.set)) rows

    drawn : ℕ → ℕ → ℕ → ℕ
    drawn = drawn_cipher (degree_of public.set) (data_of public.set) (product (data_of public.set)) (plain_of public.set)
        (stored_word (degree_of public.set) (length (data_of public.set)) content.words) sealing.plaintext (seed_word seed)

    same : part_words n public.set 2 rows ≡ listed_words (degree_of public.set) (length (data_of public.set)) 2 drawn
    same = ap (λ (d : ℕ). listed_words d (length (data_of public.set)) 2 word) degree
        ∙ listed_words_ext (degree_of public.set) (length (data_of public.set)) 2 word drawn (degree_pos public.set) (data_count_pos public.set) sealing.drawn

    stated : IsFreshCipher (content_with public content.words) listed seed (file_text (content_with (cipher_head public bound count) (part_words n public.set 2 rows)))
    stated = record {
      plaintext = sealing.plaintext;
      below = sealing.below;
      slots = sealing.slots;
      mantissa = bound.m;
      exponent = bound.e;
      bound = rounded;
      text = ap (λ (words : List ℕ). file_text (content_with (cipher_head public bound count) words)) same;
    }
