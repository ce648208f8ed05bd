-- The contents of drawn files: they keep the rules of a file, the public key is one of its secret, and the cipher holds its
-- plaintext.
use Rattle.std.proofs.Common.{All, [], ap, arith, inl, inr, length, lit<, mod-lt, refl, slice_index, subst, sym, ℕ, ℤ, ◌*◌, ◌+◌, ◌/◌, ◌<◌, ◌^◌, ◌∷◌, ◌≡◌, ◌≤◌, ◌⊎◌}
use Rattle.std.specs.Prelude.{◌==◌, ◌||◌, IsTrue, nat_le, true}
use Rattle.std.proofs.Math.Nat.{mod-one}
use Rattle.std.proofs.lemmas.Bool.{and_from, eq-eqb, le-leb, lt-ltb}
use Rattle.std.proofs.lemmas.List.Elements.{All-from_get_or}
use Rattle.set_table.specs.declared.SetName.{SetName}
use Rattle.set_table.specs.Sets.{data_of, degree_of, plain_of}
use Rattle.ring_law.specs.Moduli.{product}
use Rattle.ring_law.specs.Polynomials.{AllWithin}
use Rattle.ring_law.proofs.Values.{get_or-values_below, length-values_below}
use Rattle.bound_num.specs.Bound.{IsCanonical, bound_value}
use Rattle.file_model.specs.declared.file_kind.FileKind.TheVariants.{Cipher}
use Rattle.bfv_model.specs.Drawn.{drawn_cipher, drawn_public, drawn_secret, greatest_error}
use Rattle.file_model.specs.DrawnFiles.{drawn_cipher_file, drawn_public_file, drawn_secret_file}
use Rattle.file_model.specs.FileText.{FileContent, KeepsRules, bound_fits}
use Rattle.bfv_model.specs.Holds.{CipherHolds, listed_words, secret_polynomial, stored_word}
use Rattle.bfv_model.specs.Keys.{WordsArePublicKeyOf}
use Rattle.bfv_model.specs.Limit.{limit}
use Rattle.bfv_model.specs.NoiseBounds.{fresh_bound}
use Rattle.bfv_model.proofs.Ciphers.{stored_word-listed_words}
use Rattle.bfv_model.proofs.DrawnKeys.{drawn_cipher-CipherHolds}
use Rattle.bfv_model.proofs.KeyRows.{drawn_public-WordsArePublicKeyOf}
use Rattle.bfv_model.proofs.Sets.{degree_pos, data_count_pos}
use Rattle.bfv_model.proofs.Sets.{plain_pos, PairwiseInvertible-data_of, AllAboveOne-data_of}
use Rattle.bfv_model.proofs.ListedWords.{listed_words_reduced, WordsArePublicKeyOf-equal_words, CipherHolds-equal_words, CipherHolds-within}
use Rattle.bfv_model.proofs.DrawnWords.{drawn_public_reduced, drawn_cipher_reduced, stored_drawn_cipher}

-- ---- a noise bound in a file
-- a canonical bound whose value is at most the limit fits
pub bound_fits-from_canonical : (set : SetName) (mantissa exponent : ℕ) → IsCanonical mantissa exponent
    → bound_value mantissa exponent ≤ limit (data_of set) → IsTrue (bound_fits Cipher set mantissa exponent)
bound_fits-from_canonical set mantissa exponent canonical within =
    and_from _ _ (and_from _ _ (lt-ltb mantissa 0x1_0000_0000 canonical.word) (full mantissa exponent canonical.full))
    (le-leb (bound_value mantissa exponent) (limit (data_of set)) within)
  where
    full : (m e : ℕ) → (e ≡ 0) ⊎ (2 ^ 31 ≤ m) → ((e == 0) || nat_le 0x8000_0000 m) ≡ true
    full m e (inl none) = ap (λ b. b || nat_le 0x8000_0000 m) (eq-eqb e 0 none)
    full m e (inr large) = grind (arith, le-leb 0x8000_0000 m large)

-- ---- the secret
-- there are as many words as coefficients
pub drawn_secret_file-count : (set : SetName) (words : ℕ → ℕ) → length (drawn_secret_file set words).words ≡ degree_of set
unfolding drawn_secret_file
drawn_secret_file-count set words = length-values_below (degree_of set) (drawn_secret words)

drawn_secret_word_lt : (set : SetName) (words : ℕ → ℕ) (k : ℕ) → k < length (drawn_secret_file set words).words
    → slice_index (drawn_secret_file set words).words k < 3
unfolding drawn_secret_file
drawn_secret_word_lt set words k within =
    subst (λ word. word < 3)
    (sym (get_or-values_below (degree_of set) (drawn_secret words) k 0 (subst (λ c. k < c) (drawn_secret_file-count set words) within)))
    (mod-lt (words (2 + k)) (lit< tt))

-- and each is 0, 1 or 2
pub drawn_secret_file-below : (set : SetName) (words : ℕ → ℕ) → All (λ word. word < 3) (drawn_secret_file set words).words
drawn_secret_file-below set words =
    All-from_get_or (λ word. word < 3) (drawn_secret_file set words).words 0 (drawn_secret_word_lt set words)

pub drawn_secret_file-KeepsRules : (set : SetName) (words : ℕ → ℕ) → KeepsRules (drawn_secret_file set words)
unfolding drawn_secret_file
drawn_secret_file-KeepsRules set words = record {
  set = refl;
  parts = refl;
  element = refl;
  key_id = refl;
  bound = refl;
  count = let count = drawn_secret_file-count set words in omega arith;
  reduced = λ k within. subst (λ i. slice_index (drawn_secret_file set words).words k < slice_index (3 ∷ []) i)
      (sym (mod-one (k / degree_of set))) (drawn_secret_word_lt set words k within);
}

-- ---- the public key
pub drawn_public_file-KeepsRules : (secret : FileContent) (words : ℕ → ℕ) → length secret.key_id ≡ 16
    → KeepsRules (drawn_public_file secret words)
unfolding drawn_public_file
drawn_public_file-KeepsRules secret words id = record {
  set = refl;
  parts = refl;
  element = refl;
  key_id = id;
  bound = refl;
  count = length-values_below (2 * length (data_of secret.set) * degree_of secret.set) _;
  reduced = listed_words_reduced (degree_of secret.set) 2 (data_of secret.set)
      (drawn_public (degree_of secret.set) (data_of secret.set) (secret_polynomial secret.words) words) (data_count_pos secret.set)
      (drawn_public_reduced (degree_of secret.set) secret.set (secret_polynomial secret.words) words);
}

-- it is one of the secret that it was drawn for
pub drawn_public_file-IsPublicKey : (secret : FileContent) (words : ℕ → ℕ)
    → WordsArePublicKeyOf (degree_of secret.set) (data_of secret.set) greatest_error
    (stored_word (degree_of secret.set) (length (data_of secret.set)) (drawn_public_file secret words).words)
    (secret_polynomial secret.words)
unfolding drawn_public_file
drawn_public_file-IsPublicKey secret words =
    let n = degree_of secret.set in
    let moduli = data_of secret.set in
    let s = secret_polynomial secret.words in
    WordsArePublicKeyOf-equal_words n moduli greatest_error
    (stored_word n (length moduli) (listed_words n (length moduli) 2 (drawn_public n moduli s words))) (drawn_public n moduli s words) s
    (stored_word-listed_words n (length moduli) 2 (drawn_public n moduli s words))
    (drawn_public-WordsArePublicKeyOf n moduli s words (PairwiseInvertible-data_of secret.set) (AllAboveOne-data_of secret.set))

-- ---- the cipher
pub drawn_cipher_file-KeepsRules : (public : FileContent) (m : ℕ → ℕ) (mantissa exponent : ℕ) (words : ℕ → ℕ)
    → length public.key_id ≡ 16 → IsTrue (bound_fits Cipher public.set mantissa exponent)
    → KeepsRules (drawn_cipher_file public m mantissa exponent words)
unfolding drawn_cipher_file
drawn_cipher_file-KeepsRules public m mantissa exponent words id fits =
    let n = degree_of public.set in
    let moduli = data_of public.set in
    let key = stored_word n (length moduli) public.words in
    record {
      set = refl;
      parts = refl;
      element = refl;
      key_id = id;
      bound = fits;
      count = length-values_below (2 * length moduli * n) _;
      reduced = listed_words_reduced n 2 moduli (drawn_cipher n moduli (product moduli) (plain_of public.set) key m words)
          (data_count_pos public.set) (drawn_cipher_reduced n public.set (product moduli) (plain_of public.set) key m words);
    }

-- under a public key of s it holds its plaintext, within each bound that is at least the fresh one
pub drawn_cipher_file-CipherHolds : (public : FileContent) (m : ℕ → ℕ) (mantissa exponent : ℕ) (words : ℕ → ℕ) (s : ℕ → ℤ)
    → WordsArePublicKeyOf (degree_of public.set) (data_of public.set) greatest_error
    (stored_word (degree_of public.set) (length (data_of public.set)) public.words) s
    → AllWithin (degree_of public.set) 1 s → ((k : ℕ) → k < degree_of public.set → m k < plain_of public.set)
    → fresh_bound (degree_of public.set) (plain_of public.set) greatest_error ≤ bound_value mantissa exponent
    → CipherHolds (degree_of public.set) (data_of public.set) (plain_of public.set)
    (stored_word (degree_of public.set) (length (data_of public.set)) (drawn_cipher_file public m mantissa exponent words).words) s m
    (bound_value mantissa exponent)
unfolding drawn_cipher_file
drawn_cipher_file-CipherHolds public m mantissa exponent words s is_key ternary plain above =
    let n = degree_of public.set in
    let moduli = data_of public.set in
    let t = plain_of public.set in
    let key = stored_word n (length moduli) public.words in
    let cipher = drawn_cipher n moduli (product moduli) t key m words in
    CipherHolds-within (fresh_bound n t greatest_error) (bound_value mantissa exponent) above
    (CipherHolds-equal_words n moduli t (stored_word n (length moduli) (listed_words n (length moduli) 2 cipher)) cipher s m
    (fresh_bound n t greatest_error) (stored_drawn_cipher n moduli (product moduli) t key m words)
    (drawn_cipher-CipherHolds n t moduli key (is_key.part 0) (is_key.part 1) s m words (degree_pos public.set) (plain_pos public.set)
    (PairwiseInvertible-data_of public.set) (AllAboveOne-data_of public.set) (is_key.represents 0 (lit< tt))
    (is_key.represents 1 (lit< tt)) is_key.relation ternary plain))
