-- The contents of the files that are drawn from a stream of random words, each a function of its operands and of the words.
-- The keys and the cipher are those of Fan and Vercauteren 2012, in residues; `words` gives the word at a place.
use Rattle.std.specs.Prelude.{ℕ, ℤ, length, unwrap_or}
use Rattle.ring_law.specs.Sums.{values_below}
use Rattle.ring_law.specs.Moduli.{product}
use Rattle.set_table.specs.declared.SetName.{SetName}
use Rattle.set_table.specs.declared.KeyKind.{KeyKind}
use Rattle.set_table.specs.Sets.{degree_of, log_degree_of, plain_of, data_of, special_of}
use Rattle.file_model.specs.declared.file_kind.FileKind.TheVariants.{Secret, PublicKey, SwitchKey, Cipher}
use Rattle.file_model.specs.FileText.{FileContent}
use Rattle.bfv_model.specs.Holds.{listed_words, stored_word, secret_polynomial}
use Rattle.file_model.specs.KeyWords.{key_words}
use Rattle.bfv_model.specs.Drawn.{drawn_key_id, drawn_secret, drawn_public, drawn_switch, drawn_cipher}
use Rattle.bfv_model.specs.SwitchKeys.{key_roots_of, key_source}

-- a secret of the set, with its id
unfoldable pub drawn_secret_file : SetName → (ℕ → ℕ) → FileContent
drawn_secret_file set words = record {
  kind = Secret;
  set = set;
  parts = 0;
  element = 0;
  key_id = drawn_key_id words;
  mantissa = 0;
  exponent = 0;
  words = values_below (degree_of set) (drawn_secret words);
}

-- a public key of the secret in a file, under the id of that secret
unfoldable pub drawn_public_file : FileContent → (ℕ → ℕ) → FileContent
drawn_public_file secret words = record {
  kind = PublicKey;
  set = secret.set;
  parts = 0;
  element = 0;
  key_id = secret.key_id;
  mantissa = 0;
  exponent = 0;
  words =
      listed_words (degree_of secret.set) (length (data_of secret.set)) 2
      (drawn_public (degree_of secret.set) (data_of secret.set) (secret_polynomial secret.words) words);
}

-- the words of a switching key from `source` to s, by digit, part, row and place; a set has one that has a special modulus
abbrev pub drawn_key : SetName → (ℕ → ℤ) → (ℕ → ℤ) → (ℕ → ℕ) → ℕ → ℕ → ℕ → ℕ → ℕ
drawn_key set source s words = drawn_switch (log_degree_of set) (data_of set) (unwrap_or (special_of set) 0) (key_roots_of set) source s words

-- a switching key of this kind and Galois element to the secret in a file, under the id of that secret
unfoldable pub drawn_switch_file : KeyKind → ℕ → FileContent → (ℕ → ℕ) → FileContent
drawn_switch_file kind element secret words = record {
  kind = SwitchKey kind;
  set = secret.set;
  parts = 0;
  element = element;
  key_id = secret.key_id;
  mantissa = 0;
  exponent = 0;
  words = key_words secret.set
      (drawn_key secret.set (key_source kind (degree_of secret.set) element (secret_polynomial secret.words)) (secret_polynomial secret.words) words);
}

-- a cipher of the plaintext m under the public key in a file, with the noise bound that it states
unfoldable pub drawn_cipher_file : FileContent → (ℕ → ℕ) → ℕ → ℕ → (ℕ → ℕ) → FileContent
drawn_cipher_file public m mantissa exponent words = record {
  kind = Cipher;
  set = public.set;
  parts = 2;
  element = 0;
  key_id = public.key_id;
  mantissa = mantissa;
  exponent = exponent;
  words =
      listed_words (degree_of public.set) (length (data_of public.set)) 2
      (drawn_cipher (degree_of public.set) (data_of public.set) (product (data_of public.set)) (plain_of public.set)
      (stored_word (degree_of public.set) (length (data_of public.set)) public.words) m words);
}
