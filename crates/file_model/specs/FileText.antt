-- The text of a file, and when bytes are one.
use Rattle.std.specs.Prelude.{◌≡◌, ℕ, ◌+◌, ◌*◌, ◌/◌, ◌%◌, ◌<◌, Bool, true, ◌&&◌, ◌||◌, ◌==◌, nat_lt, nat_le, is_some, List, [], ◌∷◌, ◌++◌, length, replicate, slice_index, IsTrue, codes}
use Rattle.byteorder.specs.Endian.{little_bytes}
use Rattle.sha2.specs.Sha256.{sha256}
use Rattle.set_table.specs.declared.SetName.{SetName}
use Rattle.set_table.specs.declared.KeyKind.TheVariants.{Relin, Turn}
use Rattle.set_table.specs.Sets.{number_of, degree_of, data_of, special_of, key_of}
use Rattle.bound_num.specs.Bound.{bound_value}
use Rattle.file_model.specs.Bytes.{word_bytes}
use Rattle.bfv_model.specs.Limit.{limit}
use Rattle.file_model.specs.declared.file_kind.FileKind.{FileKind}
use Rattle.file_model.specs.declared.file_kind.FileKind.TheVariants.{Secret, PublicKey, SwitchKey, Cipher}

-- What a file says. `element` is that of a turn key, `key_id` that of the secret, and mantissa and exponent state the bound
-- on the noise of a cipher.
pub record FileContent : Type 0 where
  pub kind : FileKind
  pub set : SetName
  pub parts : ℕ
  pub element : ℕ
  pub key_id : List ℕ
  pub mantissa : ℕ
  pub exponent : ℕ
  pub words : List ℕ

-- the bytes that every file begins with
abbrev pub format_name : List ℕ
format_name = codes "BFVRNSF"

-- the version of the form of files
abbrev pub version : ℕ
version = 1

abbrev pub number_of_kind : FileKind → ℕ
number_of_kind Secret = 1
number_of_kind PublicKey = 2
number_of_kind (SwitchKey Relin) = 3
number_of_kind (SwitchKey Turn) = 4
number_of_kind Cipher = 5

-- the 64 bytes before the words
unfoldable pub head_text : FileContent → List ℕ
head_text c =
    format_name ++ (version ∷ number_of_kind c.kind ∷ number_of c.set ∷ c.parts ∷ 0 ∷ []) ++ little_bytes 4 c.element ++ c.key_id
    ++ little_bytes 4 c.mantissa ++ little_bytes 4 c.exponent ++ little_bytes 8 (length c.words) ++ replicate 16 0

-- a text with its digest by SHA-256 (FIPS 180-4) behind it
abbrev pub digested : List ℕ → List ℕ
digested text = text ++ sha256 text

-- the bytes of a file with this content: head, words, digest
unfoldable pub file_text : FileContent → List ℕ
file_text c = digested (head_text c ++ word_bytes c.words)

-- only a set with a special modulus has switching keys
abbrev pub set_fits : FileKind → SetName → Bool
set_fits (SwitchKey kind) set = is_some (special_of set)
set_fits _ set = true

-- a cipher has two or three parts
abbrev pub parts_fit : FileKind → ℕ → Bool
parts_fit Cipher parts = (parts == 2) || (parts == 3)
parts_fit _ parts = parts == 0

-- the Galois element of a turn key is odd, above 1 and below 2n
abbrev pub element_fits : FileKind → SetName → ℕ → Bool
element_fits (SwitchKey Turn) set element = (element % 2 == 1) && (nat_lt 1 element && nat_lt element (2 * degree_of set))
element_fits _ set element = element == 0

-- the bound of a cipher is canonical, and at most the limit of its set
abbrev pub bound_fits : FileKind → SetName → ℕ → ℕ → Bool
bound_fits Cipher set mantissa exponent =
    nat_lt mantissa 0x1_0000_0000 && ((exponent == 0) || nat_le 0x8000_0000 mantissa)
    && nat_le (bound_value mantissa exponent) (limit (data_of set))
bound_fits _ set mantissa exponent = (mantissa == 0) && (exponent == 0)

-- how many data moduli the rows of a file are under: all of its set
abbrev pub level_of : SetName → ℕ
level_of set = length (data_of set)

-- how many rows of n words there are
abbrev pub row_count : FileKind → SetName → ℕ → ℕ
row_count Secret set parts = 1
row_count PublicKey set parts = 2 * level_of set
row_count (SwitchKey kind) set parts = 2 * level_of set * (level_of set + 1)
row_count Cipher set parts = parts * level_of set

-- the moduli of the rows, which come in turn; a coefficient of a secret is 0, 1, or 2 for -1
abbrev pub row_moduli : FileKind → SetName → List ℕ
row_moduli Secret set = 3 ∷ []
row_moduli (SwitchKey kind) set = key_of set
row_moduli _ set = data_of set

-- the modulus of the word at a place
abbrev pub word_modulus : FileKind → SetName → ℕ → ℕ
word_modulus kind set place =
    slice_index (row_moduli kind set) (place / degree_of set % length (row_moduli kind set))

-- each field keeps the rule of its kind, and each word is below its modulus
pub record KeepsRules (c : FileContent) : Type 0 where
  pub set : IsTrue (set_fits c.kind c.set)
  pub parts : IsTrue (parts_fit c.kind c.parts)
  pub element : IsTrue (element_fits c.kind c.set c.element)
  pub key_id : length c.key_id ≡ 16
  pub bound : IsTrue (bound_fits c.kind c.set c.mantissa c.exponent)
  pub count : length c.words ≡ row_count c.kind c.set c.parts * degree_of c.set
  pub reduced : (i : ℕ) → i < length c.words → slice_index c.words i < word_modulus c.kind c.set i

-- the bytes are the text of the content, and that keeps the rules
pub record IsFile (bytes : List ℕ) (content : FileContent) : Type 0 where
  pub text : bytes ≡ file_text content
  pub rules : KeepsRules content
