-- What contracts see of the scheme's values. Each carries its set.
use Rattle.std.specs.Prelude.{ℕ, ◌+◌, ◌*◌, List, length, replicate, ℤ, pos}
use Rattle.set_table.specs.declared.SetName.{SetName}
use Rattle.set_table.specs.declared.KeyKind.{KeyKind}
use Rattle.set_table.specs.Sets.{data_of}

-- a context: its set, and the number of its data moduli
pub record ContextValue : Type 0 where
  pub set : SetName
  pub level : ℕ

-- a secret: its coefficients
pub record SecretValue : Type 0 where
  pub set : SetName
  pub small : List ℤ

-- a public key: the rows of its two parts
pub record PublicValue : Type 0 where
  pub set : SetName
  pub rows : List (List ℕ)

-- a switching key: what it is for, and for each digit the rows of its two parts
pub record SwitchKeyValue : Type 0 where
  pub set : SetName
  pub kind : KeyKind
  pub element : ℕ
  pub rows : List (List ℕ)

-- a cipher: the most data moduli that it has room for, the number of its data moduli, the number of its parts, and the rows of
-- three parts, a third one that isn't there being zero
pub record CipherValue : Type 0 where
  pub set : SetName
  pub room : ℕ
  pub level : ℕ
  pub parts : ℕ
  pub rows : List (List ℕ)

-- rows of zeros
abbrev pub zero_rows : ℕ → ℕ → List (List ℕ)
zero_rows n count = replicate count (replicate n 0)

abbrev pub zero_secret : ℕ → SetName → SecretValue
zero_secret n set = record { set = set; small = replicate n (pos 0) }

abbrev pub zero_public : ℕ → SetName → PublicValue
zero_public n set = record { set = set; rows = zero_rows n (2 * length (data_of set)) }

abbrev pub zero_switch_key : ℕ → SetName → KeyKind → ℕ → SwitchKeyValue
zero_switch_key n set kind element = record {
  set = set;
  kind = kind;
  element = element;
  rows = zero_rows n (2 * length (data_of set) * (length (data_of set) + 1));
}

-- the cipher of two zero parts
abbrev pub zero_cipher : ℕ → SetName → ℕ → CipherValue
zero_cipher n set level = record { set = set; room = level; level = level; parts = 2; rows = zero_rows n (3 * level) }
