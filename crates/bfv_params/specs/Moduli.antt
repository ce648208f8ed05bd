-- The moduli of a set at a level: the level is the number of data moduli that are in use, the first of the table.
use Rattle.std.specs.Prelude.{ℕ, List, [], ◌∷◌, ◌++◌, take}
use Rattle.set_table.specs.declared.SetName.{SetName}
use Rattle.set_table.specs.Sets.{data_of, aux_of, special_of, list_of, m_sk}

-- the data moduli, whose product is the ciphertext modulus q
abbrev pub data_at : SetName → ℕ → List ℕ
data_at set level = take level (data_of set)

-- the moduli of switching keys: the data moduli, and then P where the set has one
abbrev pub key_at : SetName → ℕ → List ℕ
key_at set level = data_at set level ++ list_of (special_of set)

-- the auxiliary base B, and then m_sk
abbrev pub wide_of : SetName → List ℕ
wide_of set = aux_of set ++ m_sk ∷ []
