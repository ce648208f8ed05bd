-- The table of parameter sets. Its numbers are this project's own choice.
use Rattle.std.specs.Prelude.{ℕ, List, [], ◌∷◌, ◌++◌, ◌^◌, ◌==◌, take, find, Option, Some, None, codes}
use Rattle.std.specs.Str.{bytes_eq}
use Rattle.set_table.specs.declared.SetName.{SetName}
use Rattle.set_table.specs.declared.SetName.TheVariants.{One16, Toy16, S4096, S8192, S16384}

-- the name of a set in texts, as bytes
abbrev pub name_of : SetName → List ℕ
name_of One16 = codes "one16"
name_of Toy16 = codes "toy16"
name_of S4096 = codes "s4096"
name_of S8192 = codes "s8192"
name_of S16384 = codes "s16384"

-- the number of a set in files
abbrev pub number_of : SetName → ℕ
number_of One16 = 0
number_of Toy16 = 1
number_of S4096 = 2
number_of S8192 = 3
number_of S16384 = 4

-- all sets, in the order of their numbers
abbrev pub sets : List SetName
sets = One16 ∷ Toy16 ∷ S4096 ∷ S8192 ∷ S16384 ∷ []

-- the set of this name, if there is one
unfoldable pub set_named : List ℕ → Option SetName
set_named name = find (λ set. bytes_eq name (name_of set)) sets

-- the set of this number, if there is one
abbrev pub set_numbered : ℕ → Option SetName
set_numbered number = find (λ set. number_of set == number) sets

-- the degree n of the ring of integer polynomials modulo X^n + 1
abbrev pub degree_of : SetName → ℕ
degree_of One16 = 16
degree_of Toy16 = 16
degree_of S4096 = 4096
degree_of S8192 = 8192
degree_of S16384 = 16384

-- the logarithm of the degree, which is a power of two
abbrev pub log_degree_of : SetName → ℕ
log_degree_of One16 = 4
log_degree_of Toy16 = 4
log_degree_of S4096 = 12
log_degree_of S8192 = 13
log_degree_of S16384 = 14

-- the plaintext modulus t
abbrev pub plain_of : SetName → ℕ
plain_of One16 = 257
plain_of Toy16 = 257
plain_of S4096 = 65537
plain_of S8192 = 65537
plain_of S16384 = 65537

-- the data moduli, whose product is the ciphertext modulus q
abbrev pub data_of : SetName → List ℕ
data_of One16 = 0x7fffffffe90001 ∷ []
data_of Toy16 = 0x7fffffd8001 ∷ 0x7fffffc8001 ∷ []
data_of S4096 = 0xffffee001 ∷ 0xffffc4001 ∷ []
data_of S8192 = 0x7fffffd8001 ∷ 0x7fffffc8001 ∷ 0xfffffffc001 ∷ 0xffffff6c001 ∷ []
data_of S16384 =
    0xfffffffd8001 ∷ 0xfffffffa0001 ∷ 0xfffffff00001 ∷ 0x1fffffff68001 ∷ 0x1fffffff50001
    ∷ 0x1ffffffee8001 ∷ 0x1ffffffea0001 ∷ 0x1ffffffe88001 ∷ []

-- the special modulus P of key switching, which the smallest set hasn't
abbrev pub special_of : SetName → Option ℕ
special_of One16 = None
special_of Toy16 = Some 0xfffffebc001
special_of S4096 = Some 0x1ffffe0001
special_of S8192 = Some 0xfffffebc001
special_of S16384 = Some 0x1ffffffe48001

-- the number of moduli of the auxiliary base B
abbrev pub aux_count_of : SetName → ℕ
aux_count_of One16 = 1
aux_count_of Toy16 = 1
aux_count_of S4096 = 1
aux_count_of S8192 = 3
aux_count_of S16384 = 7

-- the moduli of the longest auxiliary base
abbrev pub aux_moduli : List ℕ
aux_moduli =
    0x7fffffffbf0001 ∷ 0x7fffffffbd0001 ∷ 0x7fffffffba0001 ∷ 0x7fffffffaa0001
    ∷ 0x7fffffffa50001 ∷ 0x7fffffff9f0001 ∷ 0x7fffffff7e0001 ∷ []

-- the auxiliary base B of a set
abbrev pub aux_of : SetName → List ℕ
aux_of set = take (aux_count_of set) aux_moduli

-- the modulus beside B from which the way back finds its overflow
-- (Bajard, Eynard, Hasan and Zucca 2016, `m_sk`)
abbrev pub m_sk : ℕ
m_sk = 0x7ffffffef00001

-- the modulus beside t by which decryption rounds (there `γ`)
abbrev pub gamma : ℕ
gamma = 0xfffffffff70001

-- an optional number as a list of none or one
abbrev pub list_of : Option ℕ → List ℕ
list_of None = []
list_of (Some p) = p ∷ []

-- the moduli of switching keys: the data moduli, and then P where there is one
abbrev pub key_of : SetName → List ℕ
key_of set = data_of set ++ list_of (special_of set)

-- the moduli of a set under which rows are transformed: those of keys, the auxiliary base, m_sk and t
abbrev pub transform_moduli_of : SetName → List ℕ
transform_moduli_of set = key_of set ++ aux_of set ++ m_sk ∷ plain_of set ∷ []

-- all moduli of a set
abbrev pub moduli_of : SetName → List ℕ
moduli_of set = transform_moduli_of set ++ gamma ∷ []

-- the power of two that serves as a further modulus of the Montgomery lift (there `m~`)
abbrev pub m_tilde : ℕ
m_tilde = 2 ^ 32
