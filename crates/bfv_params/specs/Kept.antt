-- What the types of the scheme keep.
use Rattle.std.specs.Prelude.{◌≡◌, ◌⊎◌, ℕ, ◌+◌, ◌*◌, ◌%◌, ◌<◌, ◌≤◌, List, length, IsSome, ℤ}
use Rattle.set_table.specs.declared.SetName.{SetName}
use Rattle.set_table.specs.declared.KeyKind.{KeyKind}
use Rattle.set_table.specs.declared.KeyKind.TheVariants.{Relin, Turn}
use Rattle.set_table.specs.Sets.{data_of, key_of, degree_of, special_of}
use Rattle.ring_law.specs.Polynomials.{AllWithin}
use Rattle.ring_law.specs.Rows.{listed_polynomial}
use Rattle.bfv_params.specs.Moduli.{data_at}
use Rattle.bfv_params.specs.Rows.{ReducedInTurn, ZeroFrom}

-- a secret: n coefficients, each -1, 0 or 1
pub record IsSecret (n : ℕ) (set : SetName) (small : List ℤ) : Type 0 where
  pub degree : n ≡ degree_of set
  pub size : length small ≡ n
  pub ternary : AllWithin n 1 (listed_polynomial small)

-- a public key: reduced rows of two parts
pub record IsPublic (n : ℕ) (set : SetName) (rows : List (List ℕ)) : Type 0 where
  pub degree : n ≡ degree_of set
  pub size : length rows ≡ 2 * length (data_of set)
  pub reduced : ReducedInTurn n (length (data_of set)) (data_of set) rows

-- the Galois element of a key of degree n: 0 for relinearisation, else odd, above 1 and below 2n
abbrev pub IsElement : ℕ → KeyKind → ℕ → Type 0
IsElement n Relin element = element ≡ 0
IsElement n Turn element = (element % 2 ≡ 1) × (1 < element) × (element < 2 * n)

-- a switching key: reduced rows of two parts for each digit, under the data moduli and the special modulus
pub record IsSwitchKey (n : ℕ) (set : SetName) (kind : KeyKind) (element : ℕ) (rows : List (List ℕ)) : Type 0 where
  pub degree : n ≡ degree_of set
  pub special : IsSome (special_of set)
  pub element_fits : IsElement n kind element
  pub size : length rows ≡ 2 * length (data_of set) * (length (data_of set) + 1)
  pub reduced : ReducedInTurn n (length (data_of set) + 1) (key_of set) rows

-- a cipher: reduced rows of three parts, the third one being zero where it isn't there
pub record IsCipher (n : ℕ) (set : SetName) (room level parts : ℕ) (rows : List (List ℕ)) : Type 0 where
  pub degree : n ≡ degree_of set
  pub some : 0 < level
  pub fits : level ≤ room
  pub within : room ≤ length (data_of set)
  pub count : (parts ≡ 2) ⊎ (parts ≡ 3)
  pub size : length rows ≡ 3 * level
  pub reduced : ReducedInTurn n level (data_at set level) rows
  pub rest : ZeroFrom n (parts * level) rows
