-- The switching keys of a set.
use Rattle.std.specs.Prelude.{◌≡◌, ℕ, ℤ, List, map, Some, unwrap_or}
use Rattle.set_table.specs.declared.SetName.{SetName}
use Rattle.set_table.specs.declared.KeyKind.{KeyKind}
use Rattle.set_table.specs.declared.KeyKind.TheVariants.{Relin, Turn}
use Rattle.set_table.specs.Sets.{data_of, key_of, log_degree_of, special_of}
use Rattle.set_table.specs.Roots.{root_of}
use Rattle.ring_law.specs.Polynomials.{ring_product, ring_turn}
use Rattle.bfv_model.specs.Drawn.{greatest_error}
use Rattle.bfv_model.specs.Keys.{WordsAreSwitchKeyOf}

-- what a switching key switches from: s^2 for relinearisation, and s(X^element) for a turn
abbrev pub key_source : KeyKind → ℕ → ℕ → (ℕ → ℤ) → ℕ → ℤ
key_source Relin n element s = ring_product n s s
key_source Turn n element s = ring_turn n element s

-- the listed roots of the moduli of a set's keys
abbrev pub key_roots_of : SetName → List ℕ
key_roots_of set = map (λ q. unwrap_or (root_of set q) 0) (key_of set)

-- the words, by digit, part, row and place, are those of a switching key of a set, which has a special modulus
pub record IsSwitchKeyIn (set : SetName) (word : ℕ → ℕ → ℕ → ℕ → ℕ) (source s : ℕ → ℤ) : Type 0 where
  pub special : ℕ
  pub is_special : special_of set ≡ Some special
  pub words : WordsAreSwitchKeyOf (log_degree_of set) (data_of set) special (key_roots_of set) greatest_error word source s
