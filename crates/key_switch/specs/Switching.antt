-- What switching a part of a cipher gives.
use Rattle.std.specs.Prelude.{◌≡◌, ℕ, ◌+◌, ◌<◌, ℤ, List, length, slice_index}
use Rattle.set_table.specs.declared.SetName.{SetName}
use Rattle.set_table.specs.Sets.{data_of, degree_of, key_of, log_degree_of}
use Rattle.ring_law.specs.Moduli.{product}
use Rattle.ring_law.specs.Rows.{WordsRepresent}
use Rattle.ring_law.specs.Transform.{transform_entry}
use Rattle.bfv_model.specs.Drawn.{greatest_error}
use Rattle.bfv_model.specs.Holds.{listed_word}
use Rattle.bfv_model.specs.Keys.{StandsForProduct, switched_part}
use Rattle.bfv_model.specs.NoiseBounds.{switch_bound}
use Rattle.bfv_model.specs.SwitchKeys.{key_roots_of}

-- the words of a key's digits, by digit, part, row and place, are the transforms of these polynomials, by part and digit
abbrev pub AreKeyTransforms : SetName → (ℕ → ℕ → ℕ → ℕ → ℕ) → (ℕ → ℕ → ℕ → ℤ) → Type 0
AreKeyTransforms set word key = (i j r k : ℕ) → i < length (data_of set) → j < 2 → r < length (data_of set) + 1 → k < degree_of set
    → word i j r k ≡ transform_entry (slice_index (key_of set) r) (log_degree_of set) (slice_index (key_roots_of set) r) (key j i) k

-- the rows of both parts, one after the other, represent the pair that switching c by a key gives, whose digits are these polynomials
abbrev pub IsSwitchedPair : ℕ → List ℕ → ℕ → (ℕ → ℕ → ℕ → ℤ) → (ℕ → ℤ) → List (List ℕ) → Type 0
IsSwitchedPair n moduli P key c rows = (j : ℕ) → j < 2 → WordsRepresent n moduli (listed_word (length moduli) rows j) (switched_part n moduli P c (key j))

-- The rows of both parts represent a pair that stands for c times the source under s, within the bound of a switch by a key with
-- drawn errors.
pub record PairStandsFor (n : ℕ) (moduli : List ℕ) (P : ℕ) (c source s : ℕ → ℤ) (rows : List (List ℕ)) : Type 0 where
  pub part : ℕ → ℕ → ℤ
  pub represents : (j : ℕ) → j < 2 → WordsRepresent n moduli (listed_word (length moduli) rows j) (part j)
  pub stands : StandsForProduct n (product moduli) (switch_bound n greatest_error P moduli) (part 0) (part 1) c source s
