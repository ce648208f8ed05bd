-- Ciphers that are drawn for values.
use Rattle.std.specs.Prelude.{◌≡◌, ℕ, ◌<◌, List, length}
use Rattle.set_table.specs.declared.SetName.{SetName}
use Rattle.set_table.specs.Sets.{degree_of, plain_of, data_of}
use Rattle.ring_law.specs.Moduli.{product}
use Rattle.ring_law.specs.Rows.{natural_polynomial}
use Rattle.bfv_model.specs.Drawn.{drawn_cipher}
use Rattle.bfv_model.specs.Slots.{slots_of}

-- The cipher with these words is drawn under the public key with those, from a stream of random words, for the plaintext that has
-- the values as its slots. The words are given by part, row and place.
pub record IsSealing (set : SetName) (key : ℕ → ℕ → ℕ → ℕ) (listed : List ℕ) (words : ℕ → ℕ) (word : ℕ → ℕ → ℕ → ℕ) : Type 0 where
  pub plaintext : ℕ → ℕ
  pub below : (k : ℕ) → k < degree_of set → plaintext k < plain_of set
  pub slots : slots_of set (natural_polynomial plaintext) ≡ listed
  pub drawn : (part i k : ℕ) → part < 2 → i < length (data_of set) → k < degree_of set
      → word part i k ≡ drawn_cipher (degree_of set) (data_of set) (product (data_of set)) (plain_of set) key plaintext words part i k
