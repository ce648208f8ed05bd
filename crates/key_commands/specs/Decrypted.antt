-- Values that are read from ciphers.
use Rattle.std.specs.Prelude.{◌≡◌, ℕ, ◌*◌, ◌≤◌, List, length}
use Rattle.set_table.specs.Sets.{degree_of, plain_of, data_of}
use Rattle.ring_law.specs.Moduli.{product}
use Rattle.ring_law.specs.Rows.{natural_polynomial}
use Rattle.file_model.specs.FileText.{FileContent}
use Rattle.bfv_model.specs.Holds.{CipherHolds, stored_word, secret_polynomial}
use Rattle.bfv_model.specs.Slots.{slots_of}
use Rattle.script_text.specs.Values.{printed_values}
use Rattle.command_model.specs.Plan.{IsValuesText}

-- the bytes are the printed values of a cipher under a secret: a text of n values below t, and the slots of whatever plaintext the
-- cipher holds under the secret with noise of at most q/4
pub record IsDecryption (secret cipher : FileContent) (bytes : List ℕ) : Type 0 where
  pub text : IsValuesText cipher.set bytes
  pub right : (m : ℕ → ℕ) (bound : ℕ)
      → CipherHolds (degree_of cipher.set) (data_of cipher.set) (plain_of cipher.set)
      (stored_word (degree_of cipher.set) (length (data_of cipher.set)) cipher.words) (secret_polynomial secret.words) m bound
      → 4 * bound ≤ product (data_of cipher.set) → bytes ≡ printed_values (slots_of cipher.set (natural_polynomial m))
