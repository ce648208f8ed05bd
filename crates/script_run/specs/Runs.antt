-- What the ciphers of a run carry.
use Rattle.std.specs.Prelude.{◌≡◌, ℕ, ◌<◌, ℤ, List, [], length, slice_index, slice_index_or}
use Rattle.ring_law.specs.Rows.{natural_polynomial}
use Rattle.bfv_model.specs.Slots.{slots_of}
use Rattle.script_text.specs.Scripts.{Script, plain_inputs, is_cipher, is_plain}
use Rattle.script_text.specs.Value.{lists_of}
use Rattle.bfv_params.specs.Values.{CipherValue, ContextValue}
use Rattle.bfv_params.specs.Ciphers.{HoldsIn}
use Rattle.script_run.specs.Registers.{input_count}
use Rattle.script_run.specs.Places.{cipher_at}

-- the cipher carries these values: under the secret s it holds, with noise of at most `bound`, the plaintext that has them in its slots
pub record Carries (n : ℕ) (ctx : ContextValue) (s : ℕ → ℤ) (cipher : CipherValue) (values : List ℕ) (bound : ℕ) : Type 0 where
  pub plaintext : ℕ → ℕ
  pub slots : slots_of ctx.set (natural_polynomial plaintext) ≡ values
  pub holds : HoldsIn n ctx cipher s plaintext bound

-- The inputs of a script, of which each has a list in order of declaration: the ciphers in the places of the cipher inputs carry theirs
-- within these bounds, and those of the plain inputs are the plain values.
pub record InputsCarry (n : ℕ) (ctx : ContextValue) (s : ℕ → ℤ) (script : Script) (plan : List ℕ) (places : List CipherValue)
    (plains lists : List (List ℕ)) (bounds : List ℕ) : Type 0 where
  pub listed : length lists ≡ length script.inputs
  pub bounded : length bounds ≡ input_count script
  pub ciphers : (r : ℕ) → r < input_count script
      → Carries n ctx s (cipher_at places (slice_index plan r)) (slice_index_or (lists_of is_cipher script.inputs lists) r []) (slice_index bounds r)
  pub values : (p : ℕ) → p < length (plain_inputs script.inputs)
      → slice_index_or plains p [] ≡ slice_index_or (lists_of is_plain script.inputs lists) p []
