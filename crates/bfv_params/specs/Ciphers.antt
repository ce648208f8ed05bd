-- Ciphers of a context, and what they hold in it.
use Rattle.std.specs.Prelude.{◌≡◌, ℕ, ℤ}
use Rattle.set_table.specs.Sets.{plain_of}
use Rattle.bfv_model.specs.Holds.{CipherHolds, listed_word}
use Rattle.bfv_params.specs.Contexts.{data_in}
use Rattle.bfv_params.specs.Values.{CipherValue, ContextValue}

-- a cipher of the context: it is of its set, and has a row in each part for each of its data moduli
pub record IsCipherOf (ctx : ContextValue) (cipher : CipherValue) : Type 0 where
  pub set : cipher.set ≡ ctx.set
  pub level : cipher.level ≡ ctx.level

-- the cipher holds the plaintext m under the secret s, with noise of at most `bound`, modulo the data moduli of the context
abbrev pub HoldsIn : ℕ → ContextValue → CipherValue → (ℕ → ℤ) → (ℕ → ℕ) → ℕ → Type 0
HoldsIn n ctx cipher s m bound = CipherHolds n (data_in ctx) (plain_of ctx.set) (listed_word ctx.level cipher.rows) s m bound
