-- The polynomials that the parts of a cipher represent, and those of a result.
use Rattle.std.specs.Prelude.{ℕ, zero, suc, ◌<◌, ℤ, pos}
use Rattle.set_table.specs.Sets.{plain_of}
use Rattle.ring_law.specs.Rows.{WordsRepresent}
use Rattle.bfv_model.specs.Holds.{listed_word}
use Rattle.bfv_model.specs.Plaintexts.{scaled_plain}
use Rattle.bfv_params.specs.Contexts.{data_in, modulus_in}
use Rattle.bfv_params.specs.Values.{CipherValue, ContextValue}

-- the words of part j are the residues of x_j modulo the data moduli; a third part that isn't there represents 0
abbrev pub PartsRepresent : ℕ → ContextValue → CipherValue → (ℕ → ℕ → ℤ) → Type 0
PartsRepresent n ctx cipher x = (j : ℕ) → j < 3 → WordsRepresent n (data_in ctx) (listed_word ctx.level cipher.rows j) (x j)

-- the scaled plaintext: for each coefficient m the whole number nearest to q*m / t
abbrev pub scaled_polynomial : ContextValue → (ℕ → ℕ) → ℕ → ℤ
scaled_polynomial ctx plain k = pos (scaled_plain (modulus_in ctx) (plain_of ctx.set) (plain k))

-- what an operation on part 0 alone makes of part j
abbrev pub at_first_part : ((ℕ → ℤ) → ℕ → ℤ) → ℕ → (ℕ → ℤ) → ℕ → ℤ
at_first_part op zero = op
at_first_part op (suc j) = λ x. x
