-- Products of ciphers of a context.
use Rattle.std.specs.Prelude.{ℕ, ◌<◌, ℤ, length}
use Rattle.set_table.specs.Sets.{plain_of, m_tilde}
use Rattle.ring_law.specs.Rows.{WordsRepresent}
use Rattle.bfv_model.specs.Conversions.{IsCipherProduct}
use Rattle.bfv_model.specs.Holds.{listed_word}
use Rattle.bfv_params.specs.Contexts.{data_in, modulus_in}
use Rattle.bfv_params.specs.Values.{CipherValue, ContextValue}

-- the words of c are those of the product of the ciphers a and b of two parts: the polynomials that they represent are lifted,
-- multiplied, scaled by t/q and brought back (Bajard, Eynard, Hasan and Zucca 2016)
pub record IsProductIn (n : ℕ) (ctx : ContextValue) (a b c : CipherValue) : Type 0 where
  pub a_part : ℕ → ℕ → ℤ
  pub b_part : ℕ → ℕ → ℤ
  pub c_part : ℕ → ℕ → ℤ
  pub a_represents : (j : ℕ) → j < 2 → WordsRepresent n (data_in ctx) (listed_word ctx.level a.rows j) (a_part j)
  pub b_represents : (j : ℕ) → j < 2 → WordsRepresent n (data_in ctx) (listed_word ctx.level b.rows j) (b_part j)
  pub c_represents : (j : ℕ) → j < 3 → WordsRepresent n (data_in ctx) (listed_word ctx.level c.rows j) (c_part j)
  pub product : IsCipherProduct n (modulus_in ctx) (plain_of ctx.set) m_tilde (length (data_in ctx)) (a_part 0) (a_part 1) (b_part 0) (b_part 1)
      (c_part 0) (c_part 1) (c_part 2)
