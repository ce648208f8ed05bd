-- Sums and differences as one operation.
use Rattle.std.specs.Prelude.{ℕ, ℤ}
use Rattle.ring_law.specs.Polynomials.{ring_negative}
use Rattle.bfv_linear.specs.declared.signs.Sign.{Sign}
use Rattle.bfv_linear.specs.declared.signs.Sign.TheVariants.{Plus, Minus}

-- a polynomial or its negative
abbrev pub signed : Sign → (ℕ → ℤ) → ℕ → ℤ
signed Plus y = y
signed Minus y = ring_negative y
