-- What rows represent that are written from two others.
use Rattle.std.proofs.Common.{ℕ, ℤ, List}
use Rattle.ring_law.specs.Rows.{RowRepresents}

-- row `out` represents op x y, for all x and y that rows a and b represent
abbrev pub Combines : ((ℕ → ℤ) → (ℕ → ℤ) → ℕ → ℤ) → ℕ → ℕ → List ℕ → List ℕ → List ℕ → Type 0
Combines op n q a b out = (x y : ℕ → ℤ) → RowRepresents n q a x → RowRepresents n q b y → RowRepresents n q out (op x y)
