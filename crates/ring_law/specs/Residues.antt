-- Whole numbers modulo m. `negsuc a` is the number -1 - a.
use Rattle.std.specs.Prelude.{◌≡◌, ℕ, ◌-◌, ◌*◌, ◌/◌, ◌%◌, ℤ, pos, negsuc, ◌+ℤ◌, ◌-ℤ◌, ◌*ℤ◌, nat_le, if◌then◌else◌}

-- a and b are congruent modulo m: they differ by a multiple of m
pub record Congruent (m : ℕ) (a b : ℤ) : Type 0 where
  pub quotient : ℤ
  pub equation : a ≡ b +ℤ quotient *ℤ pos m

-- the residue of x modulo m, from 0 to m - 1
abbrev pub residue : ℕ → ℤ → ℕ
residue m (pos a) = a % m
residue m (negsuc a) = m - 1 - a % m

-- of r and r - m the one nearer to 0, and r where both are equally near
abbrev pub nearest_to_zero : ℕ → ℕ → ℤ
nearest_to_zero m r = if nat_le (2 * r) m then pos r else (pos r -ℤ pos m)

-- the residue of x modulo m of least absolute value; of two such the positive one
unfoldable pub centred_residue : ℕ → ℤ → ℤ
centred_residue m x = nearest_to_zero m (residue m x)

-- the greatest whole number that is at most x / m
abbrev pub floor_quotient : ℕ → ℤ → ℤ
floor_quotient m (pos a) = pos (a / m)
floor_quotient m (negsuc a) = negsuc (a / m)

-- r has an inverse modulo m
pub record HasInverse (m r : ℕ) : Type 0 where
  pub inverse : ℤ
  pub is_one : Congruent m (inverse *ℤ pos r) (pos 1)
