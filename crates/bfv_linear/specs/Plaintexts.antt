-- Plaintexts as linear operations take them.
use Rattle.std.specs.Prelude.{ℕ, ℤ, pos}
use Rattle.ring_law.specs.Residues.{centred_residue}

-- the plaintext with its coefficients from 0 to t - 1 taken from -(t / 2) to t / 2
abbrev pub centred_plain : ℕ → (ℕ → ℕ) → ℕ → ℤ
centred_plain t m k = centred_residue t (pos (m k))
