-- The transform of a polynomial modulo X^n + 1 and p, where n = 2^k and psi^n is -1 modulo p: its values at the odd powers of psi.
use Rattle.std.specs.Prelude.{◌≡◌, ◌<◌, List, slice_index, ℕ, zero, suc, ◌+◌, ◌*◌, ◌/◌, ◌%◌, ◌^◌, ℤ, pos, ◌*ℤ◌}
use Rattle.ring_law.specs.Sums.{sum_below}
use Rattle.ring_law.specs.Residues.{residue}

-- the number whose k binary digits are those of j in reverse
unfoldable pub bit_reversal : ℕ → ℕ → ℕ
bit_reversal zero j = 0
bit_reversal (suc k) j = (j % 2) * 2 ^ k + bit_reversal k (j / 2)

-- the value of a at x^e, that is the sum of a_i * x^(i * e)
unfoldable pub evaluation : ℕ → ℕ → ℕ → (ℕ → ℤ) → ℤ
evaluation n x e a = sum_below n (λ i. a i *ℤ pos (x ^ (i * e)))

-- entry j of the transform of a: the value at psi to the power 2 * bit_reversal(j) + 1, modulo p
abbrev pub transform_entry : ℕ → ℕ → ℕ → (ℕ → ℤ) → ℕ → ℕ
transform_entry p k psi a j = residue p (evaluation (2 ^ k) psi (2 * bit_reversal k j + 1) a)

-- the row is the transform of a
abbrev pub IsTransform : ℕ → ℕ → ℕ → List ℕ → (ℕ → ℤ) → Type 0
IsTransform p k psi row a = (j : ℕ) → j < 2 ^ k → slice_index row j ≡ transform_entry p k psi a j
