-- Operations on plaintexts, whose coefficients are from 0 to t - 1.
use Rattle.std.specs.Prelude.{ℕ, ◌+◌, ◌*◌, ◌/◌, ℤ, pos, neg_ℤ, ◌+ℤ◌, ◌-ℤ◌, ◌*ℤ◌}
use Rattle.ring_law.specs.Residues.{residue}
use Rattle.ring_law.specs.Polynomials.{ring_product, ring_turn}
use Rattle.ring_law.specs.Rows.{natural_polynomial}

-- the coefficient m scaled up from t to q: the whole number nearest to q*m / t
abbrev pub scaled_plain : ℕ → ℕ → ℕ → ℕ
scaled_plain q t m = (q * m + t / 2) / t

-- sum, difference and negative modulo t, and c times m for a whole number c
abbrev pub plain_sum : ℕ → (ℕ → ℕ) → (ℕ → ℕ) → ℕ → ℕ
plain_sum t m other k = residue t (pos (m k) +ℤ pos (other k))

abbrev pub plain_difference : ℕ → (ℕ → ℕ) → (ℕ → ℕ) → ℕ → ℕ
plain_difference t m other k = residue t (pos (m k) -ℤ pos (other k))

abbrev pub plain_negative : ℕ → (ℕ → ℕ) → ℕ → ℕ
plain_negative t m k = residue t (neg_ℤ (pos (m k)))

abbrev pub plain_multiple : ℕ → ℤ → (ℕ → ℕ) → ℕ → ℕ
plain_multiple t c m k = residue t (c *ℤ pos (m k))

-- the product modulo t
abbrev pub plain_product : ℕ → ℕ → (ℕ → ℕ) → (ℕ → ℕ) → ℕ → ℕ
plain_product n t m other k = residue t (ring_product n (natural_polynomial m) (natural_polynomial other) k)

-- m(X^g) modulo t
abbrev pub plain_turn : ℕ → ℕ → ℕ → (ℕ → ℕ) → ℕ → ℕ
plain_turn n g t m k = residue t (ring_turn n g (natural_polynomial m) k)
