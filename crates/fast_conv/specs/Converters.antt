-- The converters between bases, as their callers see them, and what they give (Bajard, Eynard, Hasan and Zucca 2016).
use Rattle.std.specs.Prelude.{◌≡◌, ℕ, ◌<◌, ℤ, pos, ◌-ℤ◌, ◌*ℤ◌, List}
use Rattle.ring_law.specs.Residues.{floor_quotient}
use Rattle.ring_law.specs.Moduli.{IsFastConversion}

-- the moduli of the rows that are read, and of those that are written
pub record Conversion : Type 0 where
  pub from : List ℕ
  pub to : List ℕ

-- a conversion with a factor
pub record ScaledConversion : Type 0 where
  pub from : List ℕ
  pub to : List ℕ
  pub factor : ℕ

-- a conversion from a base and one modulus more
pub record ExactConversion : Type 0 where
  pub base : List ℕ
  pub sk : ℕ
  pub to : List ℕ

-- the moduli that stay, and the one after them that is divided by
pub record ModulusDrop : Type 0 where
  pub kept : List ℕ
  pub dropped : ℕ

-- each coefficient of y is the residue of that of x modulo q and fewer than `count` times q more
abbrev pub AreFastConversions : ℕ → ℕ → ℕ → (ℕ → ℤ) → (ℕ → ℤ) → Type 0
AreFastConversions n q count x y = (k : ℕ) → k < n → IsFastConversion q count (x k) (y k)

-- e is t*d / q rounded down, less an overflow below `count`
pub record IsFastFloor (q t count : ℕ) (d e : ℤ) : Type 0 where
  pub overflow : ℕ
  pub few : overflow < count
  pub equation : e ≡ floor_quotient q (pos t *ℤ d) -ℤ pos overflow

-- so it is for each coefficient
abbrev pub AreFastFloors : ℕ → ℕ → ℕ → ℕ → (ℕ → ℤ) → (ℕ → ℤ) → Type 0
AreFastFloors n q t count d e = (k : ℕ) → k < n → IsFastFloor q t count (d k) (e k)
