-- Rounded noise bounds: the whole numbers m * 2 ^ e whose mantissa m has 32 binary digits, and
-- Up and Down, which round to them. The form is this project's own.
use Rattle.std.specs.Prelude.{◌≡◌, ℕ, zero, suc, ◌-◌, ◌*◌, ◌/◌, ◌^◌, ◌<◌, ◌≤◌, ◌⊎◌}
use Rattle.std.specs.Int.{div_ceil}

-- the number that the mantissa m and the exponent e stand for
unfoldable pub bound_value : ℕ → ℕ → ℕ
bound_value m e = m * 2 ^ e

-- the mantissa is a word of 32 bits, whose highest bit is set wherever the exponent isn't 0
pub record IsCanonical (m e : ℕ) : Type 0 where
  pub word : m < 2 ^ 32
  pub full : (e ≡ 0) ⊎ (2 ^ 31 ≤ m)

-- (m, e) is the least canonical bound that is at least x
pub record IsUp (x m e : ℕ) : Type 0 where
  pub canonical : IsCanonical m e
  pub above : x ≤ bound_value m e
  pub least : (n f : ℕ) → IsCanonical n f → x ≤ bound_value n f → bound_value m e ≤ bound_value n f

-- (m, e) is the greatest canonical bound that is at most x
pub record IsDown (x m e : ℕ) : Type 0 where
  pub canonical : IsCanonical m e
  pub below : bound_value m e ≤ x
  pub greatest : (n f : ℕ) → IsCanonical n f → bound_value n f ≤ x → bound_value n f ≤ bound_value m e

-- how many binary digits x has, if it has no more than the first number
unfoldable pub digits_within : ℕ → ℕ → ℕ
digits_within zero x = 0
digits_within (suc most) zero = 0
digits_within (suc most) (suc x) = suc (digits_within most (suc x / 2))

-- how many binary digits x has: the least k with x < 2 ^ k
unfoldable pub bit_length : ℕ → ℕ
bit_length x = digits_within x x

-- the distance of the canonical bounds just below x: the place value of the last of the 32 leading
-- binary digits of x
unfoldable pub spacing : ℕ → ℕ
spacing x = 2 ^ (bit_length x - 32)

-- the number that Up of x stands for
unfoldable pub up : ℕ → ℕ
up x = div_ceil x (spacing x) * spacing x

-- the number that Down of x stands for
unfoldable pub down : ℕ → ℕ
down x = x / spacing x * spacing x
