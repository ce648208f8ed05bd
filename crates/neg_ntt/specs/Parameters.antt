-- The numbers that a transform is made for.
use Rattle.std.specs.Prelude.{ℕ, ℤ, List, suc, ◌≡◌, ◌+◌, ◌-◌, ◌*◌, ◌%◌, ◌^◌, ◌<◌, ◌≤◌}
use Rattle.word_mod.specs.Moduli.{IsModulus}
use Rattle.ring_law.specs.Transform.{IsTransform, bit_reversal}

-- the modulus q, the root psi, and the logarithm k of the degree n = 2^k
pub record Parameters : Type 0 where
  pub modulus : ℕ
  pub root : ℕ
  pub log_degree : ℕ

-- n is a power of two from 4 to 32768: a multiple of 4 that divides 32768
pub record IsDegree (n : ℕ) : Type 0 where
  pub multiple : n % 4 ≡ 0
  pub divisor : 32768 % n ≡ 0

-- a transform of degree n has these parameters: the n-th power of the root is -1 modulo q
pub record AreParameters (n : ℕ) (t : Parameters) : Type 0 where
  pub modulus : IsModulus t.modulus
  pub root_below : t.root < t.modulus
  pub minus_one : t.root ^ n % t.modulus ≡ t.modulus - 1
  pub power : n ≡ 2 ^ t.log_degree
  pub from_four : 4 ≤ n
  pub to_limit : n ≤ 32768

-- the row is the transform of a with these parameters
abbrev pub IsTransformBy : Parameters → List ℕ → (ℕ → ℤ) → Type 0
IsTransformBy t row a = IsTransform t.modulus t.log_degree t.root row a

-- the inverse of the root: its power 2n - 1
abbrev pub inverse_root : ℕ → Parameters → ℕ
inverse_root n t = t.root ^ (2 * n - 1) % t.modulus

-- half the length of a block where there are 2^s
abbrev pub layer_half : Parameters → ℕ → ℕ
layer_half t s = 2 ^ (t.log_degree - suc s)

-- the factor of block i where there are 2^s, of the root x or of its inverse
abbrev pub layer_root : ℕ → Parameters → ℕ → ℕ → ℕ
layer_root x t s i = x ^ (layer_half t s * (2 * bit_reversal s i + 1)) % t.modulus
