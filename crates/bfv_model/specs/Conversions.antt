-- What the conversions between bases give, for all coefficients at once (Bajard, Eynard, Hasan and Zucca 2016): q is the
-- product of the data moduli, L their number, n the degree.
use Rattle.std.specs.Prelude.{◌≡◌, ℕ, ◌+◌, ◌*◌, ◌<◌, ◌≤◌, ℤ, pos, ◌+ℤ◌, ◌*ℤ◌, nat_abs}
use Rattle.ring_law.specs.Polynomials.{CongruentPolynomials, AllWithin, ring_sum, ring_product}

-- lifted is a lift of x by Montgomery's correction modulo M: congruent to x modulo q, and little more than half of q in size
pub record IsMontgomeryLift (n q M L : ℕ) (x lifted : ℕ → ℤ) : Type 0 where
  pub congruent : CongruentPolynomials q n lifted x
  pub size : (k : ℕ) → k < n → M * (2 * nat_abs (lifted k)) ≤ q * (M + 2 * L)

-- quotient is t*d / q, up to a rest of at most L times q
pub record IsScaledQuotient (n q t L : ℕ) (d quotient : ℕ → ℤ) : Type 0 where
  pub rest : ℕ → ℤ
  pub equation : (k : ℕ) → k < n → pos t *ℤ d k ≡ pos q *ℤ quotient k +ℤ rest k
  pub small : AllWithin n (L * q) rest

-- c is the product of the ciphers a and b of two parts: their parts are lifted, multiplied as polynomials of whole numbers,
-- and scaled by t/q
pub record IsCipherProduct (n q t M L : ℕ) (a0 a1 b0 b1 c0 c1 c2 : ℕ → ℤ) : Type 0 where
  pub lifted_a0 : ℕ → ℤ
  pub lifted_a1 : ℕ → ℤ
  pub lifted_b0 : ℕ → ℤ
  pub lifted_b1 : ℕ → ℤ
  pub quotient_0 : ℕ → ℤ
  pub quotient_1 : ℕ → ℤ
  pub quotient_2 : ℕ → ℤ
  pub a0_lifts : IsMontgomeryLift n q M L a0 lifted_a0
  pub a1_lifts : IsMontgomeryLift n q M L a1 lifted_a1
  pub b0_lifts : IsMontgomeryLift n q M L b0 lifted_b0
  pub b1_lifts : IsMontgomeryLift n q M L b1 lifted_b1
  pub scaled_0 : IsScaledQuotient n q t L (ring_product n lifted_a0 lifted_b0) quotient_0
  pub scaled_1 : IsScaledQuotient n q t L (ring_sum (ring_product n lifted_a0 lifted_b1) (ring_product n lifted_a1 lifted_b0)) quotient_1
  pub scaled_2 : IsScaledQuotient n q t L (ring_product n lifted_a1 lifted_b1) quotient_2
  pub part_0 : CongruentPolynomials q n c0 quotient_0
  pub part_1 : CongruentPolynomials q n c1 quotient_1
  pub part_2 : CongruentPolynomials q n c2 quotient_2
