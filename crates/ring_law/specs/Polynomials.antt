-- The ring of polynomials modulo X^n + 1 (Fan and Vercauteren 2012). A polynomial is the function from the places below n to
-- its coefficients, which are whole numbers; its values at places from n on have no meaning.
use Rattle.std.specs.Prelude.{◌≡◌, ℕ, zero, suc, ◌+◌, ◌*◌, ◌/◌, ◌%◌, ◌<◌, ◌≤◌, max, ℤ, pos, neg_ℤ, ◌+ℤ◌, ◌*ℤ◌, nat_abs, ◌==◌, if◌then◌else◌}
use Rattle.ring_law.specs.Sums.{sum_below}
use Rattle.ring_law.specs.Residues.{Congruent}

-- (-1)^q
unfoldable pub minus_one_to : ℕ → ℤ
minus_one_to zero = pos 1
minus_one_to (suc q) = neg_ℤ (minus_one_to q)

-- coefficient k of X^s modulo X^n + 1: as X^n is -1, it is (-1)^(s / n) at place s % n and 0 at the others
unfoldable pub power_coefficient : ℕ → ℕ → ℕ → ℤ
power_coefficient n s k = if s % n == k then minus_one_to (s / n) else pos 0

-- the sum
abbrev pub ring_sum : (ℕ → ℤ) → (ℕ → ℤ) → ℕ → ℤ
ring_sum a b k = a k +ℤ b k

-- the negative
abbrev pub ring_negative : (ℕ → ℤ) → ℕ → ℤ
ring_negative a k = neg_ℤ (a k)

-- the polynomial that is the number c
abbrev pub ring_constant : ℤ → ℕ → ℤ
ring_constant c k = if k == 0 then c else pos 0

-- the product modulo X^n + 1: coefficient k of the sum over all pairs of a_i * b_j * X^(i + j)
unfoldable pub ring_product : ℕ → (ℕ → ℤ) → (ℕ → ℤ) → ℕ → ℤ
ring_product n a b k = sum_below n (λ i. sum_below n (λ j. (a i *ℤ b j) *ℤ power_coefficient n (i + j) k))

-- the turn a(X^g): coefficient k of the sum of a_i * X^(g * i)
unfoldable pub ring_turn : ℕ → ℕ → (ℕ → ℤ) → ℕ → ℤ
ring_turn n g a k = sum_below n (λ i. a i *ℤ power_coefficient n (g * i) k)

-- the size of a: the greatest absolute value of a coefficient
unfoldable pub ring_size : ℕ → (ℕ → ℤ) → ℕ
ring_size zero a = 0
ring_size (suc n) a = max (ring_size n a) (nat_abs (a n))

-- every coefficient has absolute value at most `bound`
abbrev pub AllWithin : ℕ → ℕ → (ℕ → ℤ) → Type 0
AllWithin n bound a = (k : ℕ) → k < n → nat_abs (a k) ≤ bound

-- a and b are one polynomial
abbrev pub EqualPolynomials : ℕ → (ℕ → ℤ) → (ℕ → ℤ) → Type 0
EqualPolynomials n a b = (k : ℕ) → k < n → a k ≡ b k

-- a and b are congruent modulo m, coefficient by coefficient
pub record CongruentPolynomials (m n : ℕ) (a b : ℕ → ℤ) : Type 0 where
  pub at : (k : ℕ) → k < n → Congruent m (a k) (b k)
