-- The size of a polynomial, and the bounds on the sizes of sums, products and turns.
use Rattle.std.proofs.Common.{◌≡◌, ℕ, zero, suc, ◌+◌, ◌*◌, ◌^◌, ◌<◌, ◌≤◌, max, arith, ℤ, ◌+ℤ◌, nat_abs, le_trans, le_antisymm, pow_pos, ◌⊎◌, inl, inr, ⊎_elim, subst, sym}
use Rattle.std.proofs.Math.Nat.{le-max_left, le-max_right, max-le}
use Rattle.std.proofs.lemmas.Bool.{cases_lt}
use Rattle.std.proofs.lemmas.Int.{ints}
use Rattle.ring_law.specs.Polynomials.{AllWithin, ring_product, ring_size, ring_sum, ring_turn}
use Rattle.ring_law.proofs.Inverses.{HasInverse-odd}
use Rattle.ring_law.proofs.ProductPairs.{ring_product_size}
use Rattle.ring_law.proofs.RingTurn.{ring_turn_within, ring_turn_within_back}

-- no coefficient is above the size
pub AllWithin-ring_size : (n : ℕ) (a : ℕ → ℤ) → AllWithin n (ring_size n a) a
unfolding ring_size
AllWithin-ring_size zero a = λ k l. absurd (omega arith)
AllWithin-ring_size (suc n) a = λ k l. by k (λ h. AllWithin-ring_size n a k h) (below k l)
  where
    below : (k : ℕ) → k < suc n → (k < n) ⊎ (k ≡ n)
    below k l = ⊎_elim (λ (h : k < n). inl h) (λ (h : n ≤ k). inr (omega arith)) (cases_lt k n)

    by : (k : ℕ) → (k < n → nat_abs (a k) ≤ ring_size n a) → (k < n) ⊎ (k ≡ n) → nat_abs (a k) ≤ max (ring_size n a) (nat_abs (a n))
    by k earlier (inl h) = le_trans (earlier h) (le-max_left (ring_size n a) (nat_abs (a n)))
    by k earlier (inr e) = subst (λ j. nat_abs (a j) ≤ max (ring_size n a) (nat_abs (a n))) (sym e) (le-max_right (ring_size n a) (nat_abs (a n)))

-- and the size is the least such bound
pub ring_size_le : (n bound : ℕ) (a : ℕ → ℤ) → AllWithin n bound a → ring_size n a ≤ bound
unfolding ring_size
ring_size_le zero bound a h = omega arith
ring_size_le (suc n) bound a h = max-le (ring_size_le n bound a (λ k l. h k (omega arith))) (h n (omega arith))

-- the size of a sum
pub ring_size-ring_sum : (n : ℕ) (a b : ℕ → ℤ) → ring_size n (ring_sum a b) ≤ ring_size n a + ring_size n b
ring_size-ring_sum n a b =
    ring_size_le n (ring_size n a + ring_size n b) (ring_sum a b) (λ k l. both (a k) (b k) (AllWithin-ring_size n a k l) (AllWithin-ring_size n b k l))
  where
    both : (x y : ℤ) {p q : ℕ} → nat_abs x ≤ p → nat_abs y ≤ q → nat_abs (x +ℤ y) ≤ p + q
    both x y h g = omega (arith, ints)

-- the size of a product
pub ring_size-ring_product : (n : ℕ) (a b : ℕ → ℤ) → ring_size n (ring_product n a b) ≤ n * (ring_size n a * ring_size n b)
ring_size-ring_product n a b =
    ring_size_le n (n * (ring_size n a * ring_size n b)) (ring_product n a b)
    (ring_product_size n (ring_size n a) (ring_size n b) a b (AllWithin-ring_size n a) (AllWithin-ring_size n b))

-- a turn by an odd element keeps the size, n being a power of two
pub ring_size-ring_turn : (k h : ℕ) (a : ℕ → ℤ) → ring_size (2 ^ k) (ring_turn (2 ^ k) (2 * h + 1) a) ≡ ring_size (2 ^ k) a
ring_size-ring_turn k h a = le_antisymm
    (ring_size_le n (ring_size n a) (ring_turn n (2 * h + 1) a)
    (ring_turn_within n (2 * h + 1) (pow_pos k) (HasInverse-odd h k) (ring_size n a) a (AllWithin-ring_size n a)))
    (ring_size_le n (ring_size n (ring_turn n (2 * h + 1) a)) a
    (ring_turn_within_back n (2 * h + 1) (pow_pos k) (HasInverse-odd h k) (ring_size n (ring_turn n (2 * h + 1) a)) a
    (AllWithin-ring_size n (ring_turn n (2 * h + 1) a))))
  where
    n : ℕ
    n = 2 ^ k
