-- The laws of the product modulo X^n + 1.
use Rattle.std.proofs.Common.{◌≡◌, ℕ, zero, suc, ◌+◌, ◌%◌, ◌<◌, refl, sym, ap, ap₂, ◌∙◌, arith, ℤ, pos, neg_ℤ, ◌+ℤ◌, ◌*ℤ◌, cond, mod-eq_of_lt}
use Rattle.std.proofs.Math.IntN.{*ℤ_comm}
use Rattle.ring_law.specs.Sums.{sum_below}
use Rattle.ring_law.specs.Polynomials.{power_coefficient, ring_constant, ring_product}
use Rattle.ring_law.proofs.Places.{eqb_apart}
use Rattle.ring_law.proofs.WholeNumbers.{int_mul_assoc, int_mul_neg, int_zero_mul}
use Rattle.ring_law.proofs.RingSolver.{identity1, identity2, identity3, identity4, literal, ◌⊕◌, ◌⊗◌}
use Rattle.ring_law.proofs.Sums.{sum_below_add, sum_below_ext, sum_below_neg, sum_below_scale, sum_below_single, sum_below_swap, sum_below_zero}
use Rattle.ring_law.proofs.Congruence.{Congruent-equal, Congruent-zero}
use Rattle.ring_law.proofs.PowerCoefficients.{power_coefficient_apart, power_coefficient_here, power_coefficient_round, sum_against_product}

-- products commute
pub ring_product_comm : (n : ℕ) (a b : ℕ → ℤ) (k : ℕ) → ring_product n a b k ≡ ring_product n b a k
unfolding ring_product
ring_product_comm n a b k =
    sum_below_swap n n (λ i j. (a i *ℤ b j) *ℤ power_coefficient n (i + j) k)
    ∙ sum_below_ext n (λ j. sum_below n (λ i. (a i *ℤ b j) *ℤ power_coefficient n (i + j) k))
    (λ j. sum_below n (λ i. (b j *ℤ a i) *ℤ power_coefficient n (j + i) k)) (λ j l.
    sum_below_ext n (λ i. (a i *ℤ b j) *ℤ power_coefficient n (i + j) k) (λ i. (b j *ℤ a i) *ℤ power_coefficient n (j + i) k)
    (λ i l. ap₂ (λ x s. x *ℤ power_coefficient n s k) (*ℤ_comm (a i) (b j)) (reordered i j)))
  where
    reordered : (i j : ℕ) → i + j ≡ j + i
    reordered i j = omega arith

-- a product is told by the coefficients below n
pub ring_product_ext : (n : ℕ) (a a' b b' : ℕ → ℤ) → ((i : ℕ) → i < n → a i ≡ a' i) → ((i : ℕ) → i < n → b i ≡ b' i) → (k : ℕ) →
    ring_product n a b k ≡ ring_product n a' b' k
unfolding ring_product
ring_product_ext n a a' b b' e d k =
    sum_below_ext n (λ i. sum_below n (λ j. (a i *ℤ b j) *ℤ power_coefficient n (i + j) k))
    (λ i. sum_below n (λ j. (a' i *ℤ b' j) *ℤ power_coefficient n (i + j) k)) (λ i l.
    sum_below_ext n (λ j. (a i *ℤ b j) *ℤ power_coefficient n (i + j) k) (λ j. (a' i *ℤ b' j) *ℤ power_coefficient n (i + j) k)
    (λ j h. ap₂ (λ x y. (x *ℤ y) *ℤ power_coefficient n (i + j) k) (e i l) (d j h)))

-- the coefficients of a product of three, as one sum
pub ring_product_three : (n : ℕ) → 0 < n → (a b c : ℕ → ℤ) (k : ℕ) →
    ring_product n (ring_product n a b) c k ≡ sum_below n (λ i. sum_below n (λ j. sum_below n (λ l. (a i *ℤ b j *ℤ c l) *ℤ power_coefficient n
    (i + j + l) k)))
unfolding ring_product
ring_product_three n h a b c k =
    sum_below_ext n (λ s. sum_below n (λ l. (ring_product n a b s *ℤ c l) *ℤ power_coefficient n (s + l) k))
    (λ s. ring_product n a b s *ℤ sum_below n (λ l. c l *ℤ power_coefficient n (s + l) k)) (λ s b'.
    sum_below_ext n (λ l. (ring_product n a b s *ℤ c l) *ℤ power_coefficient n (s + l) k)
    (λ l. ring_product n a b s *ℤ (c l *ℤ power_coefficient n (s + l) k))
    (λ l b'. int_mul_assoc (ring_product n a b s) (c l) (power_coefficient n (s + l) k))
    ∙ sum_below_scale n (ring_product n a b s) (λ l. c l *ℤ power_coefficient n (s + l) k))
    ∙ Congruent-zero (sum_against_product 0 n h (λ s. sum_below n (λ l. c l *ℤ power_coefficient n (s + l) k)) (λ p. Congruent-equal 0 (
    sum_below_ext n (λ l. c l *ℤ power_coefficient n (p + n + l) k) (λ l. neg_ℤ (c l *ℤ power_coefficient n (p + l) k))
    (λ l b'. ap (λ x. c l *ℤ power_coefficient n x k) (reordered p n l) ∙ ap (λ x. c l *ℤ x) (power_coefficient_round n (p + l) k h)
    ∙ int_mul_neg (c l) (power_coefficient n (p + l) k))
    ∙ sum_below_neg n (λ l. c l *ℤ power_coefficient n (p + l) k))) a b)
    ∙ sum_below_ext n (λ i. sum_below n (λ j. (a i *ℤ b j) *ℤ sum_below n (λ l. c l *ℤ power_coefficient n (i + j + l) k)))
    (λ i. sum_below n (λ j. sum_below n (λ l. (a i *ℤ b j *ℤ c l) *ℤ power_coefficient n (i + j + l) k))) (λ i b'.
    sum_below_ext n (λ j. (a i *ℤ b j) *ℤ sum_below n (λ l. c l *ℤ power_coefficient n (i + j + l) k))
    (λ j. sum_below n (λ l. (a i *ℤ b j *ℤ c l) *ℤ power_coefficient n (i + j + l) k)) (λ j b'.
    sym (sum_below_scale n (a i *ℤ b j) (λ l. c l *ℤ power_coefficient n (i + j + l) k))
    ∙ sum_below_ext n (λ l. (a i *ℤ b j) *ℤ (c l *ℤ power_coefficient n (i + j + l) k)) (λ l. (a i *ℤ b j *ℤ c l) *ℤ power_coefficient n (i + j + l) k)
    (λ l b'. sym (int_mul_assoc (a i *ℤ b j) (c l) (power_coefficient n (i + j + l) k)))))
  where
    reordered : (p n l : ℕ) → p + n + l ≡ p + l + n
    reordered p n l = omega arith

-- products associate
pub ring_product_assoc : (n : ℕ) → 0 < n → (a b c : ℕ → ℤ) (k : ℕ) → ring_product n (ring_product n a b) c k ≡ ring_product n a (ring_product n b c) k
ring_product_assoc n h a b c k =
    ring_product_three n h a b c k
    ∙ sum_below_swap n n (λ i j. sum_below n (λ l. (a i *ℤ b j *ℤ c l) *ℤ power_coefficient n (i + j + l) k))
    ∙ sum_below_ext n (λ j. sum_below n (λ i. sum_below n (λ l. (a i *ℤ b j *ℤ c l) *ℤ power_coefficient n (i + j + l) k)))
    (λ j. sum_below n (λ l. sum_below n (λ i. (b j *ℤ c l *ℤ a i) *ℤ power_coefficient n (j + l + i) k))) (λ j b'.
    sum_below_swap n n (λ i l. (a i *ℤ b j *ℤ c l) *ℤ power_coefficient n (i + j + l) k)
    ∙ sum_below_ext n (λ l. sum_below n (λ i. (a i *ℤ b j *ℤ c l) *ℤ power_coefficient n (i + j + l) k))
    (λ l. sum_below n (λ i. (b j *ℤ c l *ℤ a i) *ℤ power_coefficient n (j + l + i) k)) (λ l b'.
    sum_below_ext n (λ i. (a i *ℤ b j *ℤ c l) *ℤ power_coefficient n (i + j + l) k) (λ i. (b j *ℤ c l *ℤ a i) *ℤ power_coefficient n (j + l + i) k)
    (λ i b'.
    ap₂ (λ x s. x *ℤ power_coefficient n s k) (identity3 (λ a b c. a ⊗ b ⊗ c) (λ a b c. b ⊗ c ⊗ a) refl (a i) (b j) (c l)) (reordered i j l))))
    ∙ sym (ring_product_three n h b c a k)
    ∙ ring_product_comm n (ring_product n b c) a k
  where
    reordered : (i j l : ℕ) → i + j + l ≡ j + l + i
    reordered i j l = omega arith

-- they distribute over sums
pub ring_product_add : (n : ℕ) (a b c : ℕ → ℤ) (k : ℕ) → ring_product n (λ i. a i +ℤ b i) c k ≡ ring_product n a c k +ℤ ring_product n b c k
unfolding ring_product
ring_product_add n a b c k =
    sum_below_ext n (λ i. sum_below n (λ j. ((a i +ℤ b i) *ℤ c j) *ℤ power_coefficient n (i + j) k))
    (λ i. sum_below n (λ j. (a i *ℤ c j) *ℤ power_coefficient n (i + j) k) +ℤ sum_below n (λ j. (b i *ℤ c j) *ℤ power_coefficient n (i + j) k)) (λ i l.
    sum_below_ext n (λ j. ((a i +ℤ b i) *ℤ c j) *ℤ power_coefficient n (i + j) k)
    (λ j. (a i *ℤ c j) *ℤ power_coefficient n (i + j) k +ℤ (b i *ℤ c j) *ℤ power_coefficient n (i + j) k)
    (λ j l. identity4 (λ a b c u. (a ⊕ b) ⊗ c ⊗ u) (λ a b c u. a ⊗ c ⊗ u ⊕ b ⊗ c ⊗ u) refl (a i) (b i) (c j) (power_coefficient n (i + j) k))
    ∙ sum_below_add n (λ j. (a i *ℤ c j) *ℤ power_coefficient n (i + j) k) (λ j. (b i *ℤ c j) *ℤ power_coefficient n (i + j) k))
    ∙ sum_below_add n (λ i. sum_below n (λ j. (a i *ℤ c j) *ℤ power_coefficient n (i + j) k))
    (λ i. sum_below n (λ j. (b i *ℤ c j) *ℤ power_coefficient n (i + j) k))

-- a factor of a polynomial
pub ring_product_scale : (n : ℕ) (c : ℤ) (a b : ℕ → ℤ) (k : ℕ) → ring_product n (λ i. c *ℤ a i) b k ≡ c *ℤ ring_product n a b k
unfolding ring_product
ring_product_scale n c a b k = simp (int_mul_assoc, sum_below_scale)

-- a product with 0
pub ring_product_zero : (n : ℕ) (c : ℕ → ℤ) (k : ℕ) → ring_product n (λ i. pos 0) c k ≡ pos 0
unfolding ring_product
ring_product_zero n c k =
    sum_below_zero n (λ i. sum_below n (λ j. (pos 0 *ℤ c j) *ℤ power_coefficient n (i + j) k))
    (λ i l. sum_below_zero n (λ j. (pos 0 *ℤ c j) *ℤ power_coefficient n (i + j) k) (λ j l. simp int_zero_mul))

-- the sum of L polynomials, each times c
pub ring_product_sum_below : (n m : ℕ) (f : ℕ → ℕ → ℤ) (c : ℕ → ℤ) (k : ℕ) →
    ring_product n (λ i. sum_below m (λ d. f d i)) c k ≡ sum_below m (λ d. ring_product n (f d) c k)
unfolding sum_below
ring_product_sum_below n zero f c k = ring_product_zero n c k
ring_product_sum_below n (suc m) f c k =
    ring_product_add n (λ i. sum_below m (λ d. f d i)) (f m) c k ∙ ap (λ x. x +ℤ ring_product n (f m) c k) (ring_product_sum_below n m f c k)

-- a product with the number c
pub ring_product_constant : (n : ℕ) (a : ℕ → ℤ) (c : ℤ) (k : ℕ) → k < n → ring_product n a (ring_constant c) k ≡ c *ℤ a k
unfolding ring_product
ring_product_constant n a c k l =
    sum_below_ext n (λ i. sum_below n (λ j. (a i *ℤ ring_constant c j) *ℤ power_coefficient n (i + j) k))
    (λ i. (a i *ℤ c) *ℤ power_coefficient n (i + 0) k) (λ i b.
    sum_below_single n 0 (λ j. (a i *ℤ ring_constant c j) *ℤ power_coefficient n (i + j) k) (some n k l)
    (λ j b d. ap (λ t. (a i *ℤ cond t c (pos 0)) *ℤ power_coefficient n (i + j) k) (eqb_apart j 0 d)
    ∙ identity2 (λ a u. (a ⊗ literal (pos 0)) ⊗ u) (λ a u. literal (pos 0)) refl (a i) (power_coefficient n (i + j) k)))
    ∙ sum_below_single n k (λ i. (a i *ℤ c) *ℤ power_coefficient n (i + 0) k) l
    (λ i b d. ap (λ x. (a i *ℤ c) *ℤ x) (power_coefficient_apart n (i + 0) k (λ e. d (sym (mod-eq_of_lt b) ∙ ap (λ x. x % n) (none i) ∙ e)))
    ∙ identity1 (λ a. a ⊗ literal (pos 0)) (λ a. literal (pos 0)) refl (a i *ℤ c))
    ∙ ap (λ x. (a k *ℤ c) *ℤ power_coefficient n x k) (sym (none k)) ∙ ap (λ x. (a k *ℤ c) *ℤ x) (power_coefficient_here n k l)
    ∙ identity2 (λ a c. (a ⊗ c) ⊗ literal (pos 1)) (λ a c. c ⊗ a) refl (a k) c
  where
    some : (n k : ℕ) → k < n → 0 < n
    some n k l = omega arith

    none : (i : ℕ) → i ≡ i + 0
    none i = omega arith
