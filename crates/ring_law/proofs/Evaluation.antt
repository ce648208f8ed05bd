-- Values of polynomials at the powers of a root of X^n + 1.
use Rattle.std.proofs.Common.{◌≡◌, ℕ, zero, suc, ◌+◌, ◌*◌, ◌^◌, ◌<◌, refl, sym, ap, ◌∙◌, arith, ℤ, pos, neg_ℤ, ◌+ℤ◌, ◌*ℤ◌, pow-suc, mul_comm, negsuc}
use Rattle.std.proofs.Math.Nat.{pow-zero}
use Rattle.std.proofs.lemmas.Int.{ints}
use Rattle.std.proofs.lemmas.Nat.{pow-add}
use Rattle.ring_law.specs.Sums.{sum_below}
use Rattle.ring_law.specs.Residues.{Congruent}
use Rattle.ring_law.specs.Polynomials.{minus_one_to, ring_negative, ring_product, ring_sum, ring_turn}
use Rattle.ring_law.specs.Transform.{evaluation}
use Rattle.ring_law.proofs.WholeNumbers.{int_add_mul, int_mul_assoc, int_neg_mul, int_one_mul}
use Rattle.ring_law.proofs.RingSolver.{identity1, identity4, literal, minus, ◌⊗◌}
use Rattle.ring_law.proofs.Sums.{sum_below_add, sum_below_ext, sum_below_neg, sum_below_product, sum_below_scale}
use Rattle.ring_law.proofs.Congruence.{Congruent-equal, Congruent-mul, Congruent-refl, Congruent-sum_below, Congruent-sym, Congruent-trans}
use Rattle.ring_law.proofs.PowerCoefficients.{minus_one_to_even, minus_one_to_odd, sum_against_product, sum_against_turn}

-- a power of a power
pub pow-pow : (x a b : ℕ) → x ^ (a * b) ≡ (x ^ a) ^ b
pow-pow x a zero = ap (λ y. x ^ y) (none a) ∙ pow-zero x ∙ sym (pow-zero (x ^ a))
  where
    none : (a : ℕ) → a * 0 ≡ 0
    none a = omega arith
pow-pow x a (suc b) = ap (λ y. x ^ y) (more a b) ∙ pow-add x (a * b) a ∙ ap (λ y. y * x ^ a) (pow-pow x a b) ∙ sym (pow-suc (x ^ a) b)
  where
    more : (a b : ℕ) → a * suc b ≡ a * b + a
    more a b = omega arith

-- a power of what is -1 modulo m
pub power_of_minus_one : (m y : ℕ) → Congruent m (pos y) (neg_ℤ (pos 1)) → (e : ℕ) → Congruent m (pos (y ^ e)) (minus_one_to e)
unfolding minus_one_to
power_of_minus_one m y h zero = Congruent-equal m (ap pos (pow-zero y))
power_of_minus_one m y h (suc e) =
    Congruent-trans m (Congruent-equal m (ap pos (pow-suc y e)))
    (Congruent-trans m (Congruent-mul m (power_of_minus_one m y h e) h)
    (Congruent-equal m (identity1 (λ s. s ⊗ minus (literal (pos 1))) (λ s. minus s) refl (minus_one_to e))))

module _ (m n x : ℕ) (minus_one : Congruent m (pos (x ^ n)) (neg_ℤ (pos 1))) where
  -- n more in the exponent, e times
  pub power_shifted : (p e : ℕ) → Congruent m (pos (x ^ (p + n * e))) (minus_one_to e *ℤ pos (x ^ p))
  power_shifted p e =
      Congruent-trans m (Congruent-equal m (ap pos (pow-add x p (n * e) ∙ mul_comm (x ^ p) (x ^ (n * e)) ∙ ap (λ y. y * x ^ p) (pow-pow x n e))))
      (Congruent-mul m (power_of_minus_one m (x ^ n) minus_one e) (Congruent-refl m (pos (x ^ p))))

  -- the odd powers of x at the place n further are the negatives
  odd_power_round : (h p : ℕ) → Congruent m (pos (x ^ ((p + n) * (2 * h + 1)))) (neg_ℤ (pos (x ^ (p * (2 * h + 1)))))
  odd_power_round h p =
      Congruent-trans m (Congruent-equal m (ap (λ y. pos (x ^ y)) (split p h)))
      (Congruent-trans m (power_shifted (p * (2 * h + 1)) (2 * h + 1))
      (Congruent-equal m
      (ap (λ s. s *ℤ pos (x ^ (p * (2 * h + 1)))) (minus_one_to_odd h)
      ∙ identity1 (λ y. minus (literal (pos 1)) ⊗ y) (λ y. minus y) refl (pos (x ^ (p * (2 * h + 1)))))))
    where
      split : (p h : ℕ) → (p + n) * (2 * h + 1) ≡ p * (2 * h + 1) + n * (2 * h + 1)
      split p h = omega arith

  -- the value of a product is the product of the values, at an odd power
  pub evaluation_product : 0 < n → (h : ℕ) (a b : ℕ → ℤ) →
      Congruent m (evaluation n x (2 * h + 1) (ring_product n a b)) (evaluation n x (2 * h + 1) a *ℤ evaluation n x (2 * h + 1) b)
  unfolding evaluation
  evaluation_product pos_n h a b =
      Congruent-trans m (sum_against_product m n pos_n (λ i. pos (x ^ (i * (2 * h + 1)))) (odd_power_round h) a b)
      (Congruent-equal m (
      sum_below_ext n (λ i. sum_below n (λ j. (a i *ℤ b j) *ℤ pos (x ^ ((i + j) * (2 * h + 1)))))
      (λ i. sum_below n (λ j. (a i *ℤ pos (x ^ (i * (2 * h + 1)))) *ℤ (b j *ℤ pos (x ^ (j * (2 * h + 1)))))) (λ i l.
      sum_below_ext n (λ j. (a i *ℤ b j) *ℤ pos (x ^ ((i + j) * (2 * h + 1))))
      (λ j. (a i *ℤ pos (x ^ (i * (2 * h + 1)))) *ℤ (b j *ℤ pos (x ^ (j * (2 * h + 1))))) (λ j l.
      ap (λ y. (a i *ℤ b j) *ℤ y) (ap pos (ap (λ y. x ^ y) (spread i j h) ∙ pow-add x (i * (2 * h + 1)) (j * (2 * h + 1))))
      ∙ identity4 (λ a b c d. (a ⊗ b) ⊗ (c ⊗ d)) (λ a b c d. (a ⊗ c) ⊗ (b ⊗ d)) refl (a i) (b j) (pos (x ^ (i * (2 * h + 1))))
      (pos (x ^ (j * (2 * h + 1))))))
      ∙ sum_below_product n n (λ i. a i *ℤ pos (x ^ (i * (2 * h + 1)))) (λ j. b j *ℤ pos (x ^ (j * (2 * h + 1))))))
    where
      spread : (i j h : ℕ) → (i + j) * (2 * h + 1) ≡ i * (2 * h + 1) + j * (2 * h + 1)
      spread i j h = omega arith

  -- the value of a(X^g) at an odd power is a's value at that power times g
  pub evaluation_turn : 0 < n → (h g : ℕ) (a : ℕ → ℤ) → Congruent m (evaluation n x (2 * h + 1) (ring_turn n g a)) (evaluation n x ((2 * h + 1) * g) a)
  unfolding evaluation
  evaluation_turn pos_n h g a =
      Congruent-trans m (sum_against_turn m n pos_n (λ i. pos (x ^ (i * (2 * h + 1)))) (odd_power_round h) g a)
      (Congruent-equal m
      (sum_below_ext n (λ i. a i *ℤ pos (x ^ (g * i * (2 * h + 1)))) (λ i. a i *ℤ pos (x ^ (i * ((2 * h + 1) * g))))
      (λ i l. ap (λ e. a i *ℤ pos (x ^ e)) (regroup g i (2 * h + 1)))))
    where
      regroup : (g i e : ℕ) → g * i * e ≡ i * (e * g)
      regroup g i e = omega arith

-- 2n more in the exponent, e times
pub power_whole_turns : (m k x : ℕ) → Congruent m (pos (x ^ (2 ^ k))) (neg_ℤ (pos 1)) → (p e : ℕ) →
    Congruent m (pos (x ^ (p + 2 * 2 ^ k * e))) (pos (x ^ p))
power_whole_turns m k x minus_one p e =
    Congruent-trans m (Congruent-equal m (ap (λ y. pos (x ^ (p + y))) (turn (2 ^ k) e)))
    (Congruent-trans m (power_shifted m (2 ^ k) x minus_one p (2 * e))
    (Congruent-equal m (ap (λ s. s *ℤ pos (x ^ p)) (minus_one_to_even e) ∙ int_one_mul (pos (x ^ p)))))
  where
    turn : (n e : ℕ) → 2 * n * e ≡ n * (2 * e)
    turn n e = omega arith

-- values of sums, negatives and multiples
pub evaluation_add : (n x e : ℕ) (a b : ℕ → ℤ) → evaluation n x e (ring_sum a b) ≡ evaluation n x e a +ℤ evaluation n x e b
unfolding evaluation
evaluation_add n x e a b = simp (int_add_mul, sum_below_add)

pub evaluation_neg : (n x e : ℕ) (a : ℕ → ℤ) → evaluation n x e (ring_negative a) ≡ neg_ℤ (evaluation n x e a)
unfolding evaluation
evaluation_neg n x e a = simp (int_neg_mul, sum_below_neg)

pub evaluation_scale : (n x e : ℕ) (c : ℤ) (a : ℕ → ℤ) → evaluation n x e (λ i. c *ℤ a i) ≡ c *ℤ evaluation n x e a
unfolding evaluation
evaluation_scale n x e c a = simp (int_mul_assoc, sum_below_scale)

-- congruent polynomials have congruent values
pub evaluation_congruent : (t n x e : ℕ) (a b : ℕ → ℤ) → ((i : ℕ) → i < n → Congruent t (a i) (b i)) →
    Congruent t (evaluation n x e a) (evaluation n x e b)
unfolding evaluation
evaluation_congruent t n x e a b h =
    Congruent-sum_below t n (λ i. a i *ℤ pos (x ^ (i * e))) (λ i. b i *ℤ pos (x ^ (i * e)))
    (λ i l. Congruent-mul t (h i l) (Congruent-refl t (pos (x ^ (i * e)))))

-- powers that differ by a multiple of 2 * n
pub evaluation_period : (t k x e c : ℕ) (a : ℕ → ℤ) → Congruent t (pos (x ^ (2 ^ k))) (neg_ℤ (pos 1)) →
    Congruent t (evaluation (2 ^ k) x (e + 2 * 2 ^ k * c) a) (evaluation (2 ^ k) x e a)
unfolding evaluation
evaluation_period t k x e c a h =
    Congruent-sum_below t (2 ^ k) (λ i. a i *ℤ pos (x ^ (i * (e + 2 * 2 ^ k * c)))) (λ i. a i *ℤ pos (x ^ (i * e))) (λ i l.
    Congruent-mul t (Congruent-refl t (a i))
    (Congruent-trans t (Congruent-equal t (ap (λ p. pos (x ^ p)) (spread i e (2 * 2 ^ k) c))) (power_whole_turns t k x h (i * e) (i * c))))
  where
    spread : (i e n c : ℕ) → i * (e + n * c) ≡ i * e + n * (i * c)
    spread i e n c = omega arith

-- a value depends on the power modulo 2n alone
pub evaluation_round : (t k x e f : ℕ) (a : ℕ → ℤ) → Congruent t (pos (x ^ (2 ^ k))) (neg_ℤ (pos 1)) → Congruent (2 * 2 ^ k) (pos e) (pos f) →
    Congruent t (evaluation (2 ^ k) x e a) (evaluation (2 ^ k) x f a)
evaluation_round t k x e f a minus_one h = by h.quotient h.equation
  where
    up : (e f c m : ℕ) → pos e ≡ pos f +ℤ pos c *ℤ pos m → e ≡ f + m * c
    up e f c m h = omega (arith, ints)

    down : (e f c m : ℕ) → pos e ≡ pos f +ℤ negsuc c *ℤ pos m → f ≡ e + m * suc c
    down e f c m h = omega (arith, ints)

    by : (c : ℤ) → pos e ≡ pos f +ℤ c *ℤ pos (2 * 2 ^ k) → Congruent t (evaluation (2 ^ k) x e a) (evaluation (2 ^ k) x f a)
    by (pos c) h =
        Congruent-trans t (Congruent-equal t (ap (λ p. evaluation (2 ^ k) x p a) (up e f c (2 * 2 ^ k) h))) (evaluation_period t k x f c a minus_one)
    by (negsuc c) h =
        Congruent-sym t
        (Congruent-trans t (Congruent-equal t (ap (λ p. evaluation (2 ^ k) x p a) (down e f c (2 * 2 ^ k) h)))
        (evaluation_period t k x e (suc c) a minus_one))
