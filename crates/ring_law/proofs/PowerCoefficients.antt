-- The coefficients of a power of X modulo X^n + 1.
use Rattle.std.proofs.Common.{◌-◌, ◌≤◌, ◌≡◌, ℕ, zero, suc, ◌+◌, ◌*◌, ◌%◌, ◌/◌, ◌<◌, ◌≤◌, ◌≢◌, refl, sym, ap, ap₂, ◌∙◌, subst, arith, ℤ, pos, neg_ℤ, ◌*ℤ◌, nat_abs, div-add-mod', cond, eqb, Bool, true, false, mod-lt, mod-eq_of_lt}
use Rattle.std.proofs.Math.IntN.{neg_ℤ-neg_ℤ}
use Rattle.std.proofs.Math.Nat.{add-mod_right, add-div_right, div-eq_of_lt}
use Rattle.std.proofs.lemmas.Int.{ints}
use Rattle.ring_law.specs.Sums.{sum_below}
use Rattle.ring_law.specs.Residues.{Congruent}
use Rattle.ring_law.specs.Polynomials.{minus_one_to, power_coefficient, ring_product, ring_turn}
use Rattle.ring_law.proofs.Places.{eqb_apart, eqb_same}
use Rattle.ring_law.proofs.WholeNumbers.{int_mul_assoc, int_neg_mul, int_one_mul, int_zero_mul}
use Rattle.ring_law.proofs.Sums.{sum_below_ext, sum_below_neg, sum_below_scale, sum_below_scale_right, sum_below_single, sum_below_swap}
use Rattle.ring_law.proofs.Congruence.{Congruent-equal, Congruent-mul, Congruent-neg, Congruent-refl, Congruent-sum_below, Congruent-sym, Congruent-trans}

-- X^(s + n) is the negative of X^s
pub power_coefficient_round : (n s k : ℕ) → 0 < n → power_coefficient n (s + n) k ≡ neg_ℤ (power_coefficient n s k)
unfolding power_coefficient minus_one_to
power_coefficient_round n s k h =
    ap₂ (λ r q. cond (eqb r k) (minus_one_to q) (pos 0)) (add-mod_right s n) (add-div_right s h ∙ plus_one (s / n))
    ∙ both (eqb (s % n) k) (minus_one_to (s / n))
  where
    plus_one : (q : ℕ) → q + 1 ≡ suc q
    plus_one q = omega arith

    both : (t : Bool) (x : ℤ) → cond t (neg_ℤ x) (pos 0) ≡ neg_ℤ (cond t x (pos 0))
    both true x = refl
    both false x = refl

-- below n a power has the coefficient 1 at its place
pub power_coefficient_here : (n s : ℕ) → s < n → power_coefficient n s s ≡ pos 1
unfolding power_coefficient minus_one_to
power_coefficient_here n s h =
    ap₂ (λ r q. cond (eqb r s) (minus_one_to q) (pos 0)) (mod-eq_of_lt h) (div-eq_of_lt h) ∙ ap (λ t. cond t (pos 1) (pos 0)) (eqb_same s)

-- and 0 at the others
pub power_coefficient_apart : (n s k : ℕ) → s % n ≢ k → power_coefficient n s k ≡ pos 0
unfolding power_coefficient
power_coefficient_apart n s k h = ap (λ t. cond t (minus_one_to (s / n)) (pos 0)) (eqb_apart (s % n) k h)

-- ---- sizes
-- (-1)^q has absolute value 1
minus_one_to_abs : (q : ℕ) → nat_abs (minus_one_to q) ≡ 1
unfolding minus_one_to
minus_one_to_abs zero = refl
minus_one_to_abs (suc q) = let h = minus_one_to_abs q in omega (arith, ints)

-- no coefficient of a power is above 1 in absolute value
pub power_coefficient_abs : (n s k : ℕ) → nat_abs (power_coefficient n s k) ≤ 1
unfolding power_coefficient
power_coefficient_abs n s k = either (eqb (s % n) k)
  where
    either : (t : Bool) → nat_abs (cond t (minus_one_to (s / n)) (pos 0)) ≤ 1
    either true = let h = minus_one_to_abs (s / n) in omega arith
    either false = omega arith

-- ---- turns
-- X^(s + q * n) is (-1)^q times X^s
pub power_coefficient_rounds : (n q s k : ℕ) → 0 < n → power_coefficient n (s + q * n) k ≡ minus_one_to q *ℤ power_coefficient n s k
unfolding minus_one_to
power_coefficient_rounds n zero s k h = ap (λ x. power_coefficient n x k) (none s n) ∙ sym (int_one_mul (power_coefficient n s k))
  where
    none : (s n : ℕ) → s + 0 * n ≡ s
    none s n = omega arith
power_coefficient_rounds n (suc q) s k h =
    ap (λ x. power_coefficient n x k) (more s q n) ∙ power_coefficient_round n (s + q * n) k h ∙ ap neg_ℤ (power_coefficient_rounds n q s k h)
    ∙ sym (int_neg_mul (minus_one_to q) (power_coefficient n s k))
  where
    more : (s q n : ℕ) → s + suc q * n ≡ s + q * n + n
    more s q n = omega arith

-- odd and even powers of -1
pub minus_one_to_odd : (h : ℕ) → minus_one_to (2 * h + 1) ≡ neg_ℤ (pos 1)
unfolding minus_one_to
minus_one_to_odd zero = refl
minus_one_to_odd (suc h) = ap minus_one_to (more h) ∙ neg_ℤ-neg_ℤ (minus_one_to (2 * h + 1)) ∙ minus_one_to_odd h
  where
    more : (h : ℕ) → 2 * suc h + 1 ≡ suc (suc (2 * h + 1))
    more h = omega arith

pub minus_one_to_even : (h : ℕ) → minus_one_to (2 * h) ≡ pos 1
unfolding minus_one_to
minus_one_to_even zero = refl
minus_one_to_even (suc h) = ap minus_one_to (more h) ∙ neg_ℤ-neg_ℤ (minus_one_to (2 * h)) ∙ minus_one_to_even h
  where
    more : (h : ℕ) → 2 * suc h ≡ suc (suc (2 * h))
    more h = omega arith

-- for an odd g, X^g turns its sign after n places too
pub power_coefficient_odd_round : (n h : ℕ) → 0 < n → (p k : ℕ) →
    power_coefficient n ((2 * h + 1) * (p + n)) k ≡ neg_ℤ (power_coefficient n ((2 * h + 1) * p) k)
power_coefficient_odd_round n h pos_n p k =
    ap (λ x. power_coefficient n x k) (spread h p n) ∙ power_coefficient_rounds n (2 * h + 1) ((2 * h + 1) * p) k pos_n
    ∙ ap (λ x. x *ℤ power_coefficient n ((2 * h + 1) * p) k) (minus_one_to_odd h)
    ∙ less (power_coefficient n ((2 * h + 1) * p) k)
  where
    spread : (h p n : ℕ) → (2 * h + 1) * (p + n) ≡ (2 * h + 1) * p + (2 * h + 1) * n
    spread h p n = omega arith

    less : (x : ℤ) → neg_ℤ (pos 1) *ℤ x ≡ neg_ℤ x
    less x = omega (arith, ints)

-- X^(2n) is 1
pub power_coefficient_mod : (n s k : ℕ) → 0 < n → power_coefficient n s k ≡ power_coefficient n (s % (2 * n)) k
power_coefficient_mod n s k pos_n =
    ap (λ x. power_coefficient n x k) (parts (s / (2 * n)) (s % (2 * n)) n (div-add-mod' s (2 * n)))
    ∙ power_coefficient_rounds n (2 * (s / (2 * n))) (s % (2 * n)) k pos_n
    ∙ ap (λ x. x *ℤ power_coefficient n (s % (2 * n)) k) (minus_one_to_even (s / (2 * n)))
    ∙ int_one_mul (power_coefficient n (s % (2 * n)) k)
  where
    parts : (q r n : ℕ) → q * (2 * n) + r ≡ s → s ≡ r + 2 * q * n
    parts q r n e = sym e ∙ turn q r n
      where
        turn : (q r n : ℕ) → q * (2 * n) + r ≡ r + 2 * q * n
        turn q r n = omega arith

-- a power from X^n on is the negative of the power n below it
pub power_coefficient_past : (n s k : ℕ) → 0 < n → n ≤ s → power_coefficient n s k ≡ neg_ℤ (power_coefficient n (s - n) k)
power_coefficient_past n s k pos_n l = ap (λ x. power_coefficient n x k) (back n s l) ∙ power_coefficient_round n (s - n) k pos_n
  where
    back : (n s : ℕ) → n ≤ s → s ≡ s - n + n
    back n s l = omega arith

-- at its own place a power has the coefficient 1 or -1
pub power_coefficient_own : (n s : ℕ) → nat_abs (power_coefficient n s (s % n)) ≡ 1
unfolding power_coefficient
power_coefficient_own n s = ap (λ t. nat_abs (cond t (minus_one_to (s / n)) (pos 0))) (eqb_same (s % n)) ∙ minus_one_to_abs (s / n)

-- A function that changes its sign (modulo m) after n places is told by its values below n.
module _ (m n : ℕ) (pos_n : 0 < n) (f : ℕ → ℤ) (round : (p : ℕ) → Congruent m (f (p + n)) (neg_ℤ (f p))) where
  sum_at_first : (r : ℕ) → r < n → sum_below n (λ s. power_coefficient n r s *ℤ f s) ≡ f r
  sum_at_first r l =
      sum_below_single n r (λ s. power_coefficient n r s *ℤ f s) l
      (λ s b d. ap (λ x. x *ℤ f s) (power_coefficient_apart n r s (λ e. d (sym e ∙ mod-eq_of_lt l))) ∙ int_zero_mul (f s))
      ∙ ap (λ x. x *ℤ f r) (power_coefficient_here n r l) ∙ int_one_mul (f r)

  sum_at_turn : (q r : ℕ) → r < n → Congruent m (sum_below n (λ s. power_coefficient n (q * n + r) s *ℤ f s)) (f (q * n + r))
  sum_at_turn zero r l =
      subst (λ p. Congruent m (sum_below n (λ s. power_coefficient n p s *ℤ f s)) (f p)) (none n r) (Congruent-equal m (sum_at_first r l))
    where
      none : (n r : ℕ) → r ≡ 0 * n + r
      none n r = omega arith
  sum_at_turn (suc q) r l =
      subst (λ p. Congruent m (sum_below n (λ s. power_coefficient n p s *ℤ f s)) (f p)) (more n q r)
      (Congruent-trans m
      (Congruent-equal m
      (sum_below_ext n (λ s. power_coefficient n (q * n + r + n) s *ℤ f s) (λ s. neg_ℤ (power_coefficient n (q * n + r) s *ℤ f s))
      (λ s b. ap (λ x. x *ℤ f s) (power_coefficient_round n (q * n + r) s pos_n) ∙ int_neg_mul (power_coefficient n (q * n + r) s) (f s))
      ∙ sum_below_neg n (λ s. power_coefficient n (q * n + r) s *ℤ f s)))
      (Congruent-trans m (Congruent-neg m (sum_at_turn q r l)) (Congruent-sym m (round (q * n + r)))))
    where
      more : (n q r : ℕ) → q * n + r + n ≡ suc q * n + r
      more n q r = omega arith

  -- the coefficients of X^p, each times f at its place, add up to f(p)
  pub sum_at_power : (p : ℕ) → Congruent m (sum_below n (λ s. power_coefficient n p s *ℤ f s)) (f p)
  sum_at_power p =
      subst (λ x. Congruent m (sum_below n (λ s. power_coefficient n x s *ℤ f s)) (f x)) (div-add-mod' p n) (sum_at_turn (p / n) (p % n) (mod-lt p pos_n))

  -- the sum of a product's coefficients, each times f at its place
  pub sum_against_product : (a b : ℕ → ℤ) →
      Congruent m (sum_below n (λ s. ring_product n a b s *ℤ f s)) (sum_below n (λ i. sum_below n (λ j. (a i *ℤ b j) *ℤ f (i + j))))
  unfolding ring_product
  sum_against_product a b =
      Congruent-trans m (Congruent-equal m (
      sum_below_ext n (λ s. ring_product n a b s *ℤ f s)
      (λ s. sum_below n (λ i. sum_below n (λ j. (a i *ℤ b j) *ℤ (power_coefficient n (i + j) s *ℤ f s)))) (λ s l.
      sym (sum_below_scale_right n (λ i. sum_below n (λ j. (a i *ℤ b j) *ℤ power_coefficient n (i + j) s)) (f s))
      ∙ sum_below_ext n (λ i. sum_below n (λ j. (a i *ℤ b j) *ℤ power_coefficient n (i + j) s) *ℤ f s)
      (λ i. sum_below n (λ j. (a i *ℤ b j) *ℤ (power_coefficient n (i + j) s *ℤ f s))) (λ i l.
      sym (sum_below_scale_right n (λ j. (a i *ℤ b j) *ℤ power_coefficient n (i + j) s) (f s))
      ∙ sum_below_ext n (λ j. ((a i *ℤ b j) *ℤ power_coefficient n (i + j) s) *ℤ f s) (λ j. (a i *ℤ b j) *ℤ (power_coefficient n (i + j) s *ℤ f s))
      (λ j l. int_mul_assoc (a i *ℤ b j) (power_coefficient n (i + j) s) (f s))))
      ∙ sum_below_swap n n (λ s i. sum_below n (λ j. (a i *ℤ b j) *ℤ (power_coefficient n (i + j) s *ℤ f s)))
      ∙ sum_below_ext n (λ i. sum_below n (λ s. sum_below n (λ j. (a i *ℤ b j) *ℤ (power_coefficient n (i + j) s *ℤ f s))))
      (λ i. sum_below n (λ j. (a i *ℤ b j) *ℤ sum_below n (λ s. power_coefficient n (i + j) s *ℤ f s))) (λ i l.
      sum_below_swap n n (λ s j. (a i *ℤ b j) *ℤ (power_coefficient n (i + j) s *ℤ f s))
      ∙ sum_below_ext n (λ j. sum_below n (λ s. (a i *ℤ b j) *ℤ (power_coefficient n (i + j) s *ℤ f s)))
      (λ j. (a i *ℤ b j) *ℤ sum_below n (λ s. power_coefficient n (i + j) s *ℤ f s))
      (λ j l. sum_below_scale n (a i *ℤ b j) (λ s. power_coefficient n (i + j) s *ℤ f s)))))
      (Congruent-sum_below m n (λ i. sum_below n (λ j. (a i *ℤ b j) *ℤ sum_below n (λ s. power_coefficient n (i + j) s *ℤ f s)))
      (λ i. sum_below n (λ j. (a i *ℤ b j) *ℤ f (i + j))) (λ i l.
      Congruent-sum_below m n (λ j. (a i *ℤ b j) *ℤ sum_below n (λ s. power_coefficient n (i + j) s *ℤ f s)) (λ j. (a i *ℤ b j) *ℤ f (i + j))
      (λ j l. Congruent-mul m (Congruent-refl m (a i *ℤ b j)) (sum_at_power (i + j)))))

  -- the sum of a turn's coefficients, each times f at its place
  pub sum_against_turn : (g : ℕ) (a : ℕ → ℤ) → Congruent m (sum_below n (λ s. ring_turn n g a s *ℤ f s)) (sum_below n (λ i. a i *ℤ f (g * i)))
  unfolding ring_turn
  sum_against_turn g a =
      Congruent-trans m (Congruent-equal m (
      sum_below_ext n (λ s. sum_below n (λ i. a i *ℤ power_coefficient n (g * i) s) *ℤ f s)
      (λ s. sum_below n (λ i. a i *ℤ (power_coefficient n (g * i) s *ℤ f s))) (λ s l.
      sym (sum_below_scale_right n (λ i. a i *ℤ power_coefficient n (g * i) s) (f s))
      ∙ sum_below_ext n (λ i. (a i *ℤ power_coefficient n (g * i) s) *ℤ f s) (λ i. a i *ℤ (power_coefficient n (g * i) s *ℤ f s))
      (λ i l. int_mul_assoc (a i) (power_coefficient n (g * i) s) (f s)))
      ∙ sum_below_swap n n (λ s i. a i *ℤ (power_coefficient n (g * i) s *ℤ f s))
      ∙ sum_below_ext n (λ i. sum_below n (λ s. a i *ℤ (power_coefficient n (g * i) s *ℤ f s)))
      (λ i. a i *ℤ sum_below n (λ s. power_coefficient n (g * i) s *ℤ f s)) (λ i l. sum_below_scale n (a i) (λ s. power_coefficient n (g * i) s *ℤ f s))))
      (Congruent-sum_below m n (λ i. a i *ℤ sum_below n (λ s. power_coefficient n (g * i) s *ℤ f s)) (λ i. a i *ℤ f (g * i))
      (λ i l. Congruent-mul m (Congruent-refl m (a i)) (sum_at_power (g * i))))
