-- The laws of the turn of X to X^g.
use Rattle.std.proofs.Common.{◌≡◌, ℕ, ◌+◌, ◌<◌, refl, sym, ap, ◌∙◌, ℤ, pos, ◌+ℤ◌, ◌*ℤ◌, ◌*◌, ◌≤◌, subst, arith, neg_ℤ, nat_abs, ◌%◌, mul-le-mul, ◌≢◌, ⊎_elim, mod-eq_of_lt, mod-lt, cond, ◌-◌}
use Rattle.std.proofs.lemmas.Bool.{cases_eq}
use Rattle.std.proofs.Math.Nat.{mod-mod_of_dvd, dvd-mul_left, add-mod_right}
use Rattle.std.proofs.lemmas.Int.{ints, unsigned_abs-mul}
use Rattle.ring_law.specs.Sums.{sum_below}
use Rattle.ring_law.specs.Residues.{Congruent, HasInverse, residue}
use Rattle.ring_law.specs.Polynomials.{AllWithin, power_coefficient, ring_constant, ring_product, ring_turn}
use Rattle.ring_law.proofs.Places.{eqb_apart}
use Rattle.ring_law.proofs.WholeNumbers.{int_add_mul, int_mul_assoc, int_mul_neg, int_mul_one, int_one_mul, int_zero_mul}
use Rattle.ring_law.proofs.RingSolver.{identity3, ◌⊗◌}
use Rattle.ring_law.proofs.Sums.{sum_below_add, sum_below_ext, sum_below_neg, sum_below_scale, sum_below_single}
use Rattle.ring_law.proofs.Congruence.{Congruent-equal, Congruent-mul, Congruent-refl, Congruent-sum_below, Congruent-sym, Congruent-trans, Congruent-zero}
use Rattle.ring_law.proofs.Residues.{Congruent-mod, residue_lt, residue_unique}
use Rattle.ring_law.proofs.PowerCoefficients.{power_coefficient_abs, power_coefficient_apart, power_coefficient_here, power_coefficient_mod, power_coefficient_own, power_coefficient_past, power_coefficient_round, sum_against_product, sum_against_turn}

-- its definition
pub ring_turn-sum_below : (n g : ℕ) (a : ℕ → ℤ) (k : ℕ) → ring_turn n g a k ≡ sum_below n (λ i. a i *ℤ power_coefficient n (g * i) k)
unfolding ring_turn
ring_turn-sum_below n g a k = refl

-- the turn of a sum
pub ring_turn_add : (n g : ℕ) (a b : ℕ → ℤ) (k : ℕ) → ring_turn n g (λ i. a i +ℤ b i) k ≡ ring_turn n g a k +ℤ ring_turn n g b k
unfolding ring_turn
ring_turn_add n g a b k = simp (int_add_mul, sum_below_add)

-- of a multiple
pub ring_turn_scale : (n g : ℕ) (c : ℤ) (a : ℕ → ℤ) (k : ℕ) → ring_turn n g (λ i. c *ℤ a i) k ≡ c *ℤ ring_turn n g a k
unfolding ring_turn
ring_turn_scale n g c a k = simp (int_mul_assoc, sum_below_scale)

-- and of congruent polynomials
pub ring_turn_congruent : (m n g : ℕ) (a b : ℕ → ℤ) → ((i : ℕ) → i < n → Congruent m (a i) (b i)) → (k : ℕ) →
    Congruent m (ring_turn n g a k) (ring_turn n g b k)
unfolding ring_turn
ring_turn_congruent m n g a b h k =
    Congruent-sum_below m n (λ i. a i *ℤ power_coefficient n (g * i) k) (λ i. b i *ℤ power_coefficient n (g * i) k)
    (λ i l. Congruent-mul m (h i l) (Congruent-refl m (power_coefficient n (g * i) k)))

module _ (n g : ℕ) (pos_n : 0 < n) (odd : (p k : ℕ) → power_coefficient n (g * (p + n)) k ≡ neg_ℤ (power_coefficient n (g * p) k)) where
  -- the same for a function that changes its sign after n places
  against_turn : (h : ℕ) (a f : ℕ → ℤ) → ((p : ℕ) → f (p + n) ≡ neg_ℤ (f p)) →
      sum_below n (λ s. ring_turn n h a s *ℤ f s) ≡ sum_below n (λ i. a i *ℤ f (h * i))
  against_turn h a f round = Congruent-zero (sum_against_turn 0 n pos_n f (λ p. Congruent-equal 0 (round p)) h a)

  -- the product of two turns as one sum over all pairs
  expand : (a b : ℕ → ℤ) (k : ℕ) →
      ring_product n (ring_turn n g a) (ring_turn n g b) k ≡ sum_below n (λ i. sum_below n (λ j. (a i *ℤ b j) *ℤ power_coefficient n (g * (i + j)) k))
  unfolding ring_product
  expand a b k =
      sum_below_ext n (λ s. sum_below n (λ r. (ring_turn n g a s *ℤ ring_turn n g b r) *ℤ power_coefficient n (s + r) k))
      (λ s. ring_turn n g a s *ℤ sum_below n (λ j. b j *ℤ power_coefficient n (s + g * j) k)) (λ s l.
      sum_below_ext n (λ r. (ring_turn n g a s *ℤ ring_turn n g b r) *ℤ power_coefficient n (s + r) k)
      (λ r. ring_turn n g a s *ℤ (ring_turn n g b r *ℤ power_coefficient n (s + r) k))
      (λ r l. int_mul_assoc (ring_turn n g a s) (ring_turn n g b r) (power_coefficient n (s + r) k))
      ∙ sum_below_scale n (ring_turn n g a s) (λ r. ring_turn n g b r *ℤ power_coefficient n (s + r) k)
      ∙ ap (λ x. ring_turn n g a s *ℤ x)
      (against_turn g b (λ r. power_coefficient n (s + r) k)
      (λ p. ap (λ x. power_coefficient n x k) (right s p n) ∙ power_coefficient_round n (s + p) k pos_n)))
      ∙ against_turn g a (λ s. sum_below n (λ j. b j *ℤ power_coefficient n (s + g * j) k)) (λ p.
      sum_below_ext n (λ j. b j *ℤ power_coefficient n (p + n + g * j) k) (λ j. neg_ℤ (b j *ℤ power_coefficient n (p + g * j) k))
      (λ j l. ap (λ x. b j *ℤ power_coefficient n x k) (left p n (g * j)) ∙ ap (λ x. b j *ℤ x) (power_coefficient_round n (p + g * j) k pos_n)
      ∙ int_mul_neg (b j) (power_coefficient n (p + g * j) k))
      ∙ sum_below_neg n (λ j. b j *ℤ power_coefficient n (p + g * j) k))
      ∙ sum_below_ext n (λ i. a i *ℤ sum_below n (λ j. b j *ℤ power_coefficient n (g * i + g * j) k))
      (λ i. sum_below n (λ j. (a i *ℤ b j) *ℤ power_coefficient n (g * (i + j)) k)) (λ i l.
      sym (sum_below_scale n (a i) (λ j. b j *ℤ power_coefficient n (g * i + g * j) k))
      ∙ sum_below_ext n (λ j. a i *ℤ (b j *ℤ power_coefficient n (g * i + g * j) k)) (λ j. (a i *ℤ b j) *ℤ power_coefficient n (g * (i + j)) k)
      (λ j l. sym (int_mul_assoc (a i) (b j) (power_coefficient n (g * i + g * j) k)) ∙ ap (λ x. (a i *ℤ b j) *ℤ power_coefficient n x k) (both g i j)))
    where
      right : (s p n : ℕ) → s + (p + n) ≡ s + p + n
      right s p n = omega arith

      left : (p n x : ℕ) → p + n + x ≡ p + x + n
      left p n x = omega arith

      both : (g i j : ℕ) → g * i + g * j ≡ g * (i + j)
      both g i j = omega arith

  -- the turn of a product is the product of the turns
  pub ring_turn_product : (a b : ℕ → ℤ) (k : ℕ) → ring_turn n g (ring_product n a b) k ≡ ring_product n (ring_turn n g a) (ring_turn n g b) k
  unfolding ring_turn
  ring_turn_product a b k =
      Congruent-zero (sum_against_product 0 n pos_n (λ s. power_coefficient n (g * s) k) (λ p. Congruent-equal 0 (odd p k)) a b)
      ∙ sym (expand a b k)

  -- a turn after a turn is the turn by the product of the elements
  pub ring_turn_turn : (h : ℕ) (a : ℕ → ℤ) (k : ℕ) → ring_turn n g (ring_turn n h a) k ≡ ring_turn n (h * g) a k
  ring_turn_turn h a k =
      ring_turn-sum_below n g (ring_turn n h a) k
      ∙ against_turn h a (λ s. power_coefficient n (g * s) k) (λ p. odd p k)
      ∙ sum_below_ext n (λ i. a i *ℤ power_coefficient n (g * (h * i)) k) (λ i. a i *ℤ power_coefficient n (h * g * i) k)
      (λ i l. ap (λ s. a i *ℤ power_coefficient n s k) (regroup g h i))
      ∙ sym (ring_turn-sum_below n (h * g) a k)
    where
      regroup : (g h i : ℕ) → g * (h * i) ≡ h * g * i
      regroup g h i = omega arith

-- the turn of a number is that number
pub ring_turn_constant : (n g : ℕ) (c : ℤ) (k : ℕ) → k < n → ring_turn n g (ring_constant c) k ≡ ring_constant c k
unfolding ring_turn
ring_turn_constant n g c k l =
    sum_below_single n 0 (λ i. ring_constant c i *ℤ power_coefficient n (g * i) k) (omega arith)
    (λ i b d. ap (λ x. x *ℤ power_coefficient n (g * i) k) (apart i d) ∙ int_zero_mul (power_coefficient n (g * i) k))
    ∙ ap (λ s. c *ℤ power_coefficient n s k) (none g)
    ∙ ⊎_elim (λ (e : k ≡ 0). subst (λ k. c *ℤ power_coefficient n 0 k ≡ ring_constant c k) (sym e)
    (ap (λ x. c *ℤ x) (power_coefficient_here n 0 (omega arith)) ∙ int_mul_one c))
    (λ (d : k ≢ 0). ap (λ x. c *ℤ x) (power_coefficient_apart n 0 k (λ e. d (sym (sym (mod-eq_of_lt (omega arith)) ∙ e)))) ∙ null c ∙ sym (apart k d))
    (cases_eq k 0)
  where
    none : (g : ℕ) → g * 0 ≡ 0
    none g = omega arith

    null : (c : ℤ) → c *ℤ pos 0 ≡ pos 0
    null c = omega (arith, ints)

    apart : (i : ℕ) → i ≢ 0 → ring_constant c i ≡ pos 0
    apart i d = ap (λ t. cond t c (pos 0)) (eqb_apart i 0 d)

-- remainders modulo 2n and n
mod-mod_twice : (n s : ℕ) → s % (2 * n) % n ≡ s % n
mod-mod_twice n s = mod-mod_of_dvd n s (dvd-mul_left n 2)

-- ---- where g has an inverse modulo n each place of the turn comes from one place
module _ (n g : ℕ) (pos_n : 0 < n) (unit : HasInverse n g) where
  -- the place that goes to place k
  pub turn_source : ℕ → ℕ
  turn_source k = residue n (unit.inverse *ℤ pos k)

  -- it is below n
  pub turn_source_lt : (k : ℕ) → turn_source k < n
  unfolding turn_source
  turn_source_lt k = residue_lt n (unit.inverse *ℤ pos k) pos_n

  -- and the only one
  pub turn_source_only : (i k : ℕ) → i < n → (g * i) % n ≡ k → i ≡ turn_source k
  unfolding turn_source
  turn_source_only i k b e = residue_unique n (unit.inverse *ℤ pos k) i b
      (Congruent-sym n
      (Congruent-trans n
      (Congruent-mul n (Congruent-refl n unit.inverse) (Congruent-trans n (Congruent-equal n (ap pos (sym e))) (Congruent-mod n (g * i) pos_n)))
      (Congruent-trans n (Congruent-equal n (identity3 (λ v g i. v ⊗ (g ⊗ i)) (λ v g i. (v ⊗ g) ⊗ i) refl unit.inverse (pos g) (pos i)))
      (Congruent-trans n (Congruent-mul n unit.is_one (Congruent-refl n (pos i))) (Congruent-equal n (int_one_mul (pos i)))))))

  -- coefficient i goes to place g * i, with a sign
  pub ring_turn_at : (a : ℕ → ℤ) (i : ℕ) → i < n → ring_turn n g a ((g * i) % n) ≡ a i *ℤ power_coefficient n (g * i) ((g * i) % n)
  unfolding ring_turn
  ring_turn_at a i l = sum_below_single n i (λ j. a j *ℤ power_coefficient n (g * j) ((g * i) % n)) l (λ j b d.
      ap (λ x. a j *ℤ x)
      (power_coefficient_apart n (g * j) ((g * i) % n) (λ e. d (turn_source_only j ((g * i) % n) b e ∙ sym (turn_source_only i ((g * i) % n) l refl))))
      ∙ none (a j))
    where
      none : (a : ℤ) → a *ℤ pos 0 ≡ pos 0
      none a = omega (arith, ints)

  -- in the words of a row: the place is g * i modulo 2n where that is below n
  pub ring_turn_low : (a : ℕ → ℤ) (i : ℕ) → i < n → (g * i) % (2 * n) < n → ring_turn n g a ((g * i) % (2 * n)) ≡ a i
  ring_turn_low a i l low =
      ap (ring_turn n g a) (sym place) ∙ ring_turn_at a i l
      ∙ ap (λ c. a i *ℤ c)
      (ap (power_coefficient n (g * i)) place ∙ power_coefficient_mod n (g * i) ((g * i) % (2 * n)) pos_n
      ∙ power_coefficient_here n ((g * i) % (2 * n)) low)
      ∙ int_mul_one (a i)
    where
      place : (g * i) % n ≡ (g * i) % (2 * n)
      place = sym (mod-mod_twice n (g * i)) ∙ mod-eq_of_lt low

  -- and with the other sign n less where it is not
  pub ring_turn_high : (a : ℕ → ℤ) (i : ℕ) → i < n → n ≤ (g * i) % (2 * n) → ring_turn n g a ((g * i) % (2 * n) - n) ≡ neg_ℤ (a i)
  ring_turn_high a i l high =
      ap (ring_turn n g a) (sym place) ∙ ring_turn_at a i l
      ∙ ap (λ c. a i *ℤ c)
      (ap (power_coefficient n (g * i)) place ∙ power_coefficient_mod n (g * i) ((g * i) % (2 * n) - n) pos_n
      ∙ power_coefficient_past n ((g * i) % (2 * n)) ((g * i) % (2 * n) - n) pos_n high ∙ ap neg_ℤ (power_coefficient_here n ((g * i) % (2 * n) - n) below))
      ∙ minus_one (a i)
    where
      below : (g * i) % (2 * n) - n < n
      below = let bound : (g * i) % (2 * n) < 2 * n = mod-lt (g * i) (let p = pos_n in omega arith) in omega arith

      place : (g * i) % n ≡ (g * i) % (2 * n) - n
      place =
          sym (mod-mod_twice n (g * i)) ∙ ap (λ s. s % n) (back n ((g * i) % (2 * n)) high) ∙ add-mod_right ((g * i) % (2 * n) - n) n ∙ mod-eq_of_lt below
        where
          back : (n s : ℕ) → n ≤ s → s ≡ s - n + n
          back n s l = omega arith

      minus_one : (z : ℤ) → z *ℤ neg_ℤ (pos 1) ≡ neg_ℤ z
      minus_one z = omega (arith, ints)

  -- so a turn keeps every bound on the coefficients
  pub ring_turn_within : (A : ℕ) (a : ℕ → ℤ) → AllWithin n A a → AllWithin n A (ring_turn n g a)
  unfolding ring_turn
  ring_turn_within A a within k l =
      subst (λ x. nat_abs x ≤ A)
      (sym (sum_below_single n (turn_source k) (λ i. a i *ℤ power_coefficient n (g * i) k) (turn_source_lt k)
      (λ i b d. ap (λ x. a i *ℤ x) (power_coefficient_apart n (g * i) k (λ e. d (turn_source_only i k b e))) ∙ none (a i))))
      (subst (λ x. x ≤ A) (sym (unsigned_abs-mul (a (turn_source k)) (power_coefficient n (g * turn_source k) k)))
      (last (nat_abs (a (turn_source k))) (nat_abs (power_coefficient n (g * turn_source k) k))
      (mul-le-mul (within (turn_source k) (turn_source_lt k)) (power_coefficient_abs n (g * turn_source k) k))))
    where
      none : (a : ℤ) → a *ℤ pos 0 ≡ pos 0
      none a = omega (arith, ints)

      last : (x y : ℕ) → x * y ≤ A * 1 → x * y ≤ A
      last x y h = omega arith

  -- and every coefficient stays, but for its sign
  pub ring_turn_within_back : (A : ℕ) (a : ℕ → ℤ) → AllWithin n A (ring_turn n g a) → AllWithin n A a
  ring_turn_within_back A a within i l =
      subst (λ x. x ≤ A)
      (ap nat_abs (ring_turn_at a i l) ∙ unsigned_abs-mul (a i) (power_coefficient n (g * i) ((g * i) % n))
      ∙ ap (λ x. nat_abs (a i) * x) (power_coefficient_own n (g * i)) ∙ one (nat_abs (a i))) (within ((g * i) % n) (mod-lt (g * i) pos_n))
    where
      one : (x : ℕ) → x * 1 ≡ x
      one x = omega arith
