-- The values at the odd powers of a root determine a polynomial, and any values are those of one.
use Rattle.std.proofs.Common.{◌≡◌, ℕ, zero, suc, ◌+◌, ◌-◌, ◌*◌, ◌^◌, ◌<◌, ◌≤◌, ◌≢◌, refl, sym, ap, ap₂, ◌∙◌, arith, ℤ, pos, neg_ℤ, ◌+ℤ◌, ◌*ℤ◌, cond, eqb, ⊎_elim}
use Rattle.std.proofs.Math.IntN.{*ℤ_comm, neg_ℤ-neg_ℤ}
use Rattle.std.proofs.Math.Nat.{pow-zero}
use Rattle.std.proofs.lemmas.Int.{ints}
use Rattle.std.proofs.lemmas.Nat.{pow-add, mul-pow}
use Rattle.std.proofs.lemmas.Bool.{cases_lt, cases_eq}
use Rattle.ring_law.specs.Sums.{sum_below}
use Rattle.ring_law.specs.Residues.{Congruent}
use Rattle.ring_law.specs.Polynomials.{minus_one_to}
use Rattle.ring_law.specs.Transform.{evaluation}
use Rattle.ring_law.proofs.Places.{eqb_apart, eqb_equal, eqb_same}
use Rattle.ring_law.proofs.WholeNumbers.{int_mul_assoc, int_one_mul, int_zero_mul}
use Rattle.ring_law.proofs.RingSolver.{identity1, identity2, literal, minus, ◌⊕◌, ◌⊗◌}
use Rattle.ring_law.proofs.Sums.{sum_below_ext, sum_below_neg, sum_below_ones, sum_below_scale, sum_below_scale_right, sum_below_single, sum_below_split, sum_below_swap}
use Rattle.ring_law.proofs.Congruence.{Congruent-add, Congruent-equal, Congruent-mul, Congruent-neg, Congruent-refl, Congruent-sum_below, Congruent-sym, Congruent-trans}
use Rattle.ring_law.proofs.PowerCoefficients.{minus_one_to_odd}
use Rattle.ring_law.proofs.BitReversal.{even_or_odd}
use Rattle.ring_law.proofs.Evaluation.{power_shifted, power_whole_turns}

-- ---- the sum of the odd powers of a d-th power
pub odd_powers_vanish : (m k x d : ℕ) → Congruent m (pos (x ^ (2 ^ k))) (neg_ℤ (pos 1)) → 0 < d → d < 2 ^ k →
    Congruent m (sum_below (2 ^ k) (λ j. pos (x ^ ((2 * j + 1) * d)))) (pos 0)
odd_powers_vanish m zero x d h p l = absurd (omega arith)
odd_powers_vanish m (suc k) x d h p l = ⊎_elim (even (λ x d h p l. odd_powers_vanish m k x d h p l)) odd (even_or_odd d)
  where
    double : (k : ℕ) → 2 ^ suc k ≡ 2 ^ k + 2 ^ k
    double k = omega arith

    -- both halves are c times the first
    joined : (c : ℤ) → ((j : ℕ) → Congruent m (pos (x ^ ((2 * (2 ^ k + j) + 1) * d))) (c *ℤ pos (x ^ ((2 * j + 1) * d)))) →
        Congruent m ((pos 1 +ℤ c) *ℤ sum_below (2 ^ k) (λ j. pos (x ^ ((2 * j + 1) * d)))) (pos 0) →
        Congruent m (sum_below (2 ^ suc k) (λ j. pos (x ^ ((2 * j + 1) * d)))) (pos 0)
    joined c g z =
        Congruent-trans m
        (Congruent-equal m
        (ap (λ n. sum_below n (λ j. pos (x ^ ((2 * j + 1) * d)))) (double k) ∙ sum_below_split (2 ^ k) (2 ^ k) (λ j. pos (x ^ ((2 * j + 1) * d)))))
        (Congruent-trans m (Congruent-add m (Congruent-refl m (sum_below (2 ^ k) (λ j. pos (x ^ ((2 * j + 1) * d)))))
        (Congruent-trans m (Congruent-sum_below m (2 ^ k) (λ j. pos (x ^ ((2 * (2 ^ k + j) + 1) * d))) (λ j. c *ℤ pos (x ^ ((2 * j + 1) * d))) (λ j l. g j))
        (Congruent-equal m (sum_below_scale (2 ^ k) c (λ j. pos (x ^ ((2 * j + 1) * d)))))))
        (Congruent-trans m
        (Congruent-equal m
        (identity2 (λ c s. s ⊕ c ⊗ s) (λ c s. (literal (pos 1) ⊕ c) ⊗ s) refl c (sum_below (2 ^ k) (λ j. pos (x ^ ((2 * j + 1) * d)))))) z))

    step : (j : ℕ) → Congruent m (pos (x ^ ((2 * (2 ^ k + j) + 1) * d))) (minus_one_to d *ℤ pos (x ^ ((2 * j + 1) * d)))
    step j =
        Congruent-trans m (Congruent-equal m (ap (λ y. pos (x ^ y)) (apart (2 ^ k) j d ∙ ap (λ y. (2 * j + 1) * d + y * d) (sym (double k)))))
        (power_shifted m (2 ^ suc k) x h ((2 * j + 1) * d) d)
      where
        apart : (t j d : ℕ) → (2 * (t + j) + 1) * d ≡ (2 * j + 1) * d + (t + t) * d
        apart t j d = omega arith

    odd : (e : ℕ) × (d ≡ 2 * e + 1) → Congruent m (sum_below (2 ^ suc k) (λ j. pos (x ^ ((2 * j + 1) * d)))) (pos 0)
    odd (e, s) =
        joined (minus_one_to d) step
        (Congruent-equal m
        (ap (λ c. (pos 1 +ℤ c) *ℤ sum_below (2 ^ k) (λ j. pos (x ^ ((2 * j + 1) * d)))) (ap minus_one_to s ∙ minus_one_to_odd e)
        ∙ int_zero_mul (sum_below (2 ^ k) (λ j. pos (x ^ ((2 * j + 1) * d))))))

    even : ((x d : ℕ) → Congruent m (pos (x ^ (2 ^ k))) (neg_ℤ (pos 1)) → 0 < d → d < 2 ^ k →
        Congruent m (sum_below (2 ^ k) (λ j. pos (x ^ ((2 * j + 1) * d)))) (pos 0)) → (e : ℕ) × (d ≡ 2 * e) →
        Congruent m (sum_below (2 ^ suc k) (λ j. pos (x ^ ((2 * j + 1) * d)))) (pos 0)
    even rec (e, s) =
        joined (minus_one_to d) step
        (Congruent-trans m
        (Congruent-mul m (Congruent-refl m (pos 1 +ℤ minus_one_to d))
        (Congruent-trans m
        (Congruent-sum_below m (2 ^ k) (λ j. pos (x ^ ((2 * j + 1) * d))) (λ j. pos ((x * x) ^ ((2 * j + 1) * e)))
        (λ j l. Congruent-equal m (ap pos (square ((2 * j + 1) * d) ((2 * j + 1) * e) (twice j)))))
        (rec (x * x) e (Congruent-trans m (Congruent-equal m (ap pos (sym (square (2 ^ suc k) (2 ^ k) (double' k))))) h) (omega arith) (omega arith))))
        (Congruent-equal m (none (pos 1 +ℤ minus_one_to d))))
      where
        none : (a : ℤ) → a *ℤ pos 0 ≡ pos 0
        none a = omega (arith, ints)

        double' : (k : ℕ) → 2 ^ suc k ≡ 2 ^ k + 2 ^ k
        double' k = omega arith

        square : (u v : ℕ) → u ≡ v + v → x ^ u ≡ (x * x) ^ v
        square u v e = ap (λ y. x ^ y) e ∙ pow-add x v v ∙ sym (mul-pow x x v)

        twice : (j : ℕ) → (2 * j + 1) * d ≡ (2 * j + 1) * e + (2 * j + 1) * e
        twice j = ap (λ y. (2 * j + 1) * y) s ∙ spread j e
          where
            spread : (j e : ℕ) → (2 * j + 1) * (2 * e) ≡ (2 * j + 1) * e + (2 * j + 1) * e
            spread j e = omega arith

module _ (m k x : ℕ) (minus_one : Congruent m (pos (x ^ (2 ^ k))) (neg_ℤ (pos 1))) where
  odds : ℕ → ℤ
  odds d = sum_below (2 ^ k) (λ j. pos (x ^ ((2 * j + 1) * d)))

  odds-turn : (d : ℕ) → Congruent m (odds (d + 2 ^ k)) (neg_ℤ (odds d))
  unfolding odds
  odds-turn d =
      Congruent-trans m (Congruent-sum_below m (2 ^ k) (λ j. pos (x ^ ((2 * j + 1) * (d + 2 ^ k)))) (λ j. neg_ℤ (pos (x ^ ((2 * j + 1) * d)))) (λ j l.
      Congruent-trans m (Congruent-equal m (ap (λ y. pos (x ^ y)) (spread j d (2 ^ k))))
      (Congruent-trans m (power_shifted m (2 ^ k) x minus_one ((2 * j + 1) * d) (2 * j + 1))
      (Congruent-equal m
      (ap (λ s. s *ℤ pos (x ^ ((2 * j + 1) * d))) (minus_one_to_odd j)
      ∙ identity1 (λ y. minus (literal (pos 1)) ⊗ y) (λ y. minus y) refl (pos (x ^ ((2 * j + 1) * d))))))))
      (Congruent-equal m (sum_below_neg (2 ^ k) (λ j. pos (x ^ ((2 * j + 1) * d)))))
    where
      spread : (j d n : ℕ) → (2 * j + 1) * (d + n) ≡ (2 * j + 1) * d + n * (2 * j + 1)
      spread j d n = omega arith

  odds-none : (d : ℕ) → 0 < d → d < 2 ^ k → Congruent m (odds d) (pos 0)
  unfolding odds
  odds-none d p l = odd_powers_vanish m k x d minus_one p l

  -- at 0 and at twice n
  odds-all : Congruent m (odds (0 + 2 ^ k + 2 ^ k)) (pos (2 ^ k))
  unfolding odds
  odds-all =
      Congruent-trans m (odds-turn (0 + 2 ^ k)) (Congruent-trans m (Congruent-neg m (odds-turn 0)) (Congruent-equal m (neg_ℤ-neg_ℤ (odds 0) ∙ ones)))
    where
      ones : odds 0 ≡ pos (2 ^ k)
      ones =
          sum_below_ext (2 ^ k) (λ j. pos (x ^ ((2 * j + 1) * 0))) (λ j. pos 1) (λ j l. ap pos (ap (λ y. x ^ y) (none j) ∙ pow-zero x)) ∙ sum_below_ones (2 ^ k)
        where
          none : (j : ℕ) → (2 * j + 1) * 0 ≡ 0
          none j = omega arith

  -- the sum over the n values, each times the power that takes coefficient i to the front
  odds-at : (l i : ℕ) → l < 2 ^ k → i < 2 ^ k → Congruent m (odds (l + (2 ^ k + 2 ^ k - i))) (cond (eqb l i) (pos (2 ^ k)) (pos 0))
  odds-at l i hl hi = ⊎_elim same apart (cases_eq l i)
    where
      same : l ≡ i → Congruent m (odds (l + (2 ^ k + 2 ^ k - i))) (cond (eqb l i) (pos (2 ^ k)) (pos 0))
      same e =
          Congruent-trans m (Congruent-equal m (ap odds (at_i e)))
          (Congruent-trans m odds-all (Congruent-equal m (ap (λ t. cond t (pos (2 ^ k)) (pos 0)) (sym (eqb_equal l i e)))))
        where
          at_i : l ≡ i → l + (2 ^ k + 2 ^ k - i) ≡ 0 + 2 ^ k + 2 ^ k
          at_i e = omega arith

      apart : l ≢ i → Congruent m (odds (l + (2 ^ k + 2 ^ k - i))) (cond (eqb l i) (pos (2 ^ k)) (pos 0))
      apart e = Congruent-trans m (⊎_elim below above (cases_lt l i)) (Congruent-equal m (ap (λ t. cond t (pos (2 ^ k)) (pos 0)) (sym (eqb_apart l i e))))
        where
          below : l < i → Congruent m (odds (l + (2 ^ k + 2 ^ k - i))) (pos 0)
          below b =
              Congruent-trans m (Congruent-equal m (ap odds (a b)))
              (Congruent-trans m (odds-turn (l + 2 ^ k - i)) (Congruent-neg m (odds-none (l + 2 ^ k - i) (omega arith) (omega arith))))
            where
              a : l < i → l + (2 ^ k + 2 ^ k - i) ≡ l + 2 ^ k - i + 2 ^ k
              a b = omega arith

          above : i ≤ l → Congruent m (odds (l + (2 ^ k + 2 ^ k - i))) (pos 0)
          above b =
              Congruent-trans m (Congruent-equal m (ap odds (a b)))
              (Congruent-trans m (odds-turn (l - i + 2 ^ k))
              (Congruent-trans m (Congruent-neg m (odds-turn (l - i))) (Congruent-neg m (Congruent-neg m (odds-none (l - i) (omega arith) (omega arith))))))
            where
              a : i ≤ l → l + (2 ^ k + 2 ^ k - i) ≡ l - i + 2 ^ k + 2 ^ k
              a b = omega arith

  -- n times a coefficient, from the values
  pub coefficient_from_values : (a : ℕ → ℤ) (i : ℕ) → i < 2 ^ k →
      Congruent m (sum_below (2 ^ k) (λ j. evaluation (2 ^ k) x (2 * j + 1) a *ℤ pos (x ^ ((2 * j + 1) * (2 ^ k + 2 ^ k - i))))) (pos (2 ^ k) *ℤ a i)
  unfolding evaluation odds
  coefficient_from_values a i hi =
      Congruent-trans m (Congruent-equal m (
      sum_below_ext n (λ j. evaluation n x (2 * j + 1) a *ℤ pos (x ^ ((2 * j + 1) * r))) (λ j. sum_below n (λ l. a l *ℤ pos (x ^ ((2 * j + 1) * (l + r)))))
      (λ j b.
      sym (sum_below_scale_right n (λ l. a l *ℤ pos (x ^ (l * (2 * j + 1)))) (pos (x ^ ((2 * j + 1) * r))))
      ∙ sum_below_ext n (λ l. (a l *ℤ pos (x ^ (l * (2 * j + 1)))) *ℤ pos (x ^ ((2 * j + 1) * r))) (λ l. a l *ℤ pos (x ^ ((2 * j + 1) * (l + r)))) (λ l b.
      int_mul_assoc (a l) (pos (x ^ (l * (2 * j + 1)))) (pos (x ^ ((2 * j + 1) * r)))
      ∙ ap (λ y. a l *ℤ pos y) (sym (pow-add x (l * (2 * j + 1)) ((2 * j + 1) * r)) ∙ ap (λ y. x ^ y) (spread j l r))))
      ∙ sum_below_swap n n (λ j l. a l *ℤ pos (x ^ ((2 * j + 1) * (l + r))))
      ∙ sum_below_ext n (λ l. sum_below n (λ j. a l *ℤ pos (x ^ ((2 * j + 1) * (l + r))))) (λ l. a l *ℤ odds (l + r))
      (λ l b. sum_below_scale n (a l) (λ j. pos (x ^ ((2 * j + 1) * (l + r)))))))
      (Congruent-trans m
      (Congruent-sum_below m n (λ l. a l *ℤ odds (l + r)) (λ l. a l *ℤ cond (eqb l i) (pos n) (pos 0))
      (λ l b. Congruent-mul m (Congruent-refl m (a l)) (odds-at l i b hi)))
      (Congruent-equal m (
      sum_below_single n i (λ l. a l *ℤ cond (eqb l i) (pos n) (pos 0)) hi (λ l b d. ap (λ t. a l *ℤ cond t (pos n) (pos 0)) (eqb_apart l i d) ∙ none (a l))
      ∙ ap (λ t. a i *ℤ cond t (pos n) (pos 0)) (eqb_same i) ∙ *ℤ_comm (a i) (pos n))))
    where
      n : ℕ
      n = 2 ^ k

      r : ℕ
      r = 2 ^ k + 2 ^ k - i

      spread : (j l r : ℕ) → l * (2 * j + 1) + (2 * j + 1) * r ≡ (2 * j + 1) * (l + r)
      spread j l r = omega arith

      none : (a : ℤ) → a *ℤ pos 0 ≡ pos 0
      none a = omega (arith, ints)

module _ (m k x : ℕ) (minus_one : Congruent m (pos (x ^ (2 ^ k))) (neg_ℤ (pos 1))) where
  -- the sum of the even powers
  pub even_powers_vanish : (d : ℕ) → 0 < d → d < 2 ^ k → Congruent m (sum_below (2 ^ k) (λ i. pos (x ^ (2 * i * d)))) (pos 0)
  even_powers_vanish d p l =
      Congruent-trans m
      (Congruent-sym m
      (Congruent-trans m (Congruent-mul m one (Congruent-refl m (sum_below (2 ^ k) (λ i. pos (x ^ (2 * i * d))))))
      (Congruent-equal m (int_one_mul (sum_below (2 ^ k) (λ i. pos (x ^ (2 * i * d))))))))
      (Congruent-trans m (Congruent-equal m (split ∙ ap (λ y. pos (x ^ (2 * 2 ^ k - d)) *ℤ y) out))
      (Congruent-trans m (Congruent-mul m (Congruent-refl m (pos (x ^ (2 * 2 ^ k - d)))) (odd_powers_vanish m k x d minus_one p l))
      (Congruent-equal m (none (pos (x ^ (2 * 2 ^ k - d)))))))
    where
      none : (a : ℤ) → a *ℤ pos 0 ≡ pos 0
      none a = omega (arith, ints)

      sum : 2 * 2 ^ k - d + d ≡ 0 + 2 * 2 ^ k * 1
      sum = omega arith

      one : Congruent m (pos (x ^ (2 * 2 ^ k - d)) *ℤ pos (x ^ d)) (pos 1)
      one =
          Congruent-trans m (Congruent-equal m (ap pos (sym (pow-add x (2 * 2 ^ k - d) d) ∙ ap (λ y. x ^ y) sum)))
          (Congruent-trans m (power_whole_turns m k x minus_one 0 1) (Congruent-equal m (ap pos (pow-zero x))))

      split : (pos (x ^ (2 * 2 ^ k - d)) *ℤ pos (x ^ d)) *ℤ sum_below (2 ^ k) (λ i. pos (x ^ (2 * i * d))) ≡ pos (x ^ (2 * 2 ^ k - d)) *ℤ (pos
          (x ^ d) *ℤ sum_below (2 ^ k) (λ i. pos (x ^ (2 * i * d))))
      split = int_mul_assoc (pos (x ^ (2 * 2 ^ k - d))) (pos (x ^ d)) (sum_below (2 ^ k) (λ i. pos (x ^ (2 * i * d))))

      out : pos (x ^ d) *ℤ sum_below (2 ^ k) (λ i. pos (x ^ (2 * i * d))) ≡ sum_below (2 ^ k) (λ i. pos (x ^ ((2 * i + 1) * d)))
      out =
          sym (sum_below_scale (2 ^ k) (pos (x ^ d)) (λ i. pos (x ^ (2 * i * d))))
          ∙ sum_below_ext (2 ^ k) (λ i. pos (x ^ d) *ℤ pos (x ^ (2 * i * d))) (λ i. pos (x ^ ((2 * i + 1) * d)))
          (λ i b. ap pos (sym (pow-add x d (2 * i * d)) ∙ ap (λ y. x ^ y) (more i d)))
        where
          more : (i d : ℕ) → d + 2 * i * d ≡ (2 * i + 1) * d
          more i d = omega arith

  pairs : ℕ → ℕ → ℤ
  pairs j l = sum_below (2 ^ k) (λ i. pos (x ^ ((2 * j + 1) * (2 * 2 ^ k - i) + i * (2 * l + 1))))

  pairs_up : (j l : ℕ) → j ≤ l → Congruent m (pairs j l) (sum_below (2 ^ k) (λ i. pos (x ^ (2 * i * (l - j)))))
  unfolding pairs
  pairs_up j l h =
      Congruent-sum_below m (2 ^ k) (λ i. pos (x ^ ((2 * j + 1) * (2 * 2 ^ k - i) + i * (2 * l + 1)))) (λ i. pos (x ^ (2 * i * (l - j)))) (λ i b.
      Congruent-trans m (Congruent-equal m (ap (λ y. pos (x ^ y)) (place i j (l - j) l (2 ^ k) (omega arith) b)))
      (power_whole_turns m k x minus_one (2 * i * (l - j)) (2 * j + 1)))
    where
      place : (i j d l n : ℕ) → j + d ≡ l → i < n → (2 * j + 1) * (2 * n - i) + i * (2 * l + 1) ≡ 2 * i * d + 2 * n * (2 * j + 1)
      place i j d l n e b = let s : 2 * n - i + i ≡ 2 * n = omega arith in
          ap (λ l. (2 * j + 1) * (2 * n - i) + i * (2 * l + 1)) (sym e) ∙ regroup i j d (2 * n - i) ∙ ap (λ t. 2 * i * d + t * (2 * j + 1)) s
        where
          regroup : (i j d t : ℕ) → (2 * j + 1) * t + i * (2 * (j + d) + 1) ≡ 2 * i * d + (t + i) * (2 * j + 1)
          regroup i j d t = omega arith

  pairs_down : (j l : ℕ) → l < j → j < 2 ^ k → Congruent m (pairs j l) (sum_below (2 ^ k) (λ i. pos (x ^ (2 * i * (2 ^ k - (j - l))))))
  unfolding pairs
  pairs_down j l h b' =
      Congruent-sum_below m (2 ^ k) (λ i. pos (x ^ ((2 * j + 1) * (2 * 2 ^ k - i) + i * (2 * l + 1)))) (λ i. pos (x ^ (2 * i * (2 ^ k - (j - l))))) (λ i b.
      Congruent-trans m (Congruent-sym m (power_whole_turns m k x minus_one ((2 * j + 1) * (2 * 2 ^ k - i) + i * (2 * l + 1)) i))
      (Congruent-trans m (Congruent-equal m (ap (λ y. pos (x ^ y)) (place i j (j - l) l (2 ^ k) (2 ^ k - (j - l)) (omega arith) (omega arith) b)))
      (power_whole_turns m k x minus_one (2 * i * (2 ^ k - (j - l))) (2 * j + 1))))
    where
      place : (i j d l n c : ℕ) → l + d ≡ j → c + d ≡ n → i < n → (2 * j + 1) * (2 * n - i) + i * (2 * l + 1) + 2 * n * i ≡ 2 * i * c + 2 * n * (2 * j + 1)
      place i j d l n c e f b = let s : 2 * n - i + i ≡ 2 * n = omega arith in
          ap₂ (λ j' t. (2 * j' + 1) * (2 * n - i) + i * (2 * l + 1) + 2 * t * i) (sym e) (sym f) ∙ regroup i l d c (2 * n - i)
          ∙ ap₂ (λ t j'. 2 * i * c + t * (2 * j' + 1)) s e
        where
          regroup : (i l d c t : ℕ) → (2 * (l + d) + 1) * t + i * (2 * l + 1) + 2 * (c + d) * i ≡ 2 * i * c + (t + i) * (2 * (l + d) + 1)
          regroup i l d c t = omega arith

  pairs-at : (j l : ℕ) → j < 2 ^ k → l < 2 ^ k → Congruent m (pairs j l) (cond (eqb j l) (pos (2 ^ k)) (pos 0))
  pairs-at j l hj hl = ⊎_elim same apart (cases_eq j l)
    where
      same : j ≡ l → Congruent m (pairs j l) (cond (eqb j l) (pos (2 ^ k)) (pos 0))
      same e = Congruent-trans m (pairs_up j l (omega arith)) (Congruent-equal m (
          sum_below_ext (2 ^ k) (λ i. pos (x ^ (2 * i * (l - j)))) (λ i. pos 1)
          (λ i b. ap pos (ap (λ y. x ^ y) (ap (λ d. 2 * i * d) (no_gap e) ∙ null i) ∙ pow-zero x)) ∙ sum_below_ones (2 ^ k)
          ∙ ap (λ t. cond t (pos (2 ^ k)) (pos 0)) (sym (eqb_equal j l e))))
        where
          no_gap : j ≡ l → l - j ≡ 0
          no_gap e = omega arith

          null : (i : ℕ) → 2 * i * 0 ≡ 0
          null i = omega arith

      apart : j ≢ l → Congruent m (pairs j l) (cond (eqb j l) (pos (2 ^ k)) (pos 0))
      apart e = Congruent-trans m (⊎_elim
          (λ (h : j < l). Congruent-trans m (pairs_up j l (omega arith)) (even_powers_vanish (l - j) (omega arith) (omega arith)))
          (λ (h : l ≤ j). Congruent-trans m (pairs_down j l (omega arith) hj) (even_powers_vanish (2 ^ k - (j - l)) (omega arith) (omega arith)))
          (cases_lt j l)) (Congruent-equal m (ap (λ t. cond t (pos (2 ^ k)) (pos 0)) (sym (eqb_apart j l e))))

  -- n times the polynomial whose values at the odd powers are b 0, b 1 and so on
  unfoldable pub from_values : (ℕ → ℤ) → ℕ → ℤ
  from_values b i = sum_below (2 ^ k) (λ j. b j *ℤ pos (x ^ ((2 * j + 1) * (2 * 2 ^ k - i))))

  -- its values are n times those numbers
  pub evaluation-from_values : (b : ℕ → ℤ) (l : ℕ) → l < 2 ^ k → Congruent m (evaluation (2 ^ k) x (2 * l + 1) (from_values b)) (pos (2 ^ k) *ℤ b l)
  unfolding from_values evaluation pairs
  evaluation-from_values b l hl =
      Congruent-trans m (Congruent-equal m (
      sum_below_ext n (λ i. sum_below n (λ j. b j *ℤ pos (x ^ ((2 * j + 1) * (2 * n - i)))) *ℤ pos (x ^ (i * (2 * l + 1))))
      (λ i. sum_below n (λ j. b j *ℤ pos (x ^ ((2 * j + 1) * (2 * n - i) + i * (2 * l + 1))))) (λ i h.
      sym (sum_below_scale_right n (λ j. b j *ℤ pos (x ^ ((2 * j + 1) * (2 * n - i)))) (pos (x ^ (i * (2 * l + 1)))))
      ∙ sum_below_ext n (λ j. (b j *ℤ pos (x ^ ((2 * j + 1) * (2 * n - i)))) *ℤ pos (x ^ (i * (2 * l + 1))))
      (λ j. b j *ℤ pos (x ^ ((2 * j + 1) * (2 * n - i) + i * (2 * l + 1)))) (λ j h.
      int_mul_assoc (b j) (pos (x ^ ((2 * j + 1) * (2 * n - i)))) (pos (x ^ (i * (2 * l + 1))))
      ∙ ap (λ y. b j *ℤ pos y) (sym (pow-add x ((2 * j + 1) * (2 * n - i)) (i * (2 * l + 1))))))
      ∙ sum_below_swap n n (λ i j. b j *ℤ pos (x ^ ((2 * j + 1) * (2 * n - i) + i * (2 * l + 1))))
      ∙ sum_below_ext n (λ j. sum_below n (λ i. b j *ℤ pos (x ^ ((2 * j + 1) * (2 * n - i) + i * (2 * l + 1))))) (λ j. b j *ℤ pairs j l)
      (λ j h. sum_below_scale n (b j) (λ i. pos (x ^ ((2 * j + 1) * (2 * n - i) + i * (2 * l + 1)))))))
      (Congruent-trans m
      (Congruent-sum_below m n (λ j. b j *ℤ pairs j l) (λ j. b j *ℤ cond (eqb j l) (pos n) (pos 0))
      (λ j h. Congruent-mul m (Congruent-refl m (b j)) (pairs-at j l h hl)))
      (Congruent-equal m (
      sum_below_single n l (λ j. b j *ℤ cond (eqb j l) (pos n) (pos 0)) hl (λ j h d. ap (λ t. b j *ℤ cond t (pos n) (pos 0)) (eqb_apart j l d) ∙ none (b j))
      ∙ ap (λ t. b l *ℤ cond t (pos n) (pos 0)) (eqb_same l) ∙ *ℤ_comm (b l) (pos n))))
    where
      n : ℕ
      n = 2 ^ k

      none : (a : ℤ) → a *ℤ pos 0 ≡ pos 0
      none a = omega (arith, ints)
