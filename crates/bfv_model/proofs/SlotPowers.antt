-- The powers of the root at which the slots stand, modulo 2n.
use Rattle.std.proofs.Common.{ap, ap₂, arith, le-ltb, lt-ltb, nat_lt, neg_ℤ, pos, pow-suc, pow_pos, refl, subst, suc, sym, zero, ℕ, ℤ, ⊎_elim, ◌*◌, ◌+◌, ◌-◌, ◌/◌, ◌<◌, ◌^◌, ◌∙◌, ◌≡◌, ◌≤◌}
use Rattle.std.proofs.Math.IntN.{neg_ℤ-neg_ℤ}
use Rattle.std.proofs.lemmas.Bool.{cases_lt, cond-false, cond-true}
use Rattle.std.proofs.lemmas.Int.{ints}
use Rattle.ring_law.specs.Residues.{Congruent}
use Rattle.ring_law.proofs.Congruence.{Congruent-equal, Congruent-mul, Congruent-neg, Congruent-refl, Congruent-sym, Congruent-trans}
use Rattle.ring_law.proofs.PowersOfThree.{IsSignedPowerOfThree, IsSignedPowerOfThree-odd, power_of_three_once, power_of_three_sign}
use Rattle.ring_law.proofs.RingSolver.{identity1, literal, minus, ◌⊗◌}
use Rattle.bfv_model.specs.Slots.{slot_power}

-- half of the degree, and twice of it
pub half_degree : (u : ℕ) → 2 ^ suc (suc u) / 2 ≡ 2 * 2 ^ u
half_degree u = omega arith

pub twice_degree : (u : ℕ) → 2 * 2 ^ suc (suc u) ≡ 8 * 2 ^ u
twice_degree u = omega arith

-- the powers in the first and in the second half
pub slot_power_first : (u i : ℕ) → i < 2 * 2 ^ u → slot_power (2 ^ suc (suc u)) i ≡ 3 ^ i
unfolding slot_power
slot_power_first u i l = cond-true (nat_lt i (2 ^ suc (suc u) / 2)) (3 ^ i) ((2 * 2 ^ suc (suc u) - 1) * 3 ^ (i - 2 ^ suc (suc u) / 2))
    (lt-ltb i (2 ^ suc (suc u) / 2) (omega arith))

pub slot_power_second : (u i : ℕ) → slot_power (2 ^ suc (suc u)) (2 * 2 ^ u + i) ≡ (2 * 2 ^ suc (suc u) - 1) * 3 ^ i
unfolding slot_power
slot_power_second u i =
    cond-false (nat_lt (2 * 2 ^ u + i) (2 ^ suc (suc u) / 2)) (3 ^ (2 * 2 ^ u + i))
    ((2 * 2 ^ suc (suc u) - 1) * 3 ^ (2 * 2 ^ u + i - 2 ^ suc (suc u) / 2)) (le-ltb (2 * 2 ^ u + i) (2 ^ suc (suc u) / 2) (omega arith))
    ∙ ap (λ j. (2 * 2 ^ suc (suc u) - 1) * 3 ^ j) (rest u i)
  where
    rest : (u i : ℕ) → 2 * 2 ^ u + i - 2 ^ suc (suc u) / 2 ≡ i
    rest u i = omega arith

-- ---- they are odd
unfoldable pub IsOdd : ℕ → Type 0
IsOdd e = (h : ℕ) × (e ≡ 2 * h + 1)

three_odd : (i : ℕ) → IsOdd (3 ^ i)
unfolding IsOdd
three_odd zero = (0, refl)
three_odd (suc i) = more (three_odd i)
  where
    more : (h : ℕ) × (3 ^ i ≡ 2 * h + 1) → (h : ℕ) × (3 ^ suc i ≡ 2 * h + 1)
    more (h, e) = (3 * h + 1, pow-suc 3 i ∙ ap (λ y. y * 3) e ∙ ring_product h)
      where
        ring_product : (h : ℕ) → (2 * h + 1) * 3 ≡ 2 * (3 * h + 1) + 1
        ring_product h = omega arith

odd_times : (a b : ℕ) → IsOdd a → IsOdd b → IsOdd (a * b)
unfolding IsOdd
odd_times a b (h, e) (k, f) = (2 * h * k + h + k, ap₂ ◌*◌ e f ∙ out h k)
  where
    out : (h k : ℕ) → (2 * h + 1) * (2 * k + 1) ≡ 2 * (2 * h * k + h + k) + 1
    out h k = omega arith

minus_odd : (n : ℕ) → 0 < n → IsOdd (2 * n - 1)
unfolding IsOdd
minus_odd n l = (n - 1, omega arith)

-- the row and the place in it
pub data InHalf (u : ℕ) : ℕ → Type 0 where
  in_first : (i : ℕ) → i < 2 * 2 ^ u → InHalf u i
  in_second : (i : ℕ) → i < 2 * 2 ^ u → InHalf u (2 * 2 ^ u + i)

-- each slot is in one of them
pub half_of_slot : (u i : ℕ) → i < 2 ^ suc (suc u) → InHalf u i
half_of_slot u i l = ⊎_elim (λ (a : i < 2 * 2 ^ u). in_first i a)
    (λ (a : 2 * 2 ^ u ≤ i). subst (InHalf u) (back u i a) (in_second (i - 2 * 2 ^ u) (omega arith))) (cases_lt i (2 * 2 ^ u))
  where
    back : (u i : ℕ) → 2 * 2 ^ u ≤ i → 2 * 2 ^ u + (i - 2 * 2 ^ u) ≡ i
    back u i a = omega arith

-- the power of a slot is odd
pub slot_power_odd : (u i : ℕ) → i < 2 ^ suc (suc u) → IsOdd (slot_power (2 ^ suc (suc u)) i)
slot_power_odd u i l = by i (half_of_slot u i l)
  where
    by : (i : ℕ) → InHalf u i → IsOdd (slot_power (2 ^ suc (suc u)) i)
    by _ (in_first i a) = subst IsOdd (sym (slot_power_first u i a)) (three_odd i)
    by _ (in_second j a) = subst IsOdd (sym (slot_power_second u j))
        (odd_times (2 * 2 ^ suc (suc u) - 1) (3 ^ j) (minus_odd (2 ^ suc (suc u)) (let p = pow_pos u in omega arith)) (three_odd j))

-- ---- modulo 2n
pub modulus_less_one : (m : ℕ) → 0 < m → Congruent m (pos (m - 1)) (neg_ℤ (pos 1))
modulus_less_one (suc m) l = record { quotient = pos 1; equation = omega (arith, ints) }
modulus_less_one zero l = absurd (omega arith)

-- the powers modulo 2n
pub slot_power_second_congruent : (u i : ℕ)
    → Congruent (8 * 2 ^ u) (pos (slot_power (2 ^ suc (suc u)) (2 * 2 ^ u + i))) (neg_ℤ (pos (3 ^ i)))
slot_power_second_congruent u i =
    Congruent-trans m (Congruent-equal m (ap pos (slot_power_second u i ∙ ap (λ d. (d - 1) * 3 ^ i) (twice_degree u))))
    (Congruent-trans m (Congruent-mul m (modulus_less_one m (let p = pow_pos u in omega arith)) (Congruent-refl m (pos (3 ^ i))))
    (Congruent-equal m (identity1 (λ x. minus (literal (pos 1)) ⊗ x) (λ x. minus x) refl (pos (3 ^ i)))))
  where
    m : ℕ
    m = 8 * 2 ^ u

pub slot_power_first_congruent : (u i : ℕ) → i < 2 * 2 ^ u → Congruent (8 * 2 ^ u) (pos (slot_power (2 ^ suc (suc u)) i)) (pos (3 ^ i))
slot_power_first_congruent u i l = Congruent-equal (8 * 2 ^ u) (ap pos (slot_power_first u i l))

-- each odd number is the power of a slot, modulo 2n
pub record SlotOf (u j : ℕ) : Type 0 where
  pub i : ℕ
  pub below : i < 2 ^ suc (suc u)
  pub is : Congruent (8 * 2 ^ u) (pos (slot_power (2 ^ suc (suc u)) i)) (pos (2 * j + 1))

-- the slot of an odd power
pub slot_of_power : (u j : ℕ) → SlotOf u j
unfolding IsSignedPowerOfThree
slot_of_power u j = from (IsSignedPowerOfThree-odd u j)
  where
    from : IsSignedPowerOfThree u (pos (2 * j + 1)) → SlotOf u j
    from (i, l, c) = ⊎_elim
        (λ (p : Congruent (8 * 2 ^ u) (pos (2 * j + 1)) (pos (3 ^ i))). record {
          i = i;
          below = omega arith;
          is = Congruent-trans
              (8 * 2 ^ u) (slot_power_first_congruent u i l) (Congruent-sym (8 * 2 ^ u) p);
        })
        (λ (p : Congruent (8 * 2 ^ u) (pos (2 * j + 1))
        (neg_ℤ (pos (3 ^ i)))). record {
          i = 2 * 2 ^ u + i;
          below = omega arith;
          is = Congruent-trans (8 * 2 ^ u)
              (slot_power_second_congruent u i) (Congruent-sym (8 * 2 ^ u) p);
        })
        c

-- and no two slots stand at one
pub slot_power_once : (u i j : ℕ) → i < 2 ^ suc (suc u) → j < 2 ^ suc (suc u)
    → Congruent (8 * 2 ^ u) (pos (slot_power (2 ^ suc (suc u)) i)) (pos (slot_power (2 ^ suc (suc u)) j)) → i ≡ j
slot_power_once u i j li lj c = by i j (half_of_slot u i li) (half_of_slot u j lj) c
  where
    m : ℕ
    m = 8 * 2 ^ u

    by : (i j : ℕ) → InHalf u i → InHalf u j
        → Congruent (8 * 2 ^ u) (pos (slot_power (2 ^ suc (suc u)) i)) (pos (slot_power (2 ^ suc (suc u)) j)) → i ≡ j
    by _ _ (in_first i a) (in_first j b) c = power_of_three_once u i j a b
        (Congruent-trans m (Congruent-sym m (slot_power_first_congruent u i a)) (Congruent-trans m c (slot_power_first_congruent u j b)))
    by _ _ (in_first i a) (in_second k b) c = absurd
        (power_of_three_sign u i k
        (Congruent-trans m (Congruent-sym m (slot_power_first_congruent u i a)) (Congruent-trans m c (slot_power_second_congruent u k))))
    by _ _ (in_second l a) (in_first j b) c = absurd
        (power_of_three_sign u j l
        (Congruent-trans m (Congruent-sym m (slot_power_first_congruent u j b))
        (Congruent-trans m (Congruent-sym m c) (slot_power_second_congruent u l))))
    by _ _ (in_second l a) (in_second k b) c = ap (λ x. 2 * 2 ^ u + x)
        (power_of_three_once u l k a b
        (flip (pos (3 ^ l)) (pos (3 ^ k))
        (Congruent-neg m (Congruent-trans m (Congruent-sym m (slot_power_second_congruent u l)) (Congruent-trans m c (slot_power_second_congruent u k))))))
      where
        flip : (x y : ℤ) → Congruent (8 * 2 ^ u) (neg_ℤ (neg_ℤ x)) (neg_ℤ (neg_ℤ y)) → Congruent (8 * 2 ^ u) x y
        flip x y c = subst (λ z. Congruent (8 * 2 ^ u) x z) (neg_ℤ-neg_ℤ y)
            (subst (λ z. Congruent (8 * 2 ^ u) z (neg_ℤ (neg_ℤ y))) (neg_ℤ-neg_ℤ x) c)
