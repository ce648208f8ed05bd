-- The values of a polynomial value_at_slot the powers of the slots, modulo t.
use Rattle.std.proofs.Common.{ap, arith, div-add-mod', mod-lt, neg_ℤ, pos, pow_pos, subst, suc, sym, ℕ, ℤ, ◌%◌, ◌*ℤ◌, ◌*◌, ◌+◌, ◌-◌, ◌/◌, ◌<◌, ◌^◌, ◌∙◌, ◌≡◌}
use Rattle.std.proofs.lemmas.Nat.{mod-mul-add}
use Rattle.ring_law.specs.Polynomials.{CongruentPolynomials, ring_product, ring_turn}
use Rattle.ring_law.specs.Residues.{Congruent, HasInverse}
use Rattle.ring_law.specs.Transform.{evaluation}
use Rattle.ring_law.proofs.Congruence.{Congruent-equal, Congruent-mul, Congruent-refl, Congruent-sum_below, Congruent-sym, Congruent-trans}
use Rattle.ring_law.proofs.Evaluation.{evaluation_product, evaluation_round, evaluation_scale, evaluation_turn}
use Rattle.ring_law.proofs.Residues.{Congruent-mod}
use Rattle.ring_law.proofs.TransformInverse.{coefficient_from_values, evaluation-from_values, from_values}
use Rattle.ring_law.proofs.WholeNumbers.{int_mul_assoc, int_one_mul}
use Rattle.bfv_model.specs.Slots.{slot_power}
use Rattle.bfv_model.proofs.SlotPowers.{IsOdd, SlotOf, slot_of_power, slot_power_odd, slot_power_once, twice_degree}

-- an odd number modulo 2n
pub odd_remainder : (n h : ℕ) → 0 < n → (2 * h + 1) % (2 * n) ≡ 2 * (h % n) + 1
odd_remainder n h p = ap (λ e. e % (2 * n)) (spread (h / n) (h % n) h n (div-add-mod' h n)) ∙ mod-mul-add (h / n) (2 * n) (2 * (h % n) + 1)
    (let l = mod-lt h p in omega arith)
  where
    spread : (q r h n : ℕ) → q * n + r ≡ h → 2 * h + 1 ≡ q * (2 * n) + (2 * r + 1)
    spread q r h n e = ap (λ h. 2 * h + 1) (sym e) ∙ out q r n
      where
        out : (q r n : ℕ) → 2 * (q * n + r) + 1 ≡ q * (2 * n) + (2 * r + 1)
        out q r n = omega arith

module _ (t x u : ℕ) (minus_one : Congruent t (pos (x ^ (2 ^ suc (suc u)))) (neg_ℤ (pos 1))) where
  n : ℕ
  n = 2 ^ suc (suc u)

  some : 0 < 2 ^ suc (suc u)
  some = pow_pos (suc (suc u))

  -- a value depends on the power modulo 2n alone
  pub evaluation_modulo : (e f : ℕ) (a : ℕ → ℤ) → Congruent (8 * 2 ^ u) (pos e) (pos f)
      → Congruent t (evaluation (2 ^ suc (suc u)) x e a) (evaluation (2 ^ suc (suc u)) x f a)
  evaluation_modulo e f a c = evaluation_round t (suc (suc u)) x e f a minus_one
      (subst (λ m. Congruent m (pos e) (pos f)) (sym (twice_degree u)) c)

  -- ---- in the slots
  abbrev value_at_slot : ℕ → (ℕ → ℤ) → ℤ
  value_at_slot i a = evaluation (2 ^ suc (suc u)) x (slot_power (2 ^ suc (suc u)) i) a

  -- the value of a product in a slot
  pub value_at_slot-ring_product : (i : ℕ) (a b : ℕ → ℤ) → i < 2 ^ suc (suc u)
      → Congruent t (value_at_slot i (ring_product (2 ^ suc (suc u)) a b)) (value_at_slot i a *ℤ value_at_slot i b)
  unfolding IsOdd
  value_at_slot-ring_product i a b l = from (slot_power_odd u i l)
    where
      from : IsOdd (slot_power (2 ^ suc (suc u)) i)
          → Congruent t (value_at_slot i (ring_product (2 ^ suc (suc u)) a b)) (value_at_slot i a *ℤ value_at_slot i b)
      from (h, e) = subst (λ p. Congruent t (evaluation (2 ^ suc (suc u)) x p (ring_product (2 ^ suc (suc u)) a b)) (evaluation (2 ^ suc (suc u)) x p a *ℤ evaluation (2 ^ suc (suc u)) x p b)) (sym e) (evaluation_product t (2 ^ suc (suc u)) x minus_one some h a b)

  -- the value of a turn in a slot is that in another slot
  pub value_at_slot-ring_turn : (g i j : ℕ) (a : ℕ → ℤ) → i < 2 ^ suc (suc u)
      → Congruent (8 * 2 ^ u) (pos (slot_power (2 ^ suc (suc u)) i * g)) (pos (slot_power (2 ^ suc (suc u)) j))
      → Congruent t (value_at_slot i (ring_turn (2 ^ suc (suc u)) g a)) (value_at_slot j a)
  unfolding IsOdd
  value_at_slot-ring_turn g i j a l c = from (slot_power_odd u i l)
    where
      from : IsOdd (slot_power (2 ^ suc (suc u)) i) → Congruent t (value_at_slot i (ring_turn (2 ^ suc (suc u)) g a)) (value_at_slot j a)
      from (h, e) = Congruent-trans t
          (subst (λ p. Congruent t (evaluation (2 ^ suc (suc u)) x p (ring_turn (2 ^ suc (suc u)) g a))
          (evaluation (2 ^ suc (suc u)) x (p * g) a)) (sym e) (evaluation_turn t (2 ^ suc (suc u)) x minus_one some h g a))
          (evaluation_modulo (slot_power (2 ^ suc (suc u)) i * g) (slot_power (2 ^ suc (suc u)) j) a c)

  -- ---- a polynomial is told by its slots
  module _ (v : HasInverse t (2 ^ suc (suc u))) where
    less : (a b : ℤ) → Congruent t (pos (2 ^ suc (suc u)) *ℤ a) (pos (2 ^ suc (suc u)) *ℤ b) → Congruent t a b
    less a b c = Congruent-trans t (Congruent-sym t (one a)) (Congruent-trans t (Congruent-mul t (Congruent-refl t v.inverse) c) (one b))
      where
        one : (a : ℤ) → Congruent t (v.inverse *ℤ (pos (2 ^ suc (suc u)) *ℤ a)) a
        one a = Congruent-trans t (Congruent-equal t (sym (int_mul_assoc v.inverse (pos (2 ^ suc (suc u))) a)))
            (Congruent-trans t (Congruent-mul t v.is_one (Congruent-refl t a)) (Congruent-equal t (int_one_mul a)))

    pub determined_by_slots : (a b : ℕ → ℤ) → ((i : ℕ) → i < 2 ^ suc (suc u) → Congruent t (value_at_slot i a) (value_at_slot i b))
        → CongruentPolynomials t (2 ^ suc (suc u)) a b
    determined_by_slots a b h = record {
      at = λ k l. less (a k) (b k)
          (Congruent-trans t (Congruent-sym t (coefficient_from_values t (suc (suc u)) x minus_one a k l)) (Congruent-trans t
          (Congruent-sum_below t (2 ^ suc (suc u))
          (λ j. evaluation (2 ^ suc (suc u)) x (2 * j + 1) a *ℤ pos (x ^ ((2 * j + 1) * (2 ^ suc (suc u) + 2 ^ suc (suc u) - k))))
          (λ j. evaluation (2 ^ suc (suc u)) x (2 * j + 1) b *ℤ pos (x ^ ((2 * j + 1) * (2 ^ suc (suc u) + 2 ^ suc (suc u) - k))))
          (λ j m. Congruent-mul t (odd j (slot_of_power u j))
          (Congruent-refl t (pos (x ^ ((2 * j + 1) * (2 ^ suc (suc u) + 2 ^ suc (suc u) - k)))))))
          (coefficient_from_values t (suc (suc u)) x minus_one b k l)));
    }
      where
        odd : (j : ℕ) → SlotOf u j
            → Congruent t (evaluation (2 ^ suc (suc u)) x (2 * j + 1) a) (evaluation (2 ^ suc (suc u)) x (2 * j + 1) b)
        odd j s = Congruent-trans t (Congruent-sym t (evaluation_modulo (slot_power (2 ^ suc (suc u)) s.i) (2 * j + 1) a s.is))
            (Congruent-trans t (h s.i s.below) (evaluation_modulo (slot_power (2 ^ suc (suc u)) s.i) (2 * j + 1) b s.is))

    -- ---- and every list of values is that of the slots of a polynomial
    pub polynomial_with_slots : (ℕ → ℤ) → ℕ → ℤ
    polynomial_with_slots w k = v.inverse *ℤ from_values t (suc (suc u)) x minus_one (λ j. w ((slot_of_power u j).i)) k

    pub value_at_slot-polynomial_with_slots : (w : ℕ → ℤ) (i : ℕ) → i < 2 ^ suc (suc u)
        → Congruent t (value_at_slot i (polynomial_with_slots w)) (w i)
    unfolding polynomial_with_slots IsOdd
    value_at_slot-polynomial_with_slots w i l = from (slot_power_odd u i l)
      where
        b : ℕ → ℤ
        b j = w ((slot_of_power u j).i)

        from : IsOdd (slot_power (2 ^ suc (suc u)) i) → Congruent t (value_at_slot i (polynomial_with_slots w)) (w i)
        from (h, e) =
            let j = h % 2 ^ suc (suc u) in
            let here : Congruent (8 * 2 ^ u) (pos (slot_power (2 ^ suc (suc u)) i)) (pos (2 * j + 1)) =
            subst (λ m. Congruent m (pos (slot_power (2 ^ suc (suc u)) i)) (pos (2 * j + 1))) (twice_degree u)
            (Congruent-trans (2 * 2 ^ suc (suc u))
            (Congruent-sym (2 * 2 ^ suc (suc u))
            (Congruent-mod (2 * 2 ^ suc (suc u)) (slot_power (2 ^ suc (suc u)) i) (let p = pow_pos u in omega arith)))
            (Congruent-equal (2 * 2 ^ suc (suc u))
            (ap (λ p. pos (p % (2 * 2 ^ suc (suc u)))) e ∙ ap pos (odd_remainder (2 ^ suc (suc u)) h some)))) in
            let s = slot_of_power u j in
            let one : s.i ≡ i = slot_power_once u s.i i s.below l (Congruent-trans (8 * 2 ^ u) s.is (Congruent-sym (8 * 2 ^ u) here)) in
            Congruent-trans t (evaluation_modulo (slot_power (2 ^ suc (suc u)) i) (2 * j + 1) (polynomial_with_slots w) here)
            (Congruent-trans t (Congruent-equal t (evaluation_scale (2 ^ suc (suc u)) x (2 * j + 1) v.inverse (from_values t (suc (suc u)) x minus_one b)))
            (Congruent-trans t (Congruent-mul t (Congruent-refl t v.inverse) (evaluation-from_values t (suc (suc u)) x minus_one b j (mod-lt h some)))
            (Congruent-trans t (Congruent-equal t (sym (int_mul_assoc v.inverse (pos (2 ^ suc (suc u))) (b j))))
            (Congruent-trans t (Congruent-mul t v.is_one (Congruent-refl t (b j)))
            (Congruent-equal t (int_one_mul (b j) ∙ ap w one))))))
