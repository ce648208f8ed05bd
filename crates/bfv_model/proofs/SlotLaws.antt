-- The laws of the slots, as numbers below t.
use Rattle.std.proofs.Common.{ap, arith, mod-eq_of_lt, mod-lt, neg_ℤ, pos, pow-add, pow_pos, refl, subst, suc, sym, ℕ, ℤ, ◌%◌, ◌*◌, ◌+◌, ◌-◌, ◌<◌, ◌^◌, ◌∙◌, ◌≡◌}
use Rattle.ring_law.specs.Polynomials.{CongruentPolynomials, ring_product, ring_sum, ring_turn}
use Rattle.ring_law.specs.Residues.{Congruent, HasInverse, residue}
use Rattle.ring_law.specs.Rows.{natural_polynomial}
use Rattle.ring_law.specs.Transform.{evaluation}
use Rattle.ring_law.proofs.Congruence.{Congruent-add, Congruent-equal, Congruent-mul, Congruent-neg, Congruent-sym, Congruent-trans}
use Rattle.ring_law.proofs.Evaluation.{evaluation_add, evaluation_congruent}
use Rattle.ring_law.proofs.Inverses.{HasInverse-odd, HasInverse-swap}
use Rattle.ring_law.proofs.PowersOfThree.{power_of_three_round}
use Rattle.ring_law.proofs.Residues.{Congruent-mod, Congruent-residue, residue_equal, residue_lt, residue_unique}
use Rattle.ring_law.proofs.RingSolver.{identity1, literal, minus, ◌⊗◌}
use Rattle.ring_law.proofs.WholeNumbers.{int_neg_mul}
use Rattle.bfv_model.specs.Slots.{slot, slot_power}
use Rattle.bfv_model.proofs.SlotEvaluations.{value_at_slot-polynomial_with_slots, value_at_slot-ring_product, value_at_slot-ring_turn, determined_by_slots, polynomial_with_slots}
use Rattle.bfv_model.proofs.SlotPowers.{modulus_less_one, slot_power_first_congruent, slot_power_second_congruent, twice_degree}

module _ (t x u h : ℕ) (odd : t ≡ 2 * h + 1) (minus_one : Congruent t (pos (x ^ (2 ^ suc (suc u)))) (neg_ℤ (pos 1))) where
  some : 0 < t
  some = omega arith

  slot_is : (m : ℕ → ℤ) (i : ℕ)
      → Congruent t (pos (slot (2 ^ suc (suc u)) t x m i)) (evaluation (2 ^ suc (suc u)) x (slot_power (2 ^ suc (suc u)) i) m)
  unfolding slot
  slot_is m i = Congruent-sym t (Congruent-residue t (evaluation (2 ^ suc (suc u)) x (slot_power (2 ^ suc (suc u)) i) m) some)

  slot_from : (m : ℕ → ℤ) (i r : ℕ) → r < t → Congruent t (pos r) (evaluation (2 ^ suc (suc u)) x (slot_power (2 ^ suc (suc u)) i) m)
      → slot (2 ^ suc (suc u)) t x m i ≡ r
  unfolding slot
  slot_from m i r l c = sym (residue_unique t (evaluation (2 ^ suc (suc u)) x (slot_power (2 ^ suc (suc u)) i) m) r l c)

  -- the slots count modulo t alone
  pub slot_congruent : (a b : ℕ → ℤ) (i : ℕ) → CongruentPolynomials t (2 ^ suc (suc u)) a b
      → slot (2 ^ suc (suc u)) t x a i ≡ slot (2 ^ suc (suc u)) t x b i
  unfolding slot
  slot_congruent a b i e = residue_equal t (evaluation (2 ^ suc (suc u)) x (slot_power (2 ^ suc (suc u)) i) a)
      (evaluation (2 ^ suc (suc u)) x (slot_power (2 ^ suc (suc u)) i) b) some
      (evaluation_congruent t (2 ^ suc (suc u)) x (slot_power (2 ^ suc (suc u)) i) a b e.at)

  -- the slots of a sum and of a product
  pub slot-ring_sum : (a b : ℕ → ℤ) (i : ℕ)
      → slot (2 ^ suc (suc u)) t x (ring_sum a b) i ≡ (slot (2 ^ suc (suc u)) t x a i + slot (2 ^ suc (suc u)) t x b i) % t
  slot-ring_sum a b i = slot_from (ring_sum a b) i ((slot (2 ^ suc (suc u)) t x a i + slot (2 ^ suc (suc u)) t x b i) % t)
      (mod-lt (slot (2 ^ suc (suc u)) t x a i + slot (2 ^ suc (suc u)) t x b i) some)
      (Congruent-trans t (Congruent-mod t (slot (2 ^ suc (suc u)) t x a i + slot (2 ^ suc (suc u)) t x b i) some)
      (Congruent-trans t (Congruent-add t (slot_is a i) (slot_is b i))
      (Congruent-equal t (sym (evaluation_add (2 ^ suc (suc u)) x (slot_power (2 ^ suc (suc u)) i) a b)))))

  pub slot-ring_product : (a b : ℕ → ℤ) (i : ℕ) → i < 2 ^ suc (suc u)
      → slot (2 ^ suc (suc u)) t x (ring_product (2 ^ suc (suc u)) a b) i ≡
      (slot (2 ^ suc (suc u)) t x a i * slot (2 ^ suc (suc u)) t x b i) % t
  slot-ring_product a b i l = slot_from (ring_product (2 ^ suc (suc u)) a b) i
      ((slot (2 ^ suc (suc u)) t x a i * slot (2 ^ suc (suc u)) t x b i) % t)
      (mod-lt (slot (2 ^ suc (suc u)) t x a i * slot (2 ^ suc (suc u)) t x b i) some)
      (Congruent-trans t (Congruent-mod t (slot (2 ^ suc (suc u)) t x a i * slot (2 ^ suc (suc u)) t x b i) some)
      (Congruent-trans t (Congruent-mul t (slot_is a i) (slot_is b i))
      (Congruent-sym t (value_at_slot-ring_product t x u minus_one i a b l))))

  turned_slot : (g i j : ℕ) (a : ℕ → ℤ) → i < 2 ^ suc (suc u)
      → Congruent (8 * 2 ^ u) (pos (slot_power (2 ^ suc (suc u)) i * g)) (pos (slot_power (2 ^ suc (suc u)) j))
      → slot (2 ^ suc (suc u)) t x (ring_turn (2 ^ suc (suc u)) g a) i ≡ slot (2 ^ suc (suc u)) t x a j
  unfolding slot
  turned_slot g i j a l c = residue_equal t
      (evaluation (2 ^ suc (suc u)) x (slot_power (2 ^ suc (suc u)) i) (ring_turn (2 ^ suc (suc u)) g a))
      (evaluation (2 ^ suc (suc u)) x (slot_power (2 ^ suc (suc u)) j) a) some (value_at_slot-ring_turn t x u minus_one g i j a l c)

  element : (k : ℕ) → Congruent (8 * 2 ^ u) (pos (3 ^ k % (2 * 2 ^ suc (suc u)))) (pos (3 ^ k))
  element k = subst (λ m. Congruent m (pos (3 ^ k % (2 * 2 ^ suc (suc u)))) (pos (3 ^ k))) (twice_degree u)
      (Congruent-mod (2 * 2 ^ suc (suc u)) (3 ^ k) (let p = pow_pos u in omega arith))

  -- a turn by the element 3^k: both rows go left by k
  pub slot-turn_first : (k i : ℕ) (a : ℕ → ℤ) → k < 2 * 2 ^ u → i < 2 * 2 ^ u
      → slot (2 ^ suc (suc u)) t x (ring_turn (2 ^ suc (suc u)) (3 ^ k % (2 * 2 ^ suc (suc u))) a) i ≡ slot (2 ^ suc (suc u)) t x a
      ((i + k) % (2 * 2 ^ u))
  slot-turn_first k i a lk li = turned_slot (3 ^ k % (2 * 2 ^ suc (suc u))) i ((i + k) % (2 * 2 ^ u)) a (omega arith)
      (Congruent-trans m (Congruent-mul m (slot_power_first_congruent u i li) (element k))
      (Congruent-trans m (Congruent-equal m (ap pos (sym (pow-add 3 i k))))
      (Congruent-trans m (power_of_three_round u i k li lk)
      (Congruent-sym m (slot_power_first_congruent u ((i + k) % (2 * 2 ^ u)) (mod-lt (i + k) (let p = pow_pos u in omega arith)))))))
    where
      m : ℕ
      m = 8 * 2 ^ u

  pub slot-turn_second : (k i : ℕ) (a : ℕ → ℤ) → k < 2 * 2 ^ u → i < 2 * 2 ^ u
      → slot (2 ^ suc (suc u)) t x (ring_turn (2 ^ suc (suc u)) (3 ^ k % (2 * 2 ^ suc (suc u))) a) (2 * 2 ^ u + i) ≡ slot
      (2 ^ suc (suc u)) t x a (2 * 2 ^ u + (i + k) % (2 * 2 ^ u))
  slot-turn_second k i a lk li = turned_slot (3 ^ k % (2 * 2 ^ suc (suc u))) (2 * 2 ^ u + i) (2 * 2 ^ u + (i + k) % (2 * 2 ^ u)) a
      (omega arith)
      (Congruent-trans m (Congruent-mul m (slot_power_second_congruent u i) (element k))
      (Congruent-trans m (Congruent-equal m (int_neg_mul (pos (3 ^ i)) (pos (3 ^ k)) ∙ ap (λ y. neg_ℤ (pos y)) (sym (pow-add 3 i k))))
      (Congruent-trans m (Congruent-neg m (power_of_three_round u i k li lk))
      (Congruent-sym m (slot_power_second_congruent u ((i + k) % (2 * 2 ^ u)))))))
    where
      m : ℕ
      m = 8 * 2 ^ u

  back : Congruent (8 * 2 ^ u) (pos (2 * 2 ^ suc (suc u) - 1)) (neg_ℤ (pos 1))
  back = subst (λ m. Congruent m (pos (2 * 2 ^ suc (suc u) - 1)) (neg_ℤ (pos 1))) (twice_degree u)
      (modulus_less_one (2 * 2 ^ suc (suc u)) (let p = pow_pos u in omega arith))

  -- the swap
  pub slot-swap_first : (i : ℕ) (a : ℕ → ℤ) → i < 2 * 2 ^ u
      → slot (2 ^ suc (suc u)) t x (ring_turn (2 ^ suc (suc u)) (2 * 2 ^ suc (suc u) - 1) a) i ≡ slot (2 ^ suc (suc u)) t x a
      (2 * 2 ^ u + i)
  slot-swap_first i a l = turned_slot (2 * 2 ^ suc (suc u) - 1) i (2 * 2 ^ u + i) a (omega arith)
      (Congruent-trans m (Congruent-mul m (slot_power_first_congruent u i l) back)
      (Congruent-trans m (Congruent-equal m (identity1 (λ x. x ⊗ minus (literal (pos 1))) (λ x. minus x) refl (pos (3 ^ i))))
      (Congruent-sym m (slot_power_second_congruent u i))))
    where
      m : ℕ
      m = 8 * 2 ^ u

  pub slot-swap_second : (i : ℕ) (a : ℕ → ℤ) → i < 2 * 2 ^ u
      → slot (2 ^ suc (suc u)) t x (ring_turn (2 ^ suc (suc u)) (2 * 2 ^ suc (suc u) - 1) a) (2 * 2 ^ u + i) ≡ slot
      (2 ^ suc (suc u)) t x a i
  slot-swap_second i a l = turned_slot (2 * 2 ^ suc (suc u) - 1) (2 * 2 ^ u + i) i a (omega arith)
      (Congruent-trans m (Congruent-mul m (slot_power_second_congruent u i) back)
      (Congruent-trans m (Congruent-equal m (identity1 (λ x. minus x ⊗ minus (literal (pos 1))) (λ x. x) refl (pos (3 ^ i))))
      (Congruent-sym m (slot_power_first_congruent u i l))))
    where
      m : ℕ
      m = 8 * 2 ^ u

  -- ---- every list of values is that of the slots of one plaintext
  inverse : HasInverse t (2 ^ suc (suc u))
  inverse = subst (λ t. HasInverse t (2 ^ suc (suc u))) (sym odd)
      (HasInverse-swap (2 ^ suc (suc u)) (2 * h + 1) (HasInverse-odd h (suc (suc u))))

  -- the plaintext with the slots w
  pub plaintext_with : (ℕ → ℕ) → ℕ → ℕ
  plaintext_with w k = residue t (polynomial_with_slots t x u minus_one inverse (natural_polynomial w) k)

  pub plaintext_with_lt : (w : ℕ → ℕ) (k : ℕ) → plaintext_with w k < t
  unfolding plaintext_with
  plaintext_with_lt w k = residue_lt t (polynomial_with_slots t x u minus_one inverse (natural_polynomial w) k) some

  -- has these slots
  pub slot-plaintext_with : (w : ℕ → ℕ) (i : ℕ) → i < 2 ^ suc (suc u) → w i < t
      → slot (2 ^ suc (suc u)) t x (natural_polynomial (plaintext_with w)) i ≡ w i
  unfolding plaintext_with
  slot-plaintext_with w i l small =
      slot_congruent (natural_polynomial (plaintext_with w)) (polynomial_with_slots t x u minus_one inverse (natural_polynomial w)) i
      (record {
        at = λ k _. Congruent-sym t
            (Congruent-residue t (polynomial_with_slots t x u minus_one inverse (natural_polynomial w) k) some);
      })
      ∙ slot_from (polynomial_with_slots t x u minus_one inverse (natural_polynomial w)) i (w i) small
      (Congruent-sym t (value_at_slot-polynomial_with_slots t x u minus_one inverse (natural_polynomial w) i l))

  -- plaintexts with equal slots are equal
  pub plaintext_once : (m v : ℕ → ℕ) → ((k : ℕ) → k < 2 ^ suc (suc u) → m k < t) → ((k : ℕ) → k < 2 ^ suc (suc u) → v k < t)
      → ((i : ℕ) → i < 2 ^ suc (suc u)
      → slot (2 ^ suc (suc u)) t x (natural_polynomial m) i ≡ slot (2 ^ suc (suc u)) t x (natural_polynomial v) i) → (k : ℕ)
      → k < 2 ^ suc (suc u) → m k ≡ v k
  plaintext_once m v small_m small_v same k l =
      sym (mod-eq_of_lt (small_m k l))
      ∙ residue_equal t (pos (m k)) (pos (v k)) some
      ((determined_by_slots t x u minus_one inverse (natural_polynomial m) (natural_polynomial v) (λ i b.
      Congruent-trans t (Congruent-sym t (slot_is (natural_polynomial m) i))
      (Congruent-trans t (Congruent-equal t (ap pos (same i b))) (slot_is (natural_polynomial v) i)))).at k l)
      ∙ mod-eq_of_lt (small_v k l)
