-- The slots are the entries of the transform in another order.
use Rattle.std.proofs.Common.{ap, arith, mod-eq_of_lt, mod-lt, neg_ℤ, pos, pow-suc, pow_pos, subst, suc, sym, ℕ, ℤ, ◌%◌, ◌*ℤ◌, ◌*◌, ◌+ℤ◌, ◌+◌, ◌-◌, ◌/◌, ◌<◌, ◌^◌, ◌∙◌, ◌≡◌, ◌≤◌}
use Rattle.std.proofs.lemmas.Int.{ints}
use Rattle.ring_law.specs.Residues.{Congruent, residue}
use Rattle.ring_law.specs.Transform.{bit_reversal, evaluation, transform_entry}
use Rattle.ring_law.proofs.BitReversal.{bit_reversal_lt, bit_reversal_twice}
use Rattle.ring_law.proofs.Congruence.{Congruent-equal, Congruent-mul, Congruent-neg, Congruent-refl, Congruent-sym, Congruent-trans}
use Rattle.ring_law.proofs.Residues.{Congruent-mod, residue_equal}
use Rattle.bfv_model.specs.Slots.{slot, slot_place, slot_power}
use Rattle.bfv_model.proofs.SlotEvaluations.{evaluation_modulo, odd_remainder}
use Rattle.bfv_model.proofs.SlotPowers.{IsOdd, SlotOf, slot_of_power, slot_power_first, slot_power_odd, slot_power_once, slot_power_second_congruent, twice_degree}

-- the odd power below 2n at which a slot stands is 2h + 1
pub record OddPower (u i : ℕ) : Type 0 where
  pub h : ℕ
  pub below : h < 2 ^ suc (suc u)
  pub is : slot_power (2 ^ suc (suc u)) i % (2 * 2 ^ suc (suc u)) ≡ 2 * h + 1

-- each slot stands at one
pub odd_power_of_slot : (u i : ℕ) → i < 2 ^ suc (suc u) → OddPower u i
unfolding IsOdd
odd_power_of_slot u i l = from (slot_power_odd u i l)
  where
    from : IsOdd (slot_power (2 ^ suc (suc u)) i) → OddPower u i
    from (h, e) = record {
      h = h % 2 ^ suc (suc u);
      below = mod-lt h (pow_pos (suc (suc u)));
      is = ap (λ p. p % (2 * 2 ^ suc (suc u))) e
          ∙ odd_remainder (2 ^ suc (suc u)) h (pow_pos (suc (suc u)));
    }

slot_place_is : (u i : ℕ) → (s : OddPower u i) → slot_place (suc (suc u)) i ≡ bit_reversal (suc (suc u)) s.h
unfolding slot_place
slot_place_is u i s = ap (λ p. bit_reversal (suc (suc u)) (p / 2)) s.is ∙ ap (bit_reversal (suc (suc u))) (out s.h)
  where
    out : (h : ℕ) → (2 * h + 1) / 2 ≡ h
    out h = omega arith

pub slot_place_lt : (u i : ℕ) → slot_place (suc (suc u)) i < 2 ^ suc (suc u)
unfolding slot_place
slot_place_lt u i = bit_reversal_lt (suc (suc u)) (slot_power (2 ^ suc (suc u)) i % (2 * 2 ^ suc (suc u)) / 2)

odd_power_congruent : (u i : ℕ) (s : OddPower u i) → Congruent (8 * 2 ^ u) (pos (slot_power (2 ^ suc (suc u)) i)) (pos (2 * s.h + 1))
odd_power_congruent u i s = subst (λ m. Congruent m (pos (slot_power (2 ^ suc (suc u)) i)) (pos (2 * s.h + 1))) (twice_degree u)
    (Congruent-trans (2 * 2 ^ suc (suc u))
    (Congruent-sym (2 * 2 ^ suc (suc u))
    (Congruent-mod (2 * 2 ^ suc (suc u)) (slot_power (2 ^ suc (suc u)) i) (let p = pow_pos u in omega arith)))
    (Congruent-equal (2 * 2 ^ suc (suc u)) (ap pos s.is)))

-- no two slots are at one place
pub slot_place_once : (u i j : ℕ) → i < 2 ^ suc (suc u) → j < 2 ^ suc (suc u) → slot_place (suc (suc u)) i ≡ slot_place (suc (suc u)) j
    → i ≡ j
slot_place_once u i j li lj e = from (odd_power_of_slot u i li) (odd_power_of_slot u j lj)
  where
    from : OddPower u i → OddPower u j → i ≡ j
    from s t =
        let k : s.h ≡ t.h = sym (bit_reversal_twice (suc (suc u)) s.h s.below) ∙ ap (bit_reversal (suc (suc u)))
        (sym (slot_place_is u i s) ∙ e ∙ slot_place_is u j t) ∙ bit_reversal_twice (suc (suc u)) t.h t.below in
        slot_power_once u i j li lj
        (Congruent-trans (8 * 2 ^ u) (odd_power_congruent u i s)
        (Congruent-trans (8 * 2 ^ u) (Congruent-equal (8 * 2 ^ u) (ap (λ h. pos (2 * h + 1)) k))
        (Congruent-sym (8 * 2 ^ u) (odd_power_congruent u j t))))

-- each entry is that of a slot
pub slot_place_reached : (u j : ℕ) → j < 2 ^ suc (suc u) → (i : ℕ) × (i < 2 ^ suc (suc u)) × (slot_place (suc (suc u)) i ≡ j)
slot_place_reached u j l = from (slot_of_power u (bit_reversal (suc (suc u)) j))
  where
    from : SlotOf u (bit_reversal (suc (suc u)) j) → (i : ℕ) × (i < 2 ^ suc (suc u)) × (slot_place (suc (suc u)) i ≡ j)
    from s = (s.i, s.below, by (odd_power_of_slot u s.i s.below))
      where
        by : OddPower u s.i → slot_place (suc (suc u)) s.i ≡ j
        by t = slot_place_is u s.i t ∙ ap (bit_reversal (suc (suc u)))
            (one t.h (bit_reversal (suc (suc u)) j) t.below (bit_reversal_lt (suc (suc u)) j)
            (Congruent-trans (8 * 2 ^ u) (Congruent-sym (8 * 2 ^ u) (odd_power_congruent u s.i t)) s.is)) ∙ bit_reversal_twice
            (suc (suc u)) j l
          where
            one : (a b : ℕ) → a < 2 ^ suc (suc u) → b < 2 ^ suc (suc u) → Congruent (8 * 2 ^ u) (pos (2 * a + 1)) (pos (2 * b + 1)) → a ≡ b
            one a b p q c =
                let e : (2 * a + 1) % (8 * 2 ^ u) ≡ (2 * b + 1) % (8 * 2 ^ u) = residue_equal (8 * 2 ^ u) (pos (2 * a + 1))
                (pos (2 * b + 1)) (omega arith) c in
                let f : (2 * a + 1) % (8 * 2 ^ u) ≡ 2 * a + 1 = mod-eq_of_lt (omega arith) in
                let g : (2 * b + 1) % (8 * 2 ^ u) ≡ 2 * b + 1 = mod-eq_of_lt (omega arith) in
                halve (sym f ∙ e ∙ g)
              where
                halve : 2 * a + 1 ≡ 2 * b + 1 → a ≡ b
                halve e = omega arith

-- a slot's value is that entry
pub slot-transform_entry : (t x u : ℕ) → 0 < t → Congruent t (pos (x ^ (2 ^ suc (suc u)))) (neg_ℤ (pos 1)) → (m : ℕ → ℤ) (i : ℕ)
    → i < 2 ^ suc (suc u) → slot (2 ^ suc (suc u)) t x m i ≡ transform_entry t (suc (suc u)) x m (slot_place (suc (suc u)) i)
unfolding slot
slot-transform_entry t x u pos_t minus_one m i l = from (odd_power_of_slot u i l)
  where
    from : OddPower u i → residue t (evaluation (2 ^ suc (suc u)) x (slot_power (2 ^ suc (suc u)) i) m) ≡ residue t (evaluation (2 ^ suc (suc u)) x (2 * bit_reversal (suc (suc u)) (slot_place (suc (suc u)) i) + 1) m)
    from s = residue_equal t (evaluation (2 ^ suc (suc u)) x (slot_power (2 ^ suc (suc u)) i) m)
        (evaluation (2 ^ suc (suc u)) x (2 * bit_reversal (suc (suc u)) (slot_place (suc (suc u)) i) + 1) m) pos_t
        (Congruent-trans t (evaluation_modulo t x u minus_one (slot_power (2 ^ suc (suc u)) i) (2 * s.h + 1) m (odd_power_congruent u i s))
        (Congruent-equal t (ap (λ h. evaluation (2 ^ suc (suc u)) x (2 * h + 1) m) (sym (ap (bit_reversal (suc (suc u))) (slot_place_is u i s) ∙ bit_reversal_twice (suc (suc u)) s.h s.below)))))

-- ---- how a loop finds the powers: each is 3 times the one before, and that of the second row is its negative
pub slot_power_at_zero : (u : ℕ) → slot_power (2 ^ suc (suc u)) 0 % (2 * 2 ^ suc (suc u)) ≡ 1
slot_power_at_zero u = ap (λ p. p % (2 * 2 ^ suc (suc u))) (slot_power_first u 0 (let p = pow_pos u in omega arith)) ∙ mod-eq_of_lt
    (let p = pow_pos u in omega arith)

-- the power of the next slot is 3 times this one
pub slot_power_next : (u i : ℕ) → i + 1 < 2 * 2 ^ u
    → slot_power (2 ^ suc (suc u)) (i + 1) % (2 * 2 ^ suc (suc u)) ≡ (3 * (slot_power (2 ^ suc (suc u)) i % (2 * 2 ^ suc (suc u)))) %
    (2 * 2 ^ suc (suc u))
slot_power_next u i l = residue_equal d (pos (slot_power (2 ^ suc (suc u)) (i + 1))) (pos (3 * (slot_power (2 ^ suc (suc u)) i % d))) some
    (Congruent-trans d (Congruent-equal d (ap pos (slot_power_first u (i + 1) l ∙ ap (λ j. 3 ^ j) (one i) ∙ pow-suc 3 i ∙ turn (3 ^ i))))
    (Congruent-sym d (Congruent-trans d (Congruent-mul d (Congruent-refl d (pos 3)) (Congruent-mod d (slot_power (2 ^ suc (suc u)) i) some)) (Congruent-equal d (ap (λ p. pos (3 * p)) (slot_power_first u i (omega arith)))))))
  where
    d : ℕ
    d = 2 * 2 ^ suc (suc u)

    some : 0 < 2 * 2 ^ suc (suc u)
    some = let p = pow_pos u in omega arith

    one : (i : ℕ) → i + 1 ≡ suc i
    one i = omega arith

    turn : (x : ℕ) → x * 3 ≡ 3 * x
    turn x = omega arith

-- and in the second half it is the negative
pub slot_power_negative : (u i : ℕ) → i < 2 * 2 ^ u
    → slot_power (2 ^ suc (suc u)) (2 * 2 ^ u + i) % (2 * 2 ^ suc (suc u)) ≡ 2 * 2 ^ suc (suc u) - slot_power (2 ^ suc (suc u)) i %
    (2 * 2 ^ suc (suc u))
slot_power_negative u i l = from (odd_power_of_slot u i (omega arith))
  where
    d : ℕ
    d = 2 * 2 ^ suc (suc u)

    some : 0 < 2 * 2 ^ suc (suc u)
    some = let p = pow_pos u in omega arith

    from : OddPower u i → slot_power (2 ^ suc (suc u)) (2 * 2 ^ u + i) % d ≡ d - slot_power (2 ^ suc (suc u)) i % d
    from s = residue_equal d (pos (slot_power (2 ^ suc (suc u)) (2 * 2 ^ u + i))) (pos (d - slot_power (2 ^ suc (suc u)) i % d)) some
        (Congruent-trans d (subst (λ m. Congruent m (pos (slot_power (2 ^ suc (suc u)) (2 * 2 ^ u + i))) (neg_ℤ (pos (3 ^ i)))) (sym (twice_degree u)) (slot_power_second_congruent u i))
        (Congruent-trans d (Congruent-neg d (Congruent-trans d (Congruent-equal d (ap pos (sym (slot_power_first u i l)))) (Congruent-sym d (Congruent-mod d (slot_power (2 ^ suc (suc u)) i) some)))) (Congruent-sym d (turn (slot_power (2 ^ suc (suc u)) i % d) (mod-lt (slot_power (2 ^ suc (suc u)) i) some)))))
        ∙ mod-eq_of_lt (let e = s.is in let b = s.below in omega arith)
      where
        turn : (s : ℕ) → s < 2 * 2 ^ suc (suc u) → Congruent (2 * 2 ^ suc (suc u)) (pos (2 * 2 ^ suc (suc u) - s)) (neg_ℤ (pos s))
        turn s l = record { quotient = pos 1; equation = split s (2 * 2 ^ suc (suc u)) (omega arith) }
          where
            split : (s t : ℕ) → s ≤ t → pos (t - s) ≡ neg_ℤ (pos s) +ℤ pos 1 *ℤ pos t
            split s t l = omega (arith, ints)
