-- Turns and the swap on the list of slots.
use Rattle.std.proofs.Common.{List, ap, ap₂, arith, get_or, mod-eq_of_lt, mod-lt, neg_ℤ, pos, pow_pos, suc, sym, ℕ, ℤ, ◌%◌, ◌*◌, ◌+◌, ◌-◌, ◌/◌, ◌<◌, ◌^◌, ◌∙◌, ◌≡◌}
use Rattle.std.proofs.lemmas.Nat.{div-mul-add, mod-mul-add}
use Rattle.ring_law.specs.Polynomials.{ring_turn}
use Rattle.ring_law.specs.Residues.{Congruent}
use Rattle.ring_law.specs.Sums.{values_below}
use Rattle.ring_law.proofs.Values.{get_or-values_below, length-values_below, values_below-get_or}
use Rattle.ring_law.specs.Lists.{exchanged, turned_left}
use Rattle.bfv_model.specs.Slots.{slot, slots}
use Rattle.bfv_model.proofs.SlotLaws.{slot-swap_first, slot-swap_second, slot-turn_first, slot-turn_second}
use Rattle.bfv_model.proofs.SlotPowers.{InHalf, half_of_slot, in_first, in_second}

module _ (t x u h : ℕ) (odd : t ≡ 2 * h + 1) (minus_one : Congruent t (pos (x ^ (2 ^ suc (suc u)))) (neg_ℤ (pos 1))) where
  both : 2 * 2 ^ u + 2 * 2 ^ u ≡ 2 ^ suc (suc u)
  both = omega arith

  -- the turn by the element 3^k turns both halves left by k
  pub slots-turn : (k : ℕ) (a : ℕ → ℤ) → k < 2 * 2 ^ u
      → slots (2 ^ suc (suc u)) t x (ring_turn (2 ^ suc (suc u)) (3 ^ k % (2 * 2 ^ suc (suc u))) a) ≡ turned_left (2 * 2 ^ u) k
      (slots (2 ^ suc (suc u)) t x a)
  unfolding slots turned_left
  slots-turn k a l = values_below-get_or (2 ^ suc (suc u))
      (slot (2 ^ suc (suc u)) t x (ring_turn (2 ^ suc (suc u)) (3 ^ k % (2 * 2 ^ suc (suc u))) a))
      (values_below (2 * 2 ^ u + 2 * 2 ^ u) g) 0 (length-values_below (2 * 2 ^ u + 2 * 2 ^ u) g ∙ both)
      (λ i b. sym (by i (half_of_slot u i b) ∙ sym (get_or-values_below (2 * 2 ^ u + 2 * 2 ^ u) g i 0 (omega arith))))
    where
      ws : List ℕ
      ws = values_below (2 ^ suc (suc u)) (slot (2 ^ suc (suc u)) t x a)

      g : ℕ → ℕ
      g i = get_or ws (i / (2 * 2 ^ u) * (2 * 2 ^ u) + (i % (2 * 2 ^ u) + k) % (2 * 2 ^ u)) 0

      some : 0 < 2 * 2 ^ u
      some = let p = pow_pos u in omega arith

      shape : (i : ℕ) (c j : ℕ) → j < 2 * 2 ^ u → i ≡ c * (2 * 2 ^ u) + j
          → i / (2 * 2 ^ u) * (2 * 2 ^ u) + (i % (2 * 2 ^ u) + k) % (2 * 2 ^ u) ≡ c * (2 * 2 ^ u) + (j + k) % (2 * 2 ^ u)
      shape i c j b e = ap₂ (λ q r. q * (2 * 2 ^ u) + (r + k) % (2 * 2 ^ u)) (ap (λ i. i / (2 * 2 ^ u)) e ∙ div-mul-add c (2 * 2 ^ u) j b)
          (ap (λ i. i % (2 * 2 ^ u)) e ∙ mod-mul-add c (2 * 2 ^ u) j b)

      at : (i : ℕ) → i < 2 ^ suc (suc u) → slot (2 ^ suc (suc u)) t x a i ≡ get_or ws i 0
      at i b = sym (get_or-values_below (2 ^ suc (suc u)) (slot (2 ^ suc (suc u)) t x a) i 0 b)

      zero_polynomial : (p i : ℕ) → i ≡ 0 * p + i
      zero_polynomial p i = omega arith

      once : (p i : ℕ) → p + i ≡ 1 * p + i
      once p i = omega arith

      by : (i : ℕ) → InHalf u i → slot (2 ^ suc (suc u)) t x (ring_turn (2 ^ suc (suc u)) (3 ^ k % (2 * 2 ^ suc (suc u))) a) i ≡ g i
      by _ (in_first i b) = slot-turn_first t x u h odd minus_one k i a l b ∙ at ((i + k) % (2 * 2 ^ u))
          (let m = mod-lt (i + k) some in omega arith) ∙ ap (λ j. get_or ws j 0)
          (zero_polynomial (2 * 2 ^ u) ((i + k) % (2 * 2 ^ u)) ∙ sym (shape i 0 i b (zero_polynomial (2 * 2 ^ u) i)))
      by _ (in_second i b) = slot-turn_second t x u h odd minus_one k i a l b ∙ at (2 * 2 ^ u + (i + k) % (2 * 2 ^ u))
          (let m = mod-lt (i + k) some in omega arith) ∙ ap (λ j. get_or ws j 0)
          (once (2 * 2 ^ u) ((i + k) % (2 * 2 ^ u)) ∙ sym (shape (2 * 2 ^ u + i) 1 i b (once (2 * 2 ^ u) i)))

  -- the turn by 2n - 1 exchanges them
  pub slots-swap : (a : ℕ → ℤ)
      → slots (2 ^ suc (suc u)) t x (ring_turn (2 ^ suc (suc u)) (2 * 2 ^ suc (suc u) - 1) a) ≡ exchanged (2 * 2 ^ u)
      (slots (2 ^ suc (suc u)) t x a)
  unfolding slots exchanged
  slots-swap a = values_below-get_or (2 ^ suc (suc u))
      (slot (2 ^ suc (suc u)) t x (ring_turn (2 ^ suc (suc u)) (2 * 2 ^ suc (suc u) - 1) a)) (values_below (2 * 2 ^ u + 2 * 2 ^ u) g) 0
      (length-values_below (2 * 2 ^ u + 2 * 2 ^ u) g ∙ both)
      (λ i b. sym (by i (half_of_slot u i b) ∙ sym (get_or-values_below (2 * 2 ^ u + 2 * 2 ^ u) g i 0 (omega arith))))
    where
      ws : List ℕ
      ws = values_below (2 ^ suc (suc u)) (slot (2 ^ suc (suc u)) t x a)

      g : ℕ → ℕ
      g i = get_or ws ((i + 2 * 2 ^ u) % (2 * 2 ^ u + 2 * 2 ^ u)) 0

      at : (i : ℕ) → i < 2 ^ suc (suc u) → slot (2 ^ suc (suc u)) t x a i ≡ get_or ws i 0
      at i b = sym (get_or-values_below (2 ^ suc (suc u)) (slot (2 ^ suc (suc u)) t x a) i 0 b)

      up : (p i : ℕ) → i < p → p + i ≡ (i + p) % (p + p)
      up p i b = sym (mod-eq_of_lt (omega arith) ∙ turn p i)
        where
          turn : (p i : ℕ) → i + p ≡ p + i
          turn p i = omega arith

      down : (p i : ℕ) → i < p → i ≡ (p + i + p) % (p + p)
      down p i b = sym (ap (λ y. y % (p + p)) (turn p i) ∙ mod-mul-add 1 (p + p) i (omega arith))
        where
          turn : (p i : ℕ) → p + i + p ≡ 1 * (p + p) + i
          turn p i = omega arith

      by : (i : ℕ) → InHalf u i → slot (2 ^ suc (suc u)) t x (ring_turn (2 ^ suc (suc u)) (2 * 2 ^ suc (suc u) - 1) a) i ≡ g i
      by _ (in_first i b) = slot-swap_first t x u h odd minus_one i a b ∙ at (2 * 2 ^ u + i) (omega arith) ∙ ap (λ j. get_or ws j 0)
          (up (2 * 2 ^ u) i b)
      by _ (in_second i b) = slot-swap_second t x u h odd minus_one i a b ∙ at i (omega arith) ∙ ap (λ j. get_or ws j 0)
          (down (2 * 2 ^ u) i b)
