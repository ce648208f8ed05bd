-- How a loop over the slots of both halves finds their places: the power of the root is 3 times the one before, and the slot of the
-- second half stands at the complement of the place.
use Rattle.std.proofs.Common.{◌≡◌, ℕ, suc, ◌+◌, ◌-◌, ◌*◌, ◌/◌, ◌%◌, ◌^◌, ◌<◌, sym, ap, ◌∙◌, subst, arith}
use Rattle.ring_law.specs.Transform.{bit_reversal}
use Rattle.bfv_model.specs.Slots.{slot_place, slot_power}
use Rattle.bfv_model.proofs.SlotPowers.{half_degree}
use Rattle.bfv_model.proofs.SlotPlaces.{OddPower, odd_power_of_slot, slot_place_lt, slot_place_once, slot_power_at_zero, slot_power_negative, slot_power_next}
use Rattle.slot_batch.proofs.Digits.{bit_reversal-complement}

pub power_first : (u n : ℕ) → n ≡ 2 ^ suc (suc u) → 1 ≡ slot_power n 0 % (2 * n)
power_first u n e = subst (λ (n : ℕ). 1 ≡ slot_power n 0 % (2 * n)) (sym e) (sym (slot_power_at_zero u))

pub power_next : (u n i p : ℕ) → n ≡ 2 ^ suc (suc u) → i + 1 < n / 2 → p ≡ slot_power n i % (2 * n)
    → 3 * p % (2 * n) ≡ slot_power n (i + 1) % (2 * n)
power_next u n i p e =
    subst (λ (n : ℕ). i + 1 < n / 2 → p ≡ slot_power n i % (2 * n) → 3 * p % (2 * n) ≡ slot_power n (i + 1) % (2 * n)) (sym e)
    (λ within is. ap (λ p. 3 * p % (2 * 2 ^ suc (suc u))) is ∙ sym (slot_power_next u i (omega (arith, half_degree u))))

pub place_first : (u n i p r : ℕ) → n ≡ 2 ^ suc (suc u) → p ≡ slot_power n i % (2 * n) → r ≡ bit_reversal (suc (suc u)) (p / 2)
    → r ≡ slot_place (suc (suc u)) i
unfolding slot_place
place_first u n i p r e is d =
    d ∙ ap (λ p. bit_reversal (suc (suc u)) (p / 2)) is
    ∙ ap (λ n. bit_reversal (suc (suc u)) (slot_power n i % (2 * n) / 2)) e

pub place_second : (u n i p r : ℕ) → n ≡ 2 ^ suc (suc u) → i < n / 2 → p ≡ slot_power n i % (2 * n)
    → r ≡ bit_reversal (suc (suc u)) (p / 2) → n - 1 - r ≡ slot_place (suc (suc u)) (n / 2 + i)
unfolding slot_place
place_second u n i p r e =
    subst (λ (n : ℕ). i < n / 2 → p ≡ slot_power n i % (2 * n) → r ≡ bit_reversal (suc (suc u)) (p / 2)
    → n - 1 - r ≡ slot_place (suc (suc u)) (n / 2 + i)) (sym e) (λ within is d.
    let half = half_degree u in
    from (omega arith) is d (odd_power_of_slot u i (omega arith))
    ∙ ap (λ h. slot_place (suc (suc u)) (h + i)) (sym half))
  where
    m : ℕ
    m = 2 ^ suc (suc u)

    from : i < 2 * 2 ^ u → p ≡ slot_power (2 ^ suc (suc u)) i % (2 * 2 ^ suc (suc u)) → r ≡ bit_reversal (suc (suc u)) (p / 2)
        → OddPower u i → 2 ^ suc (suc u) - 1 - r ≡ slot_place (suc (suc u)) (2 * 2 ^ u + i)
    from within is d s =
        let odd = is ∙ s.is in
        let below = s.below in
        let other : slot_power (2 ^ suc (suc u)) (2 * 2 ^ u + i) % (2 * 2 ^ suc (suc u)) ≡ 2 * 2 ^ suc (suc u) - p =
        slot_power_negative u i within ∙ ap (λ p. 2 * 2 ^ suc (suc u) - p) (sym is) in
        let sum = bit_reversal-complement (suc (suc u)) ((2 * 2 ^ suc (suc u) - p) / 2) (p / 2) (omega arith) in
        ap (λ (r : ℕ). 2 ^ suc (suc u) - 1 - r) d ∙ omega arith ∙ ap (λ (q : ℕ). bit_reversal (suc (suc u)) (q / 2)) (sym other)

pub place_below : (u n i : ℕ) → n ≡ 2 ^ suc (suc u) → slot_place (suc (suc u)) i < n
place_below u n i e = subst (λ n. slot_place (suc (suc u)) i < n) (sym e) (slot_place_lt u i)

pub place_once : (u n i j : ℕ) → n ≡ 2 ^ suc (suc u) → i < n → j < n → slot_place (suc (suc u)) i ≡ slot_place (suc (suc u)) j → i ≡ j
place_once u n i j e li lj = slot_place_once u i j (omega arith) (omega arith)

pub halves : (u n : ℕ) → n ≡ 2 ^ suc (suc u) → n ≡ 2 * (n / 2)
halves u n e = let half = half_degree u in omega arith
