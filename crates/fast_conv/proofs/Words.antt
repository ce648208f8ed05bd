-- Words and the whole numbers that they are congruent to.
use Rattle.std.proofs.Common.{◌≡◌, ℕ, refl, ◌+◌, ◌-◌, ◌*◌, ◌/◌, ◌%◌, ◌^◌, ◌<◌, ap, subst, arith, mod-eq_of_lt, ℤ, pos, neg_ℤ, ◌*ℤ◌}
use Rattle.std.specs.Int.{IsGcd}
use Rattle.std.proofs.lemmas.Nat.Gcd.{IsGcd-swap}
use Rattle.ring_law.specs.Residues.{Congruent, HasInverse}
use Rattle.ring_law.proofs.Congruence.{Congruent-equal, Congruent-mul, Congruent-neg, Congruent-refl, Congruent-sym, Congruent-trans}
use Rattle.ring_law.proofs.Residues.{Congruent-mod, Congruent-negative_mod}
use Rattle.ring_law.proofs.Inverses.{HasInverse-from_IsGcd, HasInverse-odd, IsGcd-from_HasInverse}
use Rattle.ring_law.proofs.WholeNumbers.{int_mul_neg, int_mul_one, int_one_mul}
use Rattle.ring_law.proofs.RingSolver.{identity3, ◌⊗◌}
use Rattle.res_base.proofs.Bases.{HasInverse-mod}

pub Congruent-word : (m : ℕ) {w x : ℕ} → 0 < m → w ≡ x % m → Congruent m (pos w) (pos x)
Congruent-word m {w} {x} positive is = Congruent-trans m (Congruent-equal m (ap pos is)) (Congruent-mod m x positive)

pub Congruent-negative_word : (m a w : ℕ) → a < m → w ≡ (m - a) % m → Congruent m (pos w) (neg_ℤ (pos a))
Congruent-negative_word m a w below is =
    let positive : 0 < m = omega arith in
    Congruent-trans m (Congruent-word m positive is)
    (subst (λ r. Congruent m (pos (m - r)) (neg_ℤ (pos a))) (mod-eq_of_lt below) (Congruent-negative_mod m a positive))

-- an inverse, as a word
pub Congruent-unit : (m v c : ℕ) → 0 < m → v * c % m ≡ 1 → Congruent m (pos c *ℤ pos v) (pos 1)
Congruent-unit m v c positive is =
    Congruent-trans m (Congruent-equal m (ap pos (flip c v))) (Congruent-trans m (Congruent-sym m (Congruent-mod m (v * c) positive)) (Congruent-equal m (ap pos is)))
  where
    flip : (a b : ℕ) → a * b ≡ b * a
    flip a b = omega arith

-- c times the product of x and its own inverse is x
pub Congruent-unit_times : (m c v x w : ℕ) → 0 < m → Congruent m (pos c *ℤ pos v) (pos 1) → Congruent m (pos w) (pos x *ℤ pos v) → Congruent m (pos c *ℤ pos w) (pos x)
Congruent-unit_times m c v x w positive unit is =
    Congruent-trans m (Congruent-mul m (Congruent-refl m (pos c)) is)
    (Congruent-trans m (Congruent-equal m (identity3 (λ c x v. c ⊗ (x ⊗ v)) (λ c x v. x ⊗ (c ⊗ v)) refl (pos c) (pos x) (pos v)))
    (Congruent-trans m (Congruent-mul m (Congruent-refl m (pos x)) unit) (Congruent-equal m (int_mul_one (pos x)))))

pub Congruent-one_times : (m : ℕ) {w : ℕ} {x : ℤ} → Congruent m (pos w) x → Congruent m (pos 1 *ℤ pos w) x
Congruent-one_times m {w} {x} is = Congruent-trans m (Congruent-equal m (int_one_mul (pos w))) is

pub Congruent-times_negative : (m c v w : ℕ) → Congruent m (pos c *ℤ pos v) (pos 1) → Congruent m (pos w) (neg_ℤ (pos v)) → Congruent m (pos c *ℤ pos w) (neg_ℤ (pos 1))
Congruent-times_negative m c v w unit is =
    Congruent-trans m (Congruent-mul m (Congruent-refl m (pos c)) is) (Congruent-trans m (Congruent-equal m (int_mul_neg (pos c) (pos v))) (Congruent-neg m unit))

-- ---- what is coprime
pub IsGcd-residue : (q r : ℕ) → 0 < q → IsGcd r q 1 → IsGcd (r % q) q 1
IsGcd-residue q r positive coprime =
    IsGcd-swap q (r % q) 1 (IsGcd-from_HasInverse q (r % q) (HasInverse-mod q r positive (HasInverse-from_IsGcd q r (IsGcd-swap r q 1 coprime))))

pub HasInverse-power_of_two_odd : (q k : ℕ) → q % 2 ≡ 1 → HasInverse (2 ^ k) q
HasInverse-power_of_two_odd q k odd = subst (λ r. HasInverse (2 ^ k) r) (let split : 2 * (q / 2) + 1 ≡ q = omega arith in split) (HasInverse-odd (q / 2) k)

pub IsGcd-power_of_two_odd : (q k : ℕ) → q % 2 ≡ 1 → IsGcd (2 ^ k) q 1
IsGcd-power_of_two_odd q k odd = IsGcd-from_HasInverse (2 ^ k) q (HasInverse-power_of_two_odd q k odd)
