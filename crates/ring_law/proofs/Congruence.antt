-- Congruence of whole numbers.
use Rattle.std.proofs.Common.{◌≡◌, ℕ, zero, suc, ◌*◌, ◌<◌, refl, sym, ap, ap₂, ◌∙◌, subst, arith, ℤ, pos, neg_ℤ, ◌+ℤ◌, ◌-ℤ◌, ◌*ℤ◌, nat_abs}
use Rattle.std.proofs.lemmas.Int.{ints, unsigned_abs-mul}
use Rattle.ring_law.specs.Sums.{sum_below}
use Rattle.ring_law.specs.Residues.{Congruent, HasInverse}
use Rattle.ring_law.proofs.RingSolver.{identity1, identity2, identity3, identity4, identity5, literal, minus, ◌⊕◌, ◌⊖◌, ◌⊗◌}

-- congruence is an equality that sums, negatives and products respect
pub Congruent-refl : (m : ℕ) (a : ℤ) → Congruent m a a
Congruent-refl m a = record { quotient = pos 0; equation = identity2 (λ a m. a) (λ a m. a ⊕ literal (pos 0) ⊗ m) refl a (pos m) }

pub Congruent-equal : (m : ℕ) {a b : ℤ} → a ≡ b → Congruent m a b
Congruent-equal m {a} {b} e = subst (λ x. Congruent m a x) e (Congruent-refl m a)

pub Congruent-sym : (m : ℕ) {a b : ℤ} → Congruent m a b → Congruent m b a
Congruent-sym m {a} {b} h =
    record {
      quotient = neg_ℤ h.quotient;
      equation = identity3 (λ b k m. b) (λ b k m. (b ⊕ k ⊗ m) ⊕ minus k ⊗ m) refl b h.quotient (pos m)
          ∙ ap (λ x. x +ℤ neg_ℤ h.quotient *ℤ pos m) (sym h.equation);
    }

pub Congruent-trans : (m : ℕ) {a b c : ℤ} → Congruent m a b → Congruent m b c → Congruent m a c
Congruent-trans m {a} {b} {c} h k =
    record {
      quotient = k.quotient +ℤ h.quotient;
      equation = h.equation ∙ ap (λ x. x +ℤ h.quotient *ℤ pos m) k.equation
          ∙ identity4 (λ c k h m. (c ⊕ k ⊗ m) ⊕ h ⊗ m) (λ c k h m. c ⊕ (k ⊕ h) ⊗ m) refl c k.quotient h.quotient (pos m);
    }

pub Congruent-add : (m : ℕ) {a b c d : ℤ} → Congruent m a b → Congruent m c d → Congruent m (a +ℤ c) (b +ℤ d)
Congruent-add m {a} {b} {c} {d} h k =
    record {
      quotient = h.quotient +ℤ k.quotient;
      equation = ap₂ ◌+ℤ◌ h.equation k.equation
          ∙ identity5 (λ b d h k m. (b ⊕ h ⊗ m) ⊕ (d ⊕ k ⊗ m)) (λ b d h k m. (b ⊕ d) ⊕ (h ⊕ k) ⊗ m) refl b d h.quotient k.quotient (pos m);
    }

pub Congruent-neg : (m : ℕ) {a b : ℤ} → Congruent m a b → Congruent m (neg_ℤ a) (neg_ℤ b)
Congruent-neg m {a} {b} h =
    record {
      quotient = neg_ℤ h.quotient;
      equation = ap neg_ℤ h.equation
          ∙ identity3 (λ b h m. minus (b ⊕ h ⊗ m)) (λ b h m. minus b ⊕ minus h ⊗ m) refl b h.quotient (pos m);
    }

pub Congruent-mul : (m : ℕ) {a b c d : ℤ} → Congruent m a b → Congruent m c d → Congruent m (a *ℤ c) (b *ℤ d)
Congruent-mul m {a} {b} {c} {d} h k =
    record {
      quotient = b *ℤ k.quotient +ℤ d *ℤ h.quotient +ℤ h.quotient *ℤ k.quotient *ℤ pos m;
      equation = ap₂ ◌*ℤ◌ h.equation k.equation
          ∙ identity5 (λ b d h k m. (b ⊕ h ⊗ m) ⊗ (d ⊕ k ⊗ m)) (λ b d h k m. (b ⊗ d) ⊕ (b ⊗ k ⊕ d ⊗ h ⊕ h ⊗ k ⊗ m) ⊗ m) refl b d h.quotient k.quotient (pos m);
    }

-- so do sums of many terms
pub Congruent-sum_below : (m n : ℕ) (f g : ℕ → ℤ) → ((i : ℕ) → i < n → Congruent m (f i) (g i)) → Congruent m (sum_below n f) (sum_below n g)
unfolding sum_below
Congruent-sum_below m zero f g h = Congruent-refl m (pos 0)
Congruent-sum_below m (suc n) f g h = Congruent-add m (Congruent-sum_below m n f g (λ i l. h i (omega arith))) (h n (omega arith))

-- modulo 0 there is equality alone
pub Congruent-zero : {a b : ℤ} → Congruent 0 a b → a ≡ b
Congruent-zero {a} {b} h = h.equation ∙ identity2 (λ b k. b ⊕ k ⊗ literal (pos 0)) (λ b k. b) refl b h.quotient

-- congruent numbers that lie near each other are one
pub Congruent-near : (m : ℕ) (x y : ℤ) → Congruent m x y → nat_abs (x -ℤ y) < m → x ≡ y
Congruent-near m x y h l = by (nat_abs h.quotient) refl
  where
    gap : x -ℤ y ≡ h.quotient *ℤ pos m
    gap = ap (λ z. z -ℤ y) h.equation ∙ identity3 (λ y t m. y ⊕ t ⊗ m ⊖ y) (λ y t m. t ⊗ m) refl y h.quotient (pos m)

    size : nat_abs (x -ℤ y) ≡ nat_abs h.quotient * m
    size = ap nat_abs gap ∙ unsigned_abs-mul h.quotient (pos m)

    null : (t : ℤ) → nat_abs t ≡ 0 → t ≡ pos 0
    null t e = omega (arith, ints)

    by : (k : ℕ) → nat_abs h.quotient ≡ k → x ≡ y
    by zero e = h.equation ∙ ap (λ t. y +ℤ t *ℤ pos m) (null h.quotient e) ∙ identity2 (λ y m. y ⊕ literal (pos 0) ⊗ m) (λ y m. y) refl y (pos m)
    by (suc k) e = let s : nat_abs (x -ℤ y) ≡ suc k * m = size ∙ ap (λ n. n * m) e in absurd (omega arith)

-- modulo a divisor of the modulus
pub Congruent-left_factor : (a b : ℕ) {x y : ℤ} → Congruent (a * b) x y → Congruent a x y
Congruent-left_factor a b {x} {y} h =
    record {
      quotient = h.quotient *ℤ pos b;
      equation = h.equation
          ∙ identity4 (λ y t a b. y ⊕ t ⊗ (a ⊗ b)) (λ y t a b. y ⊕ (t ⊗ b) ⊗ a) refl y h.quotient (pos a) (pos b);
    }

pub Congruent-right_factor : (a b : ℕ) {x y : ℤ} → Congruent (a * b) x y → Congruent b x y
Congruent-right_factor a b {x} {y} h =
    record {
      quotient = h.quotient *ℤ pos a;
      equation = h.equation
          ∙ identity4 (λ y t a b. y ⊕ t ⊗ (a ⊗ b)) (λ y t a b. y ⊕ (t ⊗ a) ⊗ b) refl y h.quotient (pos a) (pos b);
    }

-- numbers and modulus may be multiplied by one factor
pub Congruent-scaled : (t q : ℕ) {a b : ℤ} → Congruent q a b → Congruent (t * q) (pos t *ℤ a) (pos t *ℤ b)
Congruent-scaled t q {a} {b} h =
    record {
      quotient = h.quotient;
      equation = ap (λ x. pos t *ℤ x) h.equation
          ∙ identity4 (λ t b k q. t ⊗ (b ⊕ k ⊗ q)) (λ t b k q. t ⊗ b ⊕ k ⊗ (t ⊗ q)) refl (pos t) b h.quotient (pos q);
    }

-- a multiple of the modulus
pub Congruent-multiple : (q : ℕ) (k : ℤ) → Congruent q (k *ℤ pos q) (pos 0)
Congruent-multiple q k = record { quotient = k; equation = identity2 (λ k q. k ⊗ q) (λ k q. literal (pos 0) ⊕ k ⊗ q) refl k (pos q) }

-- a factor that is not 0 may be left out of an equation
pub int_mul_cancel_left : (p : ℕ) (x y : ℤ) → 0 < p → pos p *ℤ x ≡ pos p *ℤ y → x ≡ y
int_mul_cancel_left p x y h e = null (x -ℤ y) x y refl (zero_of p (nat_abs (x -ℤ y)) h (sym (unsigned_abs-mul (pos p) (x -ℤ y)) ∙ ap nat_abs gap))
  where
    gap : pos p *ℤ (x -ℤ y) ≡ pos 0
    gap =
        identity3 (λ p x y. p ⊗ (x ⊖ y)) (λ p x y. p ⊗ x ⊖ p ⊗ y) refl (pos p) x y ∙ ap (λ z. z -ℤ pos p *ℤ y) e
        ∙ identity1 (λ a. a ⊖ a) (λ a. literal (pos 0)) refl (pos p *ℤ y)

    null : (z x y : ℤ) → z ≡ x -ℤ y → nat_abs z ≡ 0 → x ≡ y
    null z x y d e = omega (arith, ints)

    zero_of : (p z : ℕ) → 0 < p → p * z ≡ 0 → z ≡ 0
    zero_of p zero h e = refl
    zero_of p (suc z) h e = absurd (omega arith)

-- a common factor of modulus and numbers
pub Congruent-divided : (p q : ℕ) (x y : ℤ) → 0 < p → Congruent (p * q) (pos p *ℤ x) (pos p *ℤ y) → Congruent q x y
Congruent-divided p q x y h c = record {
  quotient = c.quotient;
  equation =
      int_mul_cancel_left p x (y +ℤ c.quotient *ℤ pos q) h
      (c.equation ∙ identity4 (λ p y t q. p ⊗ y ⊕ t ⊗ (p ⊗ q)) (λ p y t q. p ⊗ (y ⊕ t ⊗ q)) refl (pos p) y c.quotient (pos q));
}

-- a factor with an inverse
pub Congruent-cancel : (q c : ℕ) (x y : ℤ) → HasInverse q c → Congruent q (x *ℤ pos c) (y *ℤ pos c) → Congruent q x y
Congruent-cancel q c x y i h =
    Congruent-trans q (Congruent-sym q (from x)) (Congruent-trans q (Congruent-mul q h (Congruent-refl q i.inverse)) (from y))
  where
    from : (x : ℤ) → Congruent q (x *ℤ pos c *ℤ i.inverse) x
    from x =
        Congruent-trans q (Congruent-equal q (identity3 (λ x c b. x ⊗ c ⊗ b) (λ x c b. x ⊗ (b ⊗ c)) refl x (pos c) i.inverse))
        (Congruent-trans q (Congruent-mul q (Congruent-refl q x) i.is_one) (Congruent-equal q (identity1 (λ x. x ⊗ literal (pos 1)) (λ x. x) refl x)))

-- what is divided exactly by c is, modulo p, the dividend times the inverse of c
pub Congruent-quotient : (p c : ℕ) (y z v : ℤ) → z ≡ y *ℤ pos c → Congruent p (v *ℤ pos c) (pos 1) → Congruent p y (z *ℤ v)
Congruent-quotient p c y z v e h =
    Congruent-sym p (Congruent-trans p (Congruent-equal p (ap (λ u. u *ℤ v) e ∙ identity3 (λ y c v. y ⊗ c ⊗ v) (λ y c v. y ⊗ (v ⊗ c)) refl y (pos c) v))
    (Congruent-trans p (Congruent-mul p (Congruent-refl p y) h) (Congruent-equal p (identity1 (λ x. x ⊗ literal (pos 1)) (λ x. x) refl y))))
