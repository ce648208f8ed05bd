-- The powers of 3 and their negatives are the odd residues modulo a power of two, each once.
use Rattle.std.proofs.Common.{◌≡◌, ℕ, zero, suc, ◌+◌, ◌-◌, ◌*◌, ◌%◌, ◌/◌, ◌^◌, ◌<◌, ◌≤◌, refl, sym, ap, ◌∙◌, subst, arith, ℤ, pos, negsuc, neg_ℤ, ◌+ℤ◌, ◌-ℤ◌, ◌*ℤ◌, ◌⊎◌, inl, inr, ⊎_elim, pow_pos, mod-lt, mod-eq_of_lt}
use Rattle.std.proofs.Math.IntN.{neg_ℤ-neg_ℤ}
use Rattle.std.proofs.Math.Nat.{pow-suc}
use Rattle.std.proofs.lemmas.Int.{ints}
use Rattle.std.proofs.lemmas.Nat.{pow-add, mod-mul-add}
use Rattle.std.proofs.lemmas.Bool.{cases_lt}
use Rattle.ring_law.specs.Residues.{Congruent}
use Rattle.ring_law.proofs.WholeNumbers.{int_mul_one}
use Rattle.ring_law.proofs.RingSolver.{identity1, identity2, identity3, identity4, literal, minus, ◌⊕◌, ◌⊖◌, ◌⊗◌}
use Rattle.ring_law.proofs.Congruence.{Congruent-add, Congruent-equal, Congruent-mul, Congruent-neg, Congruent-refl, Congruent-sym, Congruent-trans}
use Rattle.ring_law.proofs.Residues.{residue_equal}
use Rattle.ring_law.proofs.BitReversal.{even_or_odd}

double : (k : ℕ) → 2 ^ suc k ≡ 2 * 2 ^ k
double k = omega arith

-- 3 to half its order is 1 and half the modulus
top : (k : ℕ) → Congruent (16 * 2 ^ k) (pos (3 ^ (2 * 2 ^ k))) (pos (1 + 8 * 2 ^ k))
top zero = Congruent-refl 16 (pos 9)
top (suc k) = from (top k)
  where
    from : Congruent (16 * 2 ^ k) (pos (3 ^ (2 * 2 ^ k))) (pos (1 + 8 * 2 ^ k)) →
        Congruent (16 * 2 ^ suc k) (pos (3 ^ (2 * 2 ^ suc k))) (pos (1 + 8 * 2 ^ suc k))
    from r =
        let u = 2 ^ k in
        let t = r.quotient in
        let twice : 2 * (2 * u) ≡ 2 * u + 2 * u = omega arith in
        subst (λ v. Congruent (16 * v) (pos (3 ^ (2 * v))) (pos (1 + 8 * v))) (sym (double k)) (record {
          quotient = t +ℤ pos 2 *ℤ pos u *ℤ ((pos 1 +ℤ pos 2 *ℤ t) *ℤ (pos 1 +ℤ pos 2 *ℤ t));
          equation = ap pos (ap (λ e. 3 ^ e) twice ∙ pow-add 3 (2 * u) (2 * u))
              ∙ ap (λ y. y *ℤ y) r.equation
              ∙ identity2 (λ u t. (literal (pos 1) ⊕ literal (pos 8) ⊗ u ⊕ t ⊗ (literal (pos 16) ⊗ u)) ⊗
              (literal (pos 1) ⊕ literal (pos 8) ⊗ u ⊕ t ⊗ (literal (pos 16) ⊗ u)))
              (λ u t. (literal (pos 1) ⊕ literal (pos 8) ⊗ (literal (pos 2) ⊗ u)) ⊕
              (t ⊕ literal (pos 2) ⊗ u ⊗ ((literal (pos 1) ⊕ literal (pos 2) ⊗ t) ⊗ (literal (pos 1) ⊕ literal (pos 2) ⊗ t))) ⊗
              (literal (pos 16) ⊗ (literal (pos 2) ⊗ u))) refl (pos u) t;
        })

-- powers of 3 are odd
power_of_three_odd : (i : ℕ) → (h : ℕ) × (3 ^ i ≡ 2 * h + 1)
power_of_three_odd zero = (0, refl)
power_of_three_odd (suc i) = more (power_of_three_odd i)
  where
    more : (h : ℕ) × (3 ^ i ≡ 2 * h + 1) → (h : ℕ) × (3 ^ suc i ≡ 2 * h + 1)
    more (h, e) = (3 * h + 1, pow-suc 3 i ∙ ap (λ y. y * 3) e ∙ tripled h)
      where
        tripled : (h : ℕ) → (2 * h + 1) * 3 ≡ 2 * (3 * h + 1) + 1
        tripled h = omega arith

-- half the order more in the exponent adds half the modulus
shift : (k i : ℕ) → Congruent (16 * 2 ^ k) (pos (3 ^ (i + 2 * 2 ^ k))) (pos (3 ^ i) +ℤ pos (8 * 2 ^ k))
shift k i = from (power_of_three_odd i) (top k)
  where
    from : (h : ℕ) × (3 ^ i ≡ 2 * h + 1) → Congruent (16 * 2 ^ k) (pos (3 ^ (2 * 2 ^ k))) (pos (1 + 8 * 2 ^ k)) →
        Congruent (16 * 2 ^ k) (pos (3 ^ (i + 2 * 2 ^ k))) (pos (3 ^ i) +ℤ pos (8 * 2 ^ k))
    from (h, e) r =
        Congruent-trans (16 * 2 ^ k) (Congruent-equal (16 * 2 ^ k) (ap pos (pow-add 3 i (2 * 2 ^ k))))
        (Congruent-trans (16 * 2 ^ k) (Congruent-mul (16 * 2 ^ k) (Congruent-refl (16 * 2 ^ k) (pos (3 ^ i))) r)
        (record {
          quotient = pos h;
          equation =
              ap (λ y. pos y *ℤ pos (1 + 8 * 2 ^ k)) e
              ∙ identity2 (λ h u. (literal (pos 2) ⊗ h ⊕ literal (pos 1)) ⊗ (literal (pos 1) ⊕ literal (pos 8) ⊗ u))
              (λ h u. (literal (pos 2) ⊗ h ⊕ literal (pos 1)) ⊕ literal (pos 8) ⊗ u ⊕ h ⊗ (literal (pos 16) ⊗ u)) refl (pos h) (pos (2 ^ k))
              ∙ ap (λ y. pos y +ℤ pos (8 * 2 ^ k) +ℤ pos h *ℤ pos (16 * 2 ^ k)) (sym e);
        }))

-- a whole number is even or odd
int_even_or_odd : (t : ℤ) → ((s : ℤ) × (t ≡ pos 2 *ℤ s)) ⊎ ((s : ℤ) × (t ≡ pos 2 *ℤ s +ℤ pos 1))
int_even_or_odd (pos n) =
    ⊎_elim (λ (p : (e : ℕ) × (n ≡ 2 * e)). inl (pos p.0, ap pos p.1)) (λ (p : (e : ℕ) × (n ≡ 2 * e + 1)). inr (pos p.0, ap pos p.1)) (even_or_odd n)
int_even_or_odd (negsuc n) =
    ⊎_elim (λ (p : (e : ℕ) × (n ≡ 2 * e)). let f = p.1 in inr (negsuc p.0, omega (arith, ints)))
    (λ (p : (e : ℕ) × (n ≡ 2 * e + 1)). let f = p.1 in inl (negsuc p.0, omega (arith, ints))) (even_or_odd n)

-- e is a power of 3 or the negative of one
unfoldable pub IsSignedPowerOfThree : ℕ → ℤ → Type 0
IsSignedPowerOfThree k e = (i : ℕ) × (i < 2 * 2 ^ k) × (Congruent (8 * 2 ^ k) e (pos (3 ^ i)) ⊎ Congruent (8 * 2 ^ k) e (neg_ℤ (pos (3 ^ i))))

-- every odd number is a power of 3 or the negative of one
pub IsSignedPowerOfThree-odd : (k h : ℕ) → IsSignedPowerOfThree k (pos (2 * h + 1))
unfolding IsSignedPowerOfThree
IsSignedPowerOfThree-odd zero h = by (h % 4) refl (mod-lt h four)
  where
    four : 0 < 4
    four = omega arith

    by : (r : ℕ) → h % 4 ≡ r → h % 4 < 4 → IsSignedPowerOfThree 0 (pos (2 * h + 1))
    by zero e l = (0, four_two, inl (record { quotient = pos (h / 4); equation = ap pos (omega arith) }))
      where
        four_two : 0 < 2
        four_two = omega arith
    by (suc zero) e l = (1, omega arith, inl (record { quotient = pos (h / 4); equation = ap pos (omega arith) }))
    by (suc (suc zero)) e l = (1, omega arith, inr (record { quotient = pos (h / 4 + 1); equation = omega (arith, ints) }))
    by (suc (suc (suc zero))) e l = (0, omega arith, inr (record { quotient = pos (h / 4 + 1); equation = omega (arith, ints) }))
    by (suc (suc (suc (suc r)))) e l = absurd (omega arith)
IsSignedPowerOfThree-odd (suc k) h = from (IsSignedPowerOfThree-odd k h)
  where
    lifted : (e : ℤ) (i : ℕ) → Congruent (8 * 2 ^ k) e (pos (3 ^ i)) →
        Congruent (16 * 2 ^ k) e (pos (3 ^ i)) ⊎ Congruent (16 * 2 ^ k) e (pos (3 ^ (i + 2 * 2 ^ k)))
    lifted e i c = ⊎_elim
        (λ (p : (s : ℤ) × (c.quotient ≡ pos 2 *ℤ s)). inl
        (record {
          quotient = p.0;
          equation = c.equation ∙ ap (λ t. pos (3 ^ i) +ℤ t *ℤ pos (8 * 2 ^ k)) p.1
              ∙ identity3 (λ a s u. a ⊕ literal (pos 2) ⊗ s ⊗ (literal (pos 8) ⊗ u)) (λ a s u. a ⊕ s ⊗ (literal (pos 16) ⊗ u)) refl (pos (3 ^ i)) p.0
              (pos (2 ^ k));
        }))
        (λ (p : (s : ℤ) × (c.quotient ≡ pos 2 *ℤ s +ℤ pos 1)). inr (Congruent-trans (16 * 2 ^ k)
        (record {
          quotient = p.0;
          equation = c.equation ∙ ap (λ t. pos (3 ^ i) +ℤ t *ℤ pos (8 * 2 ^ k)) p.1
              ∙ identity3 (λ a s u. a ⊕ (literal (pos 2) ⊗ s ⊕ literal (pos 1)) ⊗ (literal (pos 8) ⊗ u))
              (λ a s u. a ⊕ literal (pos 8) ⊗ u ⊕ s ⊗ (literal (pos 16) ⊗ u)) refl (pos (3 ^ i)) p.0 (pos (2 ^ k));
        })
        (Congruent-sym (16 * 2 ^ k) (shift k i))))
        (int_even_or_odd c.quotient)

    from : IsSignedPowerOfThree k (pos (2 * h + 1)) → IsSignedPowerOfThree (suc k) (pos (2 * h + 1))
    from (i, l, c) = ⊎_elim
        (λ (p : Congruent (8 * 2 ^ k) (pos (2 * h + 1)) (pos (3 ^ i))). ⊎_elim
        (λ (q : Congruent (16 * 2 ^ k) (pos (2 * h + 1)) (pos (3 ^ i))). (i, omega arith, inl (up (pos (2 * h + 1)) (pos (3 ^ i)) q)))
        (λ (q : Congruent (16 * 2 ^ k) (pos (2 * h + 1)) (pos (3 ^ (i + 2 * 2 ^ k)))).
        (i + 2 * 2 ^ k, omega arith, inl (up (pos (2 * h + 1)) (pos (3 ^ (i + 2 * 2 ^ k))) q)))
        (lifted (pos (2 * h + 1)) i p))
        (λ (p : Congruent (8 * 2 ^ k) (pos (2 * h + 1)) (neg_ℤ (pos (3 ^ i)))). ⊎_elim
        (λ (q : Congruent (16 * 2 ^ k) (neg_ℤ (pos (2 * h + 1))) (pos (3 ^ i))).
        (i, omega arith, inr (up (pos (2 * h + 1)) (neg_ℤ (pos (3 ^ i))) (turn (pos (2 * h + 1)) (pos (3 ^ i)) q))))
        (λ (q : Congruent (16 * 2 ^ k) (neg_ℤ (pos (2 * h + 1))) (pos (3 ^ (i + 2 * 2 ^ k)))).
        (i + 2 * 2 ^ k, omega arith, inr (up (pos (2 * h + 1)) (neg_ℤ (pos (3 ^ (i + 2 * 2 ^ k)))) (turn (pos (2 * h + 1)) (pos (3 ^ (i + 2 * 2 ^ k))) q))))
        (lifted (neg_ℤ (pos (2 * h + 1))) i
        (Congruent-trans (8 * 2 ^ k) (Congruent-neg (8 * 2 ^ k) p) (Congruent-equal (8 * 2 ^ k) (neg_ℤ-neg_ℤ (pos (3 ^ i)))))))
        c
      where
        more : (k : ℕ) → 16 * 2 ^ k ≡ 8 * 2 ^ suc k
        more k = omega arith

        up : (x y : ℤ) → Congruent (16 * 2 ^ k) x y → Congruent (8 * 2 ^ suc k) x y
        up x y q = subst (λ m. Congruent m x y) (more k) q

        turn : (x y : ℤ) → Congruent (16 * 2 ^ k) (neg_ℤ x) y → Congruent (16 * 2 ^ k) x (neg_ℤ y)
        turn x y q = Congruent-trans (16 * 2 ^ k) (Congruent-equal (16 * 2 ^ k) (sym (neg_ℤ-neg_ℤ x))) (Congruent-neg (16 * 2 ^ k) q)

-- ---- each once
-- congruent modulo 16u: then modulo 8u
weaker : (u : ℕ) {x y : ℤ} → Congruent (16 * u) x y → Congruent (8 * u) x y
weaker u {x} {y} h =
    record {
      quotient = pos 2 *ℤ h.quotient;
      equation = h.equation
          ∙ identity3 (λ y t u. y ⊕ t ⊗ (literal (pos 16) ⊗ u)) (λ y t u. y ⊕ (literal (pos 2) ⊗ t) ⊗ (literal (pos 8) ⊗ u)) refl y h.quotient (pos u);
    }

-- half the modulus is not 0
no_half : (u : ℕ) (x : ℤ) → 0 < u → Congruent (16 * u) (x +ℤ pos (8 * u)) x → ⊥
no_half u x h c =
    let d : Congruent (16 * u) (pos (8 * u)) (pos 0) = record {
      quotient = c.quotient;
      equation = identity2 (λ x b. b) (λ x b. (x ⊕ b) ⊖ x) refl x (pos (8 * u)) ∙ ap (λ y. y -ℤ x) c.equation
          ∙ identity3 (λ x t m. (x ⊕ t ⊗ m) ⊖ x) (λ x t m. literal (pos 0) ⊕ t ⊗ m) refl x c.quotient (pos (16 * u));
    } in
    let e = residue_equal (16 * u) (pos (8 * u)) (pos 0) (omega arith) d in
    let l : (8 * u) % (16 * u) ≡ 8 * u = mod-eq_of_lt (omega arith) in
    let z : 0 % (16 * u) ≡ 0 = mod-eq_of_lt (omega arith) in
    omega (arith, e, l, z)

-- no two of the powers are congruent
pub power_of_three_once : (k i j : ℕ) → i < 2 * 2 ^ k → j < 2 * 2 ^ k → Congruent (8 * 2 ^ k) (pos (3 ^ i)) (pos (3 ^ j)) → i ≡ j
power_of_three_once zero zero zero li lj c = refl
power_of_three_once zero zero (suc zero) li lj c = absurd (let e : 1 ≡ 3 = residue_equal 8 (pos 1) (pos 3) (omega arith) c in omega arith)
power_of_three_once zero (suc zero) zero li lj c = absurd (let e : 3 ≡ 1 = residue_equal 8 (pos 3) (pos 1) (omega arith) c in omega arith)
power_of_three_once zero (suc zero) (suc zero) li lj c = refl
power_of_three_once zero (suc (suc i)) j li lj c = absurd (omega arith)
power_of_three_once zero zero (suc (suc j)) li lj c = absurd (omega arith)
power_of_three_once zero (suc zero) (suc (suc j)) li lj c = absurd (omega arith)
power_of_three_once (suc k) i j li lj c = ⊎_elim
    (λ (a : i < 2 * 2 ^ k). ⊎_elim
    (λ (b : j < 2 * 2 ^ k). power_of_three_once k i j a b (weaker (2 ^ k) c'))
    (λ (b : 2 * 2 ^ k ≤ j). absurd (cross i j a b lj (λ x y p q r. power_of_three_once k x y p q r) c'))
    (cases_lt j (2 * 2 ^ k)))
    (λ (a : 2 * 2 ^ k ≤ i). ⊎_elim
    (λ (b : j < 2 * 2 ^ k). absurd (cross j i b a li (λ x y p q r. power_of_three_once k x y p q r) (Congruent-sym (16 * 2 ^ k) c')))
    (λ (b : 2 * 2 ^ k ≤ j). both a b (power_of_three_once k (i - 2 * 2 ^ k) (j - 2 * 2 ^ k) (omega arith) (omega arith)
    (weaker (2 ^ k)
    (less (pos (3 ^ (i - 2 * 2 ^ k))) (pos (3 ^ (j - 2 * 2 ^ k))) (pos (8 * 2 ^ k))
    (Congruent-trans (16 * 2 ^ k) (Congruent-sym (16 * 2 ^ k) (at i a)) (Congruent-trans (16 * 2 ^ k) c' (at j b)))))))
    (cases_lt j (2 * 2 ^ k)))
    (cases_lt i (2 * 2 ^ k))
  where
    more : (k : ℕ) → 8 * 2 ^ suc k ≡ 16 * 2 ^ k
    more k = omega arith

    c' : Congruent (16 * 2 ^ k) (pos (3 ^ i)) (pos (3 ^ j))
    c' = subst (λ m. Congruent m (pos (3 ^ i)) (pos (3 ^ j))) (more k) c

    at : (i : ℕ) → 2 * 2 ^ k ≤ i → Congruent (16 * 2 ^ k) (pos (3 ^ i)) (pos (3 ^ (i - 2 * 2 ^ k)) +ℤ pos (8 * 2 ^ k))
    at i a = subst (λ p. Congruent (16 * 2 ^ k) (pos (3 ^ p)) (pos (3 ^ (i - 2 * 2 ^ k)) +ℤ pos (8 * 2 ^ k))) (back i a) (shift k (i - 2 * 2 ^ k))
      where
        back : (i : ℕ) → 2 * 2 ^ k ≤ i → i - 2 * 2 ^ k + 2 * 2 ^ k ≡ i
        back i a = omega arith

    less : (x y b : ℤ) → Congruent (16 * 2 ^ k) (x +ℤ b) (y +ℤ b) → Congruent (16 * 2 ^ k) x y
    less x y b h =
        record {
          quotient = h.quotient;
          equation = identity2 (λ x b. x) (λ x b. (x ⊕ b) ⊖ b) refl x b ∙ ap (λ z. z -ℤ b) h.equation
              ∙ identity4 (λ y b t m. (y ⊕ b ⊕ t ⊗ m) ⊖ b) (λ y b t m. y ⊕ t ⊗ m) refl y b h.quotient (pos (16 * 2 ^ k));
        }

    both : 2 * 2 ^ k ≤ i → 2 * 2 ^ k ≤ j → i - 2 * 2 ^ k ≡ j - 2 * 2 ^ k → i ≡ j
    both a b e = omega arith

    cross : (i j : ℕ) → i < 2 * 2 ^ k → 2 * 2 ^ k ≤ j → j < 2 * 2 ^ suc k →
        ((x y : ℕ) → x < 2 * 2 ^ k → y < 2 * 2 ^ k → Congruent (8 * 2 ^ k) (pos (3 ^ x)) (pos (3 ^ y)) → x ≡ y) →
        Congruent (16 * 2 ^ k) (pos (3 ^ i)) (pos (3 ^ j)) → ⊥
    cross i j a b f rec h =
        let d = Congruent-trans (16 * 2 ^ k) h (at j b) in
        let round : Congruent (8 * 2 ^ k) (pos (3 ^ (j - 2 * 2 ^ k)) +ℤ pos (8 * 2 ^ k)) (pos (3 ^ (j - 2 * 2 ^ k))) = record
        { quotient = pos 1; equation = identity2 (λ x m. x ⊕ m) (λ x m. x ⊕ literal (pos 1) ⊗ m) refl (pos (3 ^ (j - 2 * 2 ^ k))) (pos (8 * 2 ^ k)) } in
        let e = rec i (j - 2 * 2 ^ k) a (omega arith) (Congruent-trans (8 * 2 ^ k) (weaker (2 ^ k) d) round) in
        no_half (2 ^ k) (pos (3 ^ (j - 2 * 2 ^ k))) (pow_pos k)
        (Congruent-trans (16 * 2 ^ k) (Congruent-sym (16 * 2 ^ k) d) (Congruent-equal (16 * 2 ^ k) (ap (λ i. pos (3 ^ i)) e)))

-- a power of 3 is 1 or 3 modulo 8
mod_eight : (i : ℕ) → Congruent 8 (pos (3 ^ i)) (pos 1) ⊎ Congruent 8 (pos (3 ^ i)) (pos 3)
mod_eight zero = inl (Congruent-refl 8 (pos 1))
mod_eight (suc i) = ⊎_elim
    (λ (c : Congruent 8 (pos (3 ^ i)) (pos 1)). inr
    (Congruent-trans 8 (Congruent-equal 8 (ap pos (pow-suc 3 i))) (Congruent-mul 8 c (Congruent-refl 8 (pos 3)))))
    (λ (c : Congruent 8 (pos (3 ^ i)) (pos 3)). inl
    (Congruent-trans 8 (Congruent-equal 8 (ap pos (pow-suc 3 i)))
    (Congruent-trans 8 (Congruent-mul 8 c (Congruent-refl 8 (pos 3))) (record { quotient = pos 1; equation = refl }))))
    (mod_eight i)

-- and no power is the negative of another
pub power_of_three_sign : (k i j : ℕ) → Congruent (8 * 2 ^ k) (pos (3 ^ i)) (neg_ℤ (pos (3 ^ j))) → ⊥
power_of_three_sign k i j c = ⊎_elim
    (λ (a : Congruent 8 (pos (3 ^ i)) (pos 1)). ⊎_elim (λ (b : Congruent 8 (pos (3 ^ j)) (pos 1)). clash 1 1 a b (omega arith) (omega arith))
    (λ (b : Congruent 8 (pos (3 ^ j)) (pos 3)). clash 1 3 a b (omega arith) (omega arith)) (mod_eight j))
    (λ (a : Congruent 8 (pos (3 ^ i)) (pos 3)). ⊎_elim (λ (b : Congruent 8 (pos (3 ^ j)) (pos 1)). clash 3 1 a b (omega arith) (omega arith))
    (λ (b : Congruent 8 (pos (3 ^ j)) (pos 3)). clash 3 3 a b (omega arith) (omega arith)) (mod_eight j))
    (mod_eight i)
  where
    c8 : Congruent 8 (pos (3 ^ i)) (neg_ℤ (pos (3 ^ j)))
    c8 =
        record {
          quotient = pos (2 ^ k) *ℤ c.quotient;
          equation = c.equation
              ∙ identity3 (λ y t u. y ⊕ t ⊗ (literal (pos 8) ⊗ u)) (λ y t u. y ⊕ (u ⊗ t) ⊗ literal (pos 8)) refl (neg_ℤ (pos (3 ^ j))) c.quotient (pos (2 ^ k));
        }

    clash : (x y : ℕ) → Congruent 8 (pos (3 ^ i)) (pos x) → Congruent 8 (pos (3 ^ j)) (pos y) → 0 < x + y → x + y < 8 → ⊥
    clash x y a b p l =
        let d : Congruent 8 (pos x +ℤ pos y) (pos (3 ^ i) +ℤ pos (3 ^ j)) = Congruent-sym 8 (Congruent-add 8 a b) in
        let z : Congruent 8 (pos (3 ^ i) +ℤ pos (3 ^ j)) (pos 0) = Congruent-trans 8 (Congruent-add 8 c8 (Congruent-refl 8 (pos (3 ^ j))))
        (Congruent-equal 8 (identity1 (λ y. minus y ⊕ y) (λ y. literal (pos 0)) refl (pos (3 ^ j)))) in
        let e : (x + y) % 8 ≡ 0 % 8 = residue_equal 8 (pos (x + y)) (pos 0) (omega arith) (Congruent-trans 8 d z) in
        omega arith

-- ---- the order of 3
-- the order of 3
pub power_of_three_order : (u : ℕ) → Congruent (8 * 2 ^ u) (pos (3 ^ (2 * 2 ^ u))) (pos 1)
power_of_three_order zero = record { quotient = pos 1; equation = refl }
power_of_three_order (suc u) = from (power_of_three_order u)
  where
    from : Congruent (8 * 2 ^ u) (pos (3 ^ (2 * 2 ^ u))) (pos 1) → Congruent (8 * 2 ^ suc u) (pos (3 ^ (2 * 2 ^ suc u))) (pos 1)
    from h = subst (λ v. Congruent (8 * v) (pos (3 ^ (2 * v))) (pos 1)) (sym (double u)) (record {
      quotient = h.quotient *ℤ (pos 1 +ℤ pos 4 *ℤ (pos (2 ^ u) *ℤ h.quotient));
      equation = ap pos (ap (λ e. 3 ^ e) (twice (2 ^ u)) ∙ pow-add 3 (2 * 2 ^ u) (2 * 2 ^ u))
          ∙ ap (λ y. y *ℤ y) h.equation
          ∙ identity2 (λ u t. (literal (pos 1) ⊕ t ⊗ (literal (pos 8) ⊗ u)) ⊗ (literal (pos 1) ⊕ t ⊗ (literal (pos 8) ⊗ u)))
          (λ u t. literal (pos 1) ⊕ (t ⊗ (literal (pos 1) ⊕ literal (pos 4) ⊗ (u ⊗ t))) ⊗ (literal (pos 8) ⊗ (literal (pos 2) ⊗ u))) refl
          (pos (2 ^ u)) h.quotient;
    })
      where
        double : (k : ℕ) → 2 ^ suc k ≡ 2 * 2 ^ k
        double k = omega arith

        twice : (v : ℕ) → 2 * (2 * v) ≡ 2 * v + 2 * v
        twice v = omega arith

-- 3^(i + k) and 3^((i + k) mod n/2) are one power
pub power_of_three_round : (u i k : ℕ) → i < 2 * 2 ^ u → k < 2 * 2 ^ u → Congruent (8 * 2 ^ u) (pos (3 ^ (i + k))) (pos (3 ^ ((i + k) % (2 * 2 ^ u))))
power_of_three_round u i k li lk = ⊎_elim
    (λ (a : i + k < 2 * 2 ^ u). Congruent-equal m (ap (λ e. pos (3 ^ e)) (sym (mod-eq_of_lt a))))
    (λ (a : 2 * 2 ^ u ≤ i + k).
    Congruent-trans m (Congruent-equal m (ap (λ e. pos (3 ^ e)) (over u i k a) ∙ ap pos (pow-add 3 (i + k - 2 * 2 ^ u) (2 * 2 ^ u))))
    (Congruent-trans m (Congruent-mul m (Congruent-refl m (pos (3 ^ (i + k - 2 * 2 ^ u)))) (power_of_three_order u))
    (Congruent-equal m (int_mul_one (pos (3 ^ (i + k - 2 * 2 ^ u))) ∙ ap (λ e. pos (3 ^ e)) (sym (less u i k li lk a))))))
    (cases_lt (i + k) (2 * 2 ^ u))
  where
    m : ℕ
    m = 8 * 2 ^ u

    over : (u i k : ℕ) → 2 * 2 ^ u ≤ i + k → i + k ≡ i + k - 2 * 2 ^ u + 2 * 2 ^ u
    over u i k a = omega arith

    less : (u i k : ℕ) → i < 2 * 2 ^ u → k < 2 * 2 ^ u → 2 * 2 ^ u ≤ i + k → (i + k) % (2 * 2 ^ u) ≡ i + k - 2 * 2 ^ u
    less u i k li lk a = ap (λ e. e % (2 * 2 ^ u)) (turn u i k a) ∙ mod-mul-add 1 (2 * 2 ^ u) (i + k - 2 * 2 ^ u) (omega arith)
      where
        turn : (u i k : ℕ) → 2 * 2 ^ u ≤ i + k → i + k ≡ 1 * (2 * 2 ^ u) + (i + k - 2 * 2 ^ u)
        turn u i k a = omega arith
