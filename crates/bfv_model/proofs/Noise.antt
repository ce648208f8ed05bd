-- The noise of a cipher, and when a cipher holds a plaintext.
use Rattle.std.proofs.Common.{ap, arith, le_trans, mul-le-mul_left, nat_abs, neg_ℤ, pos, subst, ℕ, ℤ, ◌*ℤ◌, ◌*◌, ◌+ℤ◌, ◌+◌, ◌-ℤ◌, ◌<◌, ◌∙◌, ◌≡◌, ◌≤◌}
use Rattle.std.proofs.lemmas.Int.{ints}
use Rattle.ring_law.specs.Polynomials.{AllWithin, CongruentPolynomials, power_coefficient, ring_product}
use Rattle.ring_law.specs.Residues.{Congruent, centred_residue}
use Rattle.ring_law.specs.Sums.{sum_below}
use Rattle.ring_law.proofs.Congruence.{Congruent-add, Congruent-refl, Congruent-scaled, Congruent-trans}
use Rattle.ring_law.proofs.PolynomialRing.{ring_product_congruent}
use Rattle.ring_law.proofs.Residues.{Congruent-centred_residue, centred_residue_least}
use Rattle.ring_law.proofs.Sums.{sum_below_zero}
use Rattle.ring_law.proofs.WholeNumbers.{int_zero_mul}
use Rattle.bfv_model.specs.Holds.{Holds, phase, zero_polynomial}

pub mul_positive : (a b : ℕ) → 0 < a → 0 < b → 0 < a * b
mul_positive a b first second = let more : a * 1 ≤ a * b = mul-le-mul_left a second in omega arith

-- zero times c
pub ring_product_zero : (n : ℕ) (c : ℕ → ℤ) (k : ℕ) → ring_product n zero_polynomial c k ≡ pos 0
unfolding ring_product
ring_product_zero n c k = sum_below_zero n (λ i. sum_below n (λ j. (pos 0 *ℤ c j) *ℤ power_coefficient n (i + j) k))
    (λ i l. sum_below_zero n (λ j. (pos 0 *ℤ c j) *ℤ power_coefficient n (i + j) k) (λ j l. simp int_zero_mul))

-- of a cipher of two parts
pub phase_of_two_parts : (n : ℕ) (x0 x1 s : ℕ → ℤ) (k : ℕ) → phase n x0 x1 zero_polynomial s k ≡ x0 k +ℤ ring_product n x1 s k
phase_of_two_parts n x0 x1 s k = ap (λ z. x0 k +ℤ ring_product n x1 s k +ℤ z) (ring_product_zero n (ring_product n s s) k) ∙ last
    (x0 k +ℤ ring_product n x1 s k)
  where
    last : (a : ℤ) → a +ℤ pos 0 ≡ a
    last a = omega (arith, ints)

-- the phase counts modulo q alone
pub phase_congruent : (n q : ℕ) {x0 x1 x2 y0 y1 y2 : ℕ → ℤ} (s : ℕ → ℤ) → CongruentPolynomials q n x0 y0 → CongruentPolynomials q n x1 y1
    → CongruentPolynomials q n x2 y2 → (k : ℕ) → k < n → Congruent q (phase n x0 x1 x2 s k) (phase n y0 y1 y2 s k)
phase_congruent n q s h0 h1 h2 k l =
    Congruent-add q (Congruent-add q (h0.at k l) ((ring_product_congruent q n h1 (record { at = λ i l. Congruent-refl q (s i) })).at k l))
    ((ring_product_congruent q n h2 (record { at = λ i l. Congruent-refl q (ring_product n s s i) })).at k l)

-- t times the phase is q times m and some noise, but for multiples of t*q
pub record Noise (n q t : ℕ) (x0 x1 x2 s : ℕ → ℤ) (m : ℕ → ℕ) (W : ℕ) : Type 0 where
  pub noise : ℕ → ℤ
  pub multiple : ℕ → ℤ
  pub equation : (k : ℕ) → pos t *ℤ phase n x0 x1 x2 s k ≡ pos q *ℤ pos (m k) +ℤ noise k +ℤ multiple k *ℤ (pos t *ℤ pos q)
  pub small : AllWithin n W noise

-- what a cipher that holds m has for noise
pub noise_of : {n q t : ℕ} {x0 x1 x2 s : ℕ → ℤ} {m : ℕ → ℕ} {W : ℕ} → 0 < t * q → Holds n q t x0 x1 x2 s m W → Noise n q t x0 x1 x2 s m W
noise_of {n} {q} {t} {x0} {x1} {x2} {s} {m} {W} some h = record {
  noise = λ k. centred_residue (t * q) (gap k);
  multiple = λ k. (Congruent-centred_residue (t * q) (gap k) some).quotient;
  equation = λ k. back (pos t *ℤ phase n x0 x1 x2 s k) (pos q *ℤ pos (m k)) (centred_residue (t * q) (gap k))
      ((Congruent-centred_residue (t * q) (gap k) some).quotient *ℤ pos (t * q)) (Congruent-centred_residue (t * q) (gap k) some).equation;
  small = h.near;
}
  where
    gap : ℕ → ℤ
    gap k = pos t *ℤ phase n x0 x1 x2 s k -ℤ pos q *ℤ pos (m k)

    back : (a b w r : ℤ) → a -ℤ b ≡ w +ℤ r → a ≡ b +ℤ w +ℤ r
    back a b w r e = omega (arith, ints)

-- a small number that is congruent for each coefficient shows that a cipher holds m
pub Holds-from_congruent : {n q t : ℕ} {x0 x1 x2 s : ℕ → ℤ} {m : ℕ → ℕ} {W : ℕ} (w : ℕ → ℤ) → 0 < t * q → ((k : ℕ) → k < n → m k < t)
    → ((k : ℕ) → k < n → Congruent (t * q) (pos t *ℤ phase n x0 x1 x2 s k -ℤ pos q *ℤ pos (m k)) (w k)) → AllWithin n W w
    → Holds n q t x0 x1 x2 s m W
Holds-from_congruent {n} {q} {t} {x0} {x1} {x2} {s} {m} {W} w some p c small = record {
  plain = p;
  near = λ k l. le_trans (centred_residue_least (t * q) (pos t *ℤ phase n x0 x1 x2 s k -ℤ pos q *ℤ pos (m k)) (w k) some (c k l))
      (small k l);
}

-- only the parts modulo q count
pub Holds-congruent : {n q t : ℕ} {x0 x1 x2 y0 y1 y2 s : ℕ → ℤ} {m : ℕ → ℕ} {W : ℕ} → 0 < t * q → CongruentPolynomials q n y0 x0
    → CongruentPolynomials q n y1 x1 → CongruentPolynomials q n y2 x2 → Holds n q t x0 x1 x2 s m W → Holds n q t y0 y1 y2 s m W
Holds-congruent {n} {q} {t} {x0} {x1} {x2} {y0} {y1} {y2} {s} {m} {W} some h0 h1 h2 h =
    Holds-from_congruent (λ k. centred_residue (t * q) (pos t *ℤ phase n x0 x1 x2 s k -ℤ pos q *ℤ pos (m k))) some h.plain
    (λ k l. Congruent-trans (t * q)
    (Congruent-add (t * q) (Congruent-scaled t q (phase_congruent n q s h0 h1 h2 k l))
    (Congruent-refl (t * q) (neg_ℤ (pos q *ℤ pos (m k)))))
    (Congruent-centred_residue (t * q) (pos t *ℤ phase n x0 x1 x2 s k -ℤ pos q *ℤ pos (m k)) some))
    h.near

-- a larger bound
pub Holds-within : {n q t : ℕ} {x0 x1 x2 s : ℕ → ℤ} {m : ℕ → ℕ} (W V : ℕ) → W ≤ V → Holds n q t x0 x1 x2 s m W → Holds n q t x0 x1 x2 s m V
Holds-within W V l h = record { plain = h.plain; near = λ k b. le_trans (h.near k b) l }

-- an equal plaintext
pub Holds-equal_plain : {n q t : ℕ} {x0 x1 x2 s : ℕ → ℤ} {m : ℕ → ℕ} {W : ℕ} (m' : ℕ → ℕ) → ((k : ℕ) → k < n → m k ≡ m' k)
    → Holds n q t x0 x1 x2 s m W → Holds n q t x0 x1 x2 s m' W
Holds-equal_plain {n} {q} {t} {x0} {x1} {x2} {s} {m} {W} m' e h = record {
  plain = λ k l. subst (λ a. a < t) (e k l) (h.plain k l);
  near = λ k l. subst (λ a. nat_abs (centred_residue (t * q) (pos t *ℤ phase n x0 x1 x2 s k -ℤ pos q *ℤ pos a)) ≤ W) (e k l) (h.near k l);
}
