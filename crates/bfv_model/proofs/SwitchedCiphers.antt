-- What relinearised and turned ciphers hold.
use Rattle.std.proofs.Common.{ap, arith, mul-le-mul_left, nat_abs, neg_ℤ, pos, refl, subst, sym, ℕ, ℤ, ◌*ℤ◌, ◌*◌, ◌+ℤ◌, ◌+◌, ◌-ℤ◌, ◌<◌, ◌^◌, ◌∙◌, ◌≡◌, ◌≤◌}
use Rattle.std.proofs.lemmas.Int.{ints, unsigned_abs-mul}
use Rattle.ring_law.specs.Polynomials.{AllWithin, power_coefficient, ring_product, ring_sum, ring_turn}
use Rattle.ring_law.specs.Residues.{Congruent, HasInverse, centred_residue, residue}
use Rattle.ring_law.specs.Rows.{natural_polynomial}
use Rattle.ring_law.proofs.Congruence.{Congruent-add, Congruent-equal, Congruent-neg, Congruent-refl, Congruent-scaled, Congruent-sym, Congruent-trans}
use Rattle.ring_law.proofs.Inverses.{HasInverse-odd}
use Rattle.ring_law.proofs.PowerCoefficients.{power_coefficient_odd_round}
use Rattle.ring_law.proofs.Residues.{Congruent-centred_residue, Congruent-residue, residue_lt}
use Rattle.ring_law.proofs.RingProduct.{ring_product_add}
use Rattle.ring_law.proofs.RingSolver.{identity4, minus, ◌⊕◌, ◌⊖◌, ◌⊗◌}
use Rattle.ring_law.proofs.RingTurn.{ring_turn_add, ring_turn_congruent, ring_turn_product, ring_turn_scale, ring_turn_within}
use Rattle.bfv_model.specs.Holds.{Holds, phase, zero_polynomial}
use Rattle.bfv_model.specs.Keys.{StandsForProduct}
use Rattle.bfv_model.specs.Plaintexts.{plain_turn}
use Rattle.bfv_model.proofs.Noise.{Holds-from_congruent, phase_of_two_parts}

-- a phase that differs by a small polynomial modulo q
pub Holds-shifted : {n q t : ℕ} {x0 x1 x2 s y0 y1 s' : ℕ → ℤ} {m : ℕ → ℕ} {W : ℕ} (Z : ℕ) (v : ℕ → ℤ) → 0 < t * q → AllWithin n Z v
    → ((k : ℕ) → k < n → Congruent q (phase n y0 y1 zero_polynomial s' k) (phase n x0 x1 x2 s k +ℤ v k)) → Holds n q t x0 x1 x2 s m W
    → Holds n q t y0 y1 zero_polynomial s' m (W + t * Z)
Holds-shifted {n} {q} {t} {x0} {x1} {x2} {s} {y0} {y1} {s'} {m} {W} Z v some small c h =
    Holds-from_congruent (λ k. centred_residue (t * q) (pos t *ℤ phase n x0 x1 x2 s k -ℤ pos q *ℤ pos (m k)) +ℤ pos t *ℤ v k) some h.plain
    (λ k l.
    Congruent-trans (t * q) (Congruent-add (t * q) (Congruent-scaled t q (c k l)) (Congruent-refl (t * q) (neg_ℤ (pos q *ℤ pos (m k)))))
    (Congruent-trans (t * q)
    (Congruent-equal (t * q)
    (identity4 (λ t p v b. t ⊗ (p ⊕ v) ⊕ minus b) (λ t p v b. (t ⊗ p ⊖ b) ⊕ t ⊗ v) refl (pos t) (phase n x0 x1 x2 s k) (v k)
    (pos q *ℤ pos (m k))))
    (Congruent-add (t * q) (Congruent-centred_residue (t * q) (pos t *ℤ phase n x0 x1 x2 s k -ℤ pos q *ℤ pos (m k)) some)
    (Congruent-refl (t * q) (pos t *ℤ v k)))))
    (λ k l. sum (centred_residue (t * q) (pos t *ℤ phase n x0 x1 x2 s k -ℤ pos q *ℤ pos (m k))) (v k) (h.near k l) (small k l))
  where
    sum : (a v : ℤ) → nat_abs a ≤ W → nat_abs v ≤ Z → nat_abs (a +ℤ pos t *ℤ v) ≤ W + t * Z
    sum a v h k = let p = unsigned_abs-mul (pos t) v in let g : t * nat_abs v ≤ t * Z = mul-le-mul_left t k in two a (pos t *ℤ v)
        (t * nat_abs v) p h g
      where
        two : (a b : ℤ) (x : ℕ) → nat_abs b ≡ x → nat_abs a ≤ W → x ≤ t * Z → nat_abs (a +ℤ b) ≤ W + t * Z
        two a b x e h g = omega (arith, ints)

congruent_gap : (q : ℕ) (a b : ℤ) → 0 < q → Congruent q a (b +ℤ centred_residue q (a -ℤ b))
congruent_gap q a b h = Congruent-trans q (Congruent-equal q (recombined a b))
    (Congruent-add q (Congruent-refl q b) (Congruent-centred_residue q (a -ℤ b) h))
  where
    recombined : (a b : ℤ) → a ≡ b +ℤ (a -ℤ b)
    recombined a b = omega (arith, ints)

-- relin: the pair of c2 is added to c0 and c1
pub Holds-relinearised : {n q t W : ℕ} {c0 c1 c2 s : ℕ → ℤ} {m : ℕ → ℕ} (Z : ℕ) (y0 y1 : ℕ → ℤ) → 0 < q → 0 < t * q
    → Holds n q t c0 c1 c2 s m W → StandsForProduct n q Z y0 y1 c2 (ring_product n s s) s
    → Holds n q t (ring_sum c0 y0) (ring_sum c1 y1) zero_polynomial s m (W + t * Z)
Holds-relinearised {n} {q} {t} {W} {c0} {c1} {c2} {s} {m} Z y0 y1 pos_q some h st =
    Holds-shifted Z (λ k. centred_residue q (y0 k +ℤ ring_product n y1 s k -ℤ ring_product n c2 (ring_product n s s) k)) some st
    (λ k l.
    Congruent-trans q (Congruent-equal q (phase_of_two_parts n (ring_sum c0 y0) (ring_sum c1 y1) s k ∙ ap (λ z. c0 k +ℤ y0 k +ℤ z) (ring_product_add n c1 y1 s k) ∙ turn (c0 k) (y0 k) (ring_product n c1 s k) (ring_product n y1 s k)))
    (Congruent-trans q (Congruent-add q (Congruent-refl q (c0 k +ℤ ring_product n c1 s k)) (congruent_gap q (y0 k +ℤ ring_product n y1 s k) (ring_product n c2 (ring_product n s s) k) pos_q))
    (Congruent-equal q (regroup (c0 k +ℤ ring_product n c1 s k) (ring_product n c2 (ring_product n s s) k) (centred_residue q (y0 k +ℤ ring_product n y1 s k -ℤ ring_product n c2 (ring_product n s s) k))))))
    h
  where
    turn : (a b c d : ℤ) → a +ℤ b +ℤ (c +ℤ d) ≡ a +ℤ c +ℤ (b +ℤ d)
    turn a b c d = omega (arith, ints)

    regroup : (a b c : ℤ) → a +ℤ (b +ℤ c) ≡ a +ℤ b +ℤ c
    regroup a b c = omega (arith, ints)

-- turn and swap: of a cipher under source, the pair of c1 replaces c1 and is added to c0
pub Holds-moved : {n q t W : ℕ} {c0 c1 source s : ℕ → ℤ} {m : ℕ → ℕ} (Z : ℕ) (y0 y1 : ℕ → ℤ) → 0 < q → 0 < t * q
    → Holds n q t c0 c1 zero_polynomial source m W → StandsForProduct n q Z y0 y1 c1 source s
    → Holds n q t (ring_sum c0 y0) y1 zero_polynomial s m (W + t * Z)
Holds-moved {n} {q} {t} {W} {c0} {c1} {source} {s} {m} Z y0 y1 pos_q some h st =
    Holds-shifted Z (λ k. centred_residue q (y0 k +ℤ ring_product n y1 s k -ℤ ring_product n c1 source k)) some st
    (λ k l.
    Congruent-trans q (Congruent-equal q (phase_of_two_parts n (ring_sum c0 y0) y1 s k ∙ turn (c0 k) (y0 k) (ring_product n y1 s k)))
    (Congruent-trans q (Congruent-add q (Congruent-refl q (c0 k)) (congruent_gap q (y0 k +ℤ ring_product n y1 s k) (ring_product n c1 source k) pos_q))
    (Congruent-equal q (regroup (c0 k) (ring_product n c1 source k) (centred_residue q (y0 k +ℤ ring_product n y1 s k -ℤ ring_product n c1 source k)) ∙ ap (λ z. z +ℤ centred_residue q (y0 k +ℤ ring_product n y1 s k -ℤ ring_product n c1 source k)) (sym (phase_of_two_parts n c0 c1 source k))))))
    h
  where
    turn : (a b d : ℤ) → a +ℤ b +ℤ d ≡ a +ℤ (b +ℤ d)
    turn a b d = omega (arith, ints)

    regroup : (a b c : ℤ) → a +ℤ (b +ℤ c) ≡ a +ℤ b +ℤ c
    regroup a b c = omega (arith, ints)

-- ---- the turn of X to X^g
module _ {n q t W : ℕ} {c0 c1 s : ℕ → ℤ} {m : ℕ → ℕ} (g : ℕ) (pos_n : 0 < n) (pos_t : 0 < t) (some : 0 < t * q) (odd : (p k : ℕ) → power_coefficient n (g * (p + n)) k ≡ neg_ℤ (power_coefficient n (g * p) k)) (inv : HasInverse n g) (h : Holds n q t c0 c1 zero_polynomial s m W) where
  noise : ℕ → ℤ
  noise k = centred_residue (t * q) (pos t *ℤ phase n c0 c1 zero_polynomial s k -ℤ pos q *ℤ pos (m k))

  phase_turn : (k : ℕ)
      → phase n (ring_turn n g c0) (ring_turn n g c1) zero_polynomial (ring_turn n g s) k ≡ ring_turn n g
      (λ i. c0 i +ℤ ring_product n c1 s i) k
  phase_turn k =
      phase_of_two_parts n (ring_turn n g c0) (ring_turn n g c1) (ring_turn n g s) k
      ∙ ap (λ z. ring_turn n g c0 k +ℤ z) (sym (ring_turn_product n g pos_n odd c1 s k))
      ∙ sym (ring_turn_add n g c0 (ring_product n c1 s) k)

  -- t * phase and q * m, each turned
  gap_turn : (k : ℕ) → Congruent (t * q) (pos t *ℤ ring_turn n g (λ i. c0 i +ℤ ring_product n c1 s i) k) (ring_turn n g noise k +ℤ pos q *ℤ ring_turn n g (natural_polynomial m) k)
  unfolding noise
  gap_turn k =
      Congruent-trans (t * q) (Congruent-equal (t * q) (sym (ring_turn_scale n g (pos t) (λ i. c0 i +ℤ ring_product n c1 s i) k)))
      (Congruent-trans (t * q)
      (ring_turn_congruent (t * q) n g (λ i. pos t *ℤ (c0 i +ℤ ring_product n c1 s i)) (λ i. noise i +ℤ pos q *ℤ natural_polynomial m i)
      (λ i l. each i) k)
      (Congruent-equal (t * q)
      (ring_turn_add n g noise (λ i. pos q *ℤ natural_polynomial m i) k ∙ ap (λ z. ring_turn n g noise k +ℤ z)
      (ring_turn_scale n g (pos q) (natural_polynomial m) k))))
    where
      recombined : (a b : ℤ) → a ≡ a -ℤ b +ℤ b
      recombined a b = omega (arith, ints)

      each : (i : ℕ) → Congruent (t * q) (pos t *ℤ (c0 i +ℤ ring_product n c1 s i)) (noise i +ℤ pos q *ℤ natural_polynomial m i)
      each i =
          Congruent-trans (t * q)
          (Congruent-equal (t * q)
          (ap (λ z. pos t *ℤ z) (sym (phase_of_two_parts n c0 c1 s i)) ∙ recombined (pos t *ℤ phase n c0 c1 zero_polynomial s i)
          (pos q *ℤ natural_polynomial m i)))
          (Congruent-add (t * q)
          (Congruent-centred_residue (t * q) (pos t *ℤ phase n c0 c1 zero_polynomial s i -ℤ pos q *ℤ natural_polynomial m i) some)
          (Congruent-refl (t * q) (pos q *ℤ natural_polynomial m i)))

  -- the turned cipher holds the turned plaintext under the turned secret
  pub Holds-turned : Holds n q t (ring_turn n g c0) (ring_turn n g c1) zero_polynomial (ring_turn n g s) (plain_turn n g t m) W
  unfolding noise
  Holds-turned = Holds-from_congruent (ring_turn n g noise) some (λ k l. residue_lt t (ring_turn n g (natural_polynomial m) k) pos_t)
      (λ k l. Congruent-trans (t * q)
      (Congruent-add (t * q) (Congruent-trans (t * q) (Congruent-equal (t * q) (ap (λ z. pos t *ℤ z) (phase_turn k))) (gap_turn k))
      (Congruent-neg (t * q)
      (subst (λ z. Congruent z (pos q *ℤ pos (residue t (ring_turn n g (natural_polynomial m) k)))
      (pos q *ℤ ring_turn n g (natural_polynomial m) k)) (flip q t)
      (Congruent-scaled q t (Congruent-sym t (Congruent-residue t (ring_turn n g (natural_polynomial m) k) pos_t))))))
      (Congruent-equal (t * q) (cancel (ring_turn n g noise k) (pos q *ℤ ring_turn n g (natural_polynomial m) k))))
      (ring_turn_within n g pos_n inv W noise h.near)
    where
      flip : (a b : ℕ) → a * b ≡ b * a
      flip a b = omega arith

      cancel : (a b : ℤ) → a +ℤ b +ℤ neg_ℤ b ≡ a
      cancel a b = omega (arith, ints)

-- ---- the turn by an odd element, for n a power of two
pub Holds-turned_odd : {q t W : ℕ} {c0 c1 s : ℕ → ℤ} {m : ℕ → ℕ} (k h : ℕ) → 0 < 2 ^ k → 0 < t → 0 < t * q
    → Holds (2 ^ k) q t c0 c1 zero_polynomial s m W
    → Holds (2 ^ k) q t (ring_turn (2 ^ k) (2 * h + 1) c0) (ring_turn (2 ^ k) (2 * h + 1) c1) zero_polynomial
    (ring_turn (2 ^ k) (2 * h + 1) s) (plain_turn (2 ^ k) (2 * h + 1) t m) W
Holds-turned_odd k h pos_n pos_t some hold = Holds-turned (2 * h + 1) pos_n pos_t some (power_coefficient_odd_round (2 ^ k) h pos_n)
    (HasInverse-odd h k) hold
