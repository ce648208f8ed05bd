-- The product of two ciphers.
use Rattle.std.proofs.Common.{ap, ap₂, arith, le_trans, mul-le-mul, mul-le-mul_left, nat_abs, pos, refl, subst, suc, sym, zero, ℕ, ℤ, ◌*ℤ◌, ◌*◌, ◌+ℤ◌, ◌+◌, ◌-ℤ◌, ◌-◌, ◌/◌, ◌<◌, ◌∙◌, ◌≡◌, ◌≤◌}
use Rattle.std.proofs.Math.Nat.{le_of_mul-le-mul_left, lt_of_mul-lt-mul_left, mul-div-le}
use Rattle.std.proofs.lemmas.Int.{ints, unsigned_abs-mul}
use Rattle.std.proofs.lemmas.Nat.{le-div}
use Rattle.ring_law.specs.Polynomials.{AllWithin, CongruentPolynomials, ring_constant, ring_product, ring_sum}
use Rattle.ring_law.specs.Residues.{Congruent}
use Rattle.ring_law.specs.Rows.{natural_polynomial}
use Rattle.ring_law.proofs.Congruence.{Congruent-add, Congruent-neg, Congruent-refl, Congruent-scaled, Congruent-sym, Congruent-trans}
use Rattle.ring_law.proofs.PolynomialRing.{CongruentPolynomials-equal}
use Rattle.ring_law.proofs.ProductPairs.{ring_product_size}
use Rattle.ring_law.proofs.Residues.{Congruent-residue, residue_lt}
use Rattle.ring_law.proofs.RingProduct.{ring_product_assoc}
use Rattle.ring_law.proofs.RingSolver.{identity3, ◌⊗◌}
use Rattle.bfv_model.specs.Conversions.{IsMontgomeryLift, IsScaledQuotient}
use Rattle.bfv_model.specs.Holds.{Holds, phase, zero_polynomial}
use Rattle.bfv_model.specs.NoiseBounds.{product_bound}
use Rattle.bfv_model.specs.Plaintexts.{plain_product}
use Rattle.bfv_model.proofs.Noise.{Holds-congruent, Holds-from_congruent, Noise, mul_positive, noise_of, phase_of_two_parts}
use Rattle.bfv_model.proofs.ProductNoise.{product_congruent, product_noise, product_size, ring_constant_product}
use Rattle.bfv_model.proofs.ProductNoise as Bound

-- ---- the size of a lifted coefficient
-- the greatest that the lift's bound allows
pub lift_bound : ℕ → ℕ → ℕ → ℕ
lift_bound q M L = q * (M + 2 * L) / (2 * M)

-- a lifted coefficient is at most this
pub lift_within : (q M L y : ℕ) → 0 < M → M * (2 * y) ≤ q * (M + 2 * L) → y ≤ lift_bound q M L
unfolding lift_bound
lift_within q M L y h l = le-div y (q * (M + 2 * L)) (2 * M) (omega arith) (turn l)
  where
    turn : M * (2 * y) ≤ q * (M + 2 * L) → y * (2 * M) ≤ q * (M + 2 * L)
    turn l = omega arith

-- which leaves room beside q
pub lift_room : (n q M L : ℕ) → 0 < M → 4 * (1 + n) * L ≤ M → 4 * (1 + n) * lift_bound q M L ≤ q * (2 * n + 3)
unfolding lift_bound
lift_room n q M L h l = le_of_mul-le-mul_left {k = 2 * M}
    (from (q * (M + 2 * L) / (2 * M)) (mul-div-le (q * (M + 2 * L)) (2 * M)) (mul-le-mul_left q l)) (omega arith)
  where
    from : (A : ℕ) → 2 * M * A ≤ q * (M + 2 * L) → q * (4 * (1 + n) * L) ≤ q * M → 2 * M * (4 * (1 + n) * A) ≤ 2 * M * (q * (2 * n + 3))
    from A a b = let c : 4 * (1 + n) * (2 * M * A) ≤ 4 * (1 + n) * (q * (M + 2 * L)) = mul-le-mul_left (4 * (1 + n)) a in omega arith

-- ---- the size of the rounds
multiple_bound : (n q t A W k : ℕ) → 0 < q → 0 < t → 4 * (1 + n) * A ≤ q * (2 * n + 3) → 4 * W ≤ q
    → q * t * k ≤ t * (A + n * A) + q * (t - 1) + W → k ≤ n / 2 + 2
multiple_bound n q zero A W k pq pt ha hw h = absurd (omega arith)
multiple_bound n q (suc t) A W k pq pt ha hw h = half
    (lt_of_mul-lt-mul_left (q * suc t)
    (less (mul-le-mul_left (suc t) ha) (subst (λ u. q * suc t * k ≤ suc t * (A + n * A) + q * u + W) one h)))
  where
    one : suc t - 1 ≡ t
    one = omega arith

    less : suc t * (4 * (1 + n) * A) ≤ suc t * (q * (2 * n + 3)) → q * suc t * k ≤ suc t * (A + n * A) + q * t + W
        → q * suc t * (4 * k) < q * suc t * (2 * n + 7)
    less a b = omega arith

    half : 4 * k < 2 * n + 7 → k ≤ n / 2 + 2
    half l = omega arith

module _ (n q t A W : ℕ) (pos_q : 0 < q) (pos_t : 0 < t) (x0 x1 s : ℕ → ℤ) (m : ℕ → ℕ) (hs : AllWithin n 1 s) (h0 : AllWithin n A x0) (h1 : AllWithin n A x1) (room : 4 * (1 + n) * A ≤ q * (2 * n + 3)) (hw : 4 * W ≤ q) (h : Noise n q t x0 x1 zero_polynomial s m W) (plain : (k : ℕ) → k < n → m k < t) where
  -- the multiple of t*q in the phase of a lifted cipher is at most n/2 + 2
  pub multiple_small : AllWithin n (n / 2 + 2) h.multiple
  multiple_small k l = multiple_bound n q t A W (nat_abs (h.multiple k)) pos_q pos_t room hw
      (from (x0 k) (ring_product n x1 s k) (h.noise k) (h.multiple k) (m k)
      (ap (λ z. pos t *ℤ z) (sym (phase_of_two_parts n x0 x1 s k)) ∙ h.equation k) (h0 k l)
      (trim (ring_product_size n A 1 x1 s h1 hs k l)) (h.small k l) (plain k l))
    where
      trim : {a : ℕ} → a ≤ n * (A * 1) → a ≤ n * A
      trim b = omega arith

      from : (a b w r : ℤ) (m : ℕ) → pos t *ℤ (a +ℤ b) ≡ pos q *ℤ pos m +ℤ w +ℤ r *ℤ (pos t *ℤ pos q) → nat_abs a ≤ A → nat_abs b ≤ n * A
          → nat_abs w ≤ W → m < t → q * t * nat_abs r ≤ t * (A + n * A) + q * (t - 1) + W
      from a b w r m e ha hb hw hm =
          let sum : nat_abs (a +ℤ b) ≤ A + n * A = omega (arith, ints) in
          let left : nat_abs (pos t *ℤ (a +ℤ b)) ≤ t * (A + n * A) = subst (λ z. z ≤ t * (A + n * A))
          (sym (unsigned_abs-mul (pos t) (a +ℤ b))) (mul-le-mul_left t sum) in
          let less : m ≤ t - 1 = omega arith in
          let plain : q * m ≤ q * (t - 1) = mul-le-mul_left q less in
          let size : nat_abs (r *ℤ (pos t *ℤ pos q)) ≡ nat_abs r * (t * q) = unsigned_abs-mul r (pos t *ℤ pos q) in
          let all = three (pos t *ℤ (a +ℤ b)) (q * m) w (r *ℤ (pos t *ℤ pos q)) e in
          turn (nat_abs r) (le_trans (subst (λ z. z ≤ nat_abs (pos t *ℤ (a +ℤ b)) + q * m + nat_abs w) size all) (add3 left plain hw))
        where
          three : (a : ℤ) (b : ℕ) (w r : ℤ) → a ≡ pos b +ℤ w +ℤ r → nat_abs r ≤ nat_abs a + b + nat_abs w
          three a b w r e = omega (arith, ints)

          add3 : {a b c d e f : ℕ} → a ≤ d → b ≤ e → c ≤ f → a + b + c ≤ d + e + f
          add3 x y z = omega arith

          turn : (r : ℕ) → r * (t * q) ≤ t * (A + n * A) + q * (t - 1) + W → q * t * r ≤ t * (A + n * A) + q * (t - 1) + W
          turn r h = omega arith

  -- the noise as the equation that the product takes
  pub noise_same : 0 < n
      → CongruentPolynomials 0 n (ring_product n (ring_constant (pos t)) (ring_sum x0 (ring_product n x1 s)))
      (ring_sum (ring_sum (ring_product n (ring_constant (pos q)) (λ k. pos (m k))) h.noise)
      (ring_product n (ring_product n (ring_constant (pos q)) (ring_constant (pos t))) h.multiple))
  noise_same pos_n = CongruentPolynomials-equal 0 n (λ k l.
      ring_constant_product n (pos t) (ring_sum x0 (ring_product n x1 s)) k l
      ∙ ap (λ z. pos t *ℤ z) (sym (phase_of_two_parts n x0 x1 s k))
      ∙ h.equation k
      ∙ ap₂ (λ a b. a +ℤ h.noise k +ℤ b) (sym (ring_constant_product n (pos q) (λ k. pos (m k)) k l))
      (identity3 (λ r t q. r ⊗ (t ⊗ q)) (λ r t q. q ⊗ (t ⊗ r)) refl (h.multiple k) (pos t) (pos q)
      ∙ ap (λ z. pos q *ℤ z) (sym (ring_constant_product n (pos t) h.multiple k l))
      ∙ sym (ring_constant_product n (pos q) (ring_product n (ring_constant (pos t)) h.multiple) k l)
      ∙ sym (ring_product_assoc n pos_n (ring_constant (pos q)) (ring_constant (pos t)) h.multiple k)))

-- ---- the size of a scaled part, so that the way back is exact
quotient_bound : (n q t L A D e r : ℕ) → 0 < q → 0 < n → 4 * (1 + n) * A ≤ q * (2 * n + 3) → D ≤ 2 * (n * (A * A)) → r ≤ L * q
    → q * e ≤ t * D + r → e ≤ t * n * q + L
quotient_bound n q t L A D e r pq pn ha hd hr h = le_of_mul-le-mul_left {k = q}
    (last (mul-le-mul_left t (le_trans hd (mul-two (square eight))))) pq
  where
    eight : 8 * A ≤ 5 * q
    eight = le_of_mul-le-mul_left {k = 1 + n} (let z : q * 1 ≤ q * n = mul-le-mul_left q pn in omega arith) (omega arith)

    square : 8 * A ≤ 5 * q → 2 * (A * A) ≤ q * q
    square l = let s : 8 * A * (8 * A) ≤ 5 * q * (5 * q) = mul-le-mul l l in omega arith

    mul-two : 2 * (A * A) ≤ q * q → 2 * (n * (A * A)) ≤ n * (q * q)
    mul-two l = let s : n * (2 * (A * A)) ≤ n * (q * q) = mul-le-mul_left n l in omega arith

    last : t * D ≤ t * (n * (q * q)) → q * e ≤ q * (t * n * q + L)
    last l = omega arith

-- a coefficient of each of a0*b0, a0*b1 + a1*b0 and a1*b1 is at most 2*n*A*A, where A bounds the lifted coefficients
pub part_size : (n A : ℕ) (a b c d : ℕ → ℤ) → AllWithin n A a → AllWithin n A b → AllWithin n A c → AllWithin n A d
    → AllWithin n (2 * (n * (A * A))) (ring_sum (ring_product n a b) (ring_product n c d))
part_size n A a b c d ha hb hc hd k l = let x = ring_product_size n A A a b ha hb k l in let y = ring_product_size n A A c d hc hd k l in omega (arith, ints)

pub part_size_one : (n A : ℕ) (a b : ℕ → ℤ) → AllWithin n A a → AllWithin n A b → AllWithin n (2 * (n * (A * A))) (ring_product n a b)
part_size_one n A a b ha hb k l = let x = ring_product_size n A A a b ha hb k l in omega (arith, ints)

-- a scaled coefficient is small enough for the way back
pub quotient_size : (n q t L A : ℕ) (D e r : ℤ) → 0 < q → 0 < n → 4 * (1 + n) * A ≤ q * (2 * n + 3) → nat_abs D ≤ 2 * (n * (A * A))
    → nat_abs r ≤ L * q → pos t *ℤ D ≡ pos q *ℤ e +ℤ r → nat_abs e ≤ t * n * q + L
quotient_size n q t L A D e r pq pn ha hd hr h =
    quotient_bound n q t L A (nat_abs D) (nat_abs e) (nat_abs r) pq pn ha hd hr
    (let a = unsigned_abs-mul (pos q) e in let b = unsigned_abs-mul (pos t) D in sub (pos t *ℤ D) (pos q *ℤ e) r (t * nat_abs D)
    (q * nat_abs e) b a h)
  where
    sub : (a b r : ℤ) (x y : ℕ) → nat_abs a ≡ x → nat_abs b ≡ y → a ≡ b +ℤ r → y ≤ x + nat_abs r
    sub a b r x y f g e = omega (arith, ints)

-- ---- the theorem
module _ {n q t M L W1 W2 : ℕ} {a0 a1 b0 b1 s u0 u1 v0 v1 e0 e1 e2 : ℕ → ℤ} {m1 m2 : ℕ → ℕ} (pos_n : 0 < n) (pos_q : 0 < q) (pos_t : 0 < t) (pos_M : 0 < M)
    (room : 4 * (1 + n) * L ≤ M) (w1 : 4 * W1 ≤ q) (w2 : 4 * W2 ≤ q) (ternary : AllWithin n 1 s)
    (ha : Holds n q t a0 a1 zero_polynomial s m1 W1) (hb : Holds n q t b0 b1 zero_polynomial s m2 W2)
    (lu0 : IsMontgomeryLift n q M L a0 u0) (lu1 : IsMontgomeryLift n q M L a1 u1) (lv0 : IsMontgomeryLift n q M L b0 v0) (lv1 : IsMontgomeryLift n q M L b1 v1)
    (s0 : IsScaledQuotient n q t L (ring_product n u0 v0) e0) (s1 : IsScaledQuotient n q t L (ring_sum (ring_product n u0 v1) (ring_product n u1 v0)) e1) (s2 : IsScaledQuotient n q t L (ring_product n u1 v1) e2) where
  A : ℕ
  A = lift_bound q M L

  within : {a u : ℕ → ℤ} → IsMontgomeryLift n q M L a u → AllWithin n A u
  unfolding A
  within {a} {u} h k l = lift_within q M L (nat_abs (u k)) pos_M (h.size k l)

  fits : 4 * (1 + n) * A ≤ q * (2 * n + 3)
  unfolding A
  fits = lift_room n q M L pos_M room

  -- the scaled parts are small enough for the way back
  pub product_parts_size : AllWithin n (t * n * q + L) e0 × AllWithin n (t * n * q + L) e1 × AllWithin n (t * n * q + L) e2
  product_parts_size = (
    λ k l. quotient_size n q t L A (ring_product n u0 v0 k) (e0 k) (s0.rest k) pos_q pos_n fits
        (part_size_one n A u0 v0 (within lu0) (within lv0) k l) (s0.small k l) (s0.equation k l),
    λ k l. quotient_size n q t L A (ring_sum (ring_product n u0 v1) (ring_product n u1 v0) k) (e1 k) (s1.rest k) pos_q pos_n fits
        (part_size n A u0 v1 u1 v0 (within lu0) (within lv1) (within lu1) (within lv0) k l) (s1.small k l) (s1.equation k l),
    λ k l. quotient_size n q t L A (ring_product n u1 v1 k) (e2 k) (s2.rest k) pos_q pos_n fits
        (part_size_one n A u1 v1 (within lu1) (within lv1) k l) (s2.small k l) (s2.equation k l),
  )

  some : 0 < t * q
  some = mul_positive t q pos_t pos_q

  na : Noise n q t u0 u1 zero_polynomial s m1 W1
  na = noise_of some (Holds-congruent some lu0.congruent lu1.congruent (record { at = λ k l. Congruent-refl q (pos 0) }) ha)

  nb : Noise n q t v0 v1 zero_polynomial s m2 W2
  nb = noise_of some (Holds-congruent some lv0.congruent lv1.congruent (record { at = λ k l. Congruent-refl q (pos 0) }) hb)

  part : {D e : ℕ → ℤ} → (z : IsScaledQuotient n q t L D e)
      → CongruentPolynomials 0 n (ring_product n (ring_constant (pos t)) D) (ring_sum (ring_product n (ring_constant (pos q)) e) z.rest)
  part {D} {e} z = CongruentPolynomials-equal 0 n
      (λ k l. ring_constant_product n (pos t) D k l ∙ z.equation k l ∙ ap (λ x. x +ℤ z.rest k)
      (sym (ring_constant_product n (pos q) e k l)))

  below : {m : ℕ → ℕ} → ((k : ℕ) → k < n → m k < t) → AllWithin n (t - 1) (natural_polynomial m)
  below h k l = let a = h k l in omega arith

  ea : CongruentPolynomials 0 n (ring_product n (ring_constant (pos t)) (ring_sum u0 (ring_product n u1 s))) (ring_sum (ring_sum (ring_product n (ring_constant (pos q)) (λ k. pos (m1 k))) na.noise) (ring_product n (ring_product n (ring_constant (pos q)) (ring_constant (pos t))) na.multiple))
  ea = noise_same n q t A W1 pos_q pos_t u0 u1 s m1 ternary (within lu0) (within lu1) fits w1 na ha.plain pos_n

  eb : CongruentPolynomials 0 n (ring_product n (ring_constant (pos t)) (ring_sum v0 (ring_product n v1 s))) (ring_sum (ring_sum (ring_product n (ring_constant (pos q)) (λ k. pos (m2 k))) nb.noise) (ring_product n (ring_product n (ring_constant (pos q)) (ring_constant (pos t))) nb.multiple))
  eb = noise_same n q t A W2 pos_q pos_t v0 v1 s m2 ternary (within lv0) (within lv1) fits w2 nb hb.plain pos_n

  ka : AllWithin n (n / 2 + 2) na.multiple
  ka = multiple_small n q t A W1 pos_q pos_t u0 u1 s m1 ternary (within lu0) (within lu1) fits w1 na ha.plain

  kb : AllWithin n (n / 2 + 2) nb.multiple
  kb = multiple_small n q t A W2 pos_q pos_t v0 v1 s m2 ternary (within lv0) (within lv1) fits w2 nb hb.plain

  -- q times the reduced product of the plaintexts is congruent to q times the product
  reduced : (k : ℕ) → Congruent (t * q) (pos t *ℤ phase n e0 e1 e2 s k -ℤ pos q *ℤ pos (plain_product n t m1 m2 k)) (pos t *ℤ phase n e0 e1 e2 s k -ℤ pos q *ℤ ring_product n (natural_polynomial m1) (natural_polynomial m2) k)
  reduced k = Congruent-add (t * q) (Congruent-refl (t * q) (pos t *ℤ phase n e0 e1 e2 s k))
      (Congruent-neg (t * q)
      (subst (λ z. Congruent z (pos q *ℤ pos (plain_product n t m1 m2 k))
      (pos q *ℤ ring_product n (natural_polynomial m1) (natural_polynomial m2) k)) (flip q t)
      (Congruent-scaled q t
      (Congruent-sym t (Congruent-residue t (ring_product n (natural_polynomial m1) (natural_polynomial m2) k) pos_t)))))
    where
      flip : (a b : ℕ) → a * b ≡ b * a
      flip a b = omega arith

  -- the product of two ciphers holds the product of their plaintexts
  pub Holds-product : {c0 c1 c2 : ℕ → ℤ} → CongruentPolynomials q n c0 e0 → CongruentPolynomials q n c1 e1 → CongruentPolynomials q n c2 e2
      → Holds n q t c0 c1 c2 s (plain_product n t m1 m2) (product_bound n t L W1 W2)
  Holds-product {c0} {c1} {c2} h0 h1 h2 = subst
      (λ k. Holds n q t c0 c1 c2 s (plain_product n t m1 m2) (n * t * k * (W1 + W2) + t * L * (1 + n + n * n))) (three (n / 2))
      (Holds-congruent some h0 h1 h2 (
      Holds-from_congruent
      (Bound.product_noise n q t L (n / 2 + 2) W1 W2 pos_n pos_q pos_t s u0 u1 v0 v1 (natural_polynomial m1)
      (natural_polynomial m2) na.noise nb.noise na.multiple nb.multiple e0 e1 e2 s0.rest s1.rest s2.rest ea eb (part s0) (part s1)
      (part s2)) some (λ k l. residue_lt t (ring_product n (natural_polynomial m1) (natural_polynomial m2) k) pos_t)
      (λ k l. Congruent-trans (t * q) (reduced k)
      (Bound.product_congruent n q t L (n / 2 + 2) W1 W2 pos_n pos_q pos_t s u0 u1 v0 v1 (natural_polynomial m1)
      (natural_polynomial m2) na.noise nb.noise na.multiple nb.multiple e0 e1 e2 s0.rest s1.rest s2.rest ea eb (part s0) (part s1)
      (part s2) k l))
      (λ k l. Bound.product_size n q t L (n / 2 + 2) W1 W2 pos_n pos_q pos_t s u0 u1 v0 v1 (natural_polynomial m1)
      (natural_polynomial m2) na.noise nb.noise na.multiple nb.multiple e0 e1 e2 s0.rest s1.rest s2.rest ea eb (part s0) (part s1)
      (part s2)
      ternary (below ha.plain) (below hb.plain) na.small nb.small ka kb s0.small s1.small s2.small w2 k l)))
    where
      three : (h : ℕ) → h + 2 + 1 ≡ h + 3
      three h = omega arith
