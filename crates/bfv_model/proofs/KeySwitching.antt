-- Key switching: the digits of a part times a switching key stand for the part times the source.
use Rattle.std.proofs.Common.{Bool, List, [], ap, ap₂, arith, cond, eqb, false, le_trans, length, mul-le-mul_left, nat_abs, neg_ℤ, pos, refl, slice_index, subst, sum, sym, true, ℕ, ℤ, ⊎_elim, ◌*ℤ◌, ◌*◌, ◌+ℤ◌, ◌+◌, ◌-ℤ◌, ◌-◌, ◌/◌, ◌<◌, ◌∙◌, ◌∷◌, ◌≡◌, ◌≤◌}
use Rattle.std.proofs.lemmas.Bool.{cases_lt}
use Rattle.std.proofs.lemmas.Int.{ints, unsigned_abs-mul}
use Rattle.std.proofs.lemmas.List.Elements.{All-cons, All-from_get_or}
use Rattle.std.proofs.lemmas.Nat.{le-div}
use Rattle.ring_law.specs.Moduli.{AllAboveOne, Selects, product}
use Rattle.ring_law.specs.Polynomials.{AllWithin, CongruentPolynomials, ring_constant, ring_product, ring_sum}
use Rattle.ring_law.specs.Residues.{Congruent, centred_residue}
use Rattle.ring_law.specs.Sums.{sum_below}
use Rattle.ring_law.proofs.ChineseRemainder.{chinese_remainder_unique, selected_sum, selector}
use Rattle.ring_law.proofs.Choice.{choose}
use Rattle.ring_law.proofs.Congruence.{Congruent-add, Congruent-equal, Congruent-mul, Congruent-neg, Congruent-refl, Congruent-scaled, Congruent-sum_below, Congruent-sym, Congruent-trans}
use Rattle.ring_law.proofs.Moduli.{PairwiseInvertible, positive_from_above_one}
use Rattle.ring_law.proofs.PolynomialRing.{polynomial_ring, ring_product_congruent}
use Rattle.ring_law.proofs.ProductPairs.{ring_product_size}
use Rattle.ring_law.proofs.Residues.{Congruent-centred_residue, Congruent-residue, centred_residue_least, centred_residue_size, residue_lt}
use Rattle.ring_law.proofs.RingProduct.{ring_product_add, ring_product_ext, ring_product_scale, ring_product_sum_below}
use Rattle.ring_law.proofs.RingSolver.{identity3, identity8, literal, minus, variable, ◌⊕◌, ◌⊖◌, ◌⊗◌}
use Rattle.ring_law.proofs.Sums.{sum_below_add, sum_below_ext, sum_below_scale, sum_below_weighted}
use Rattle.bfv_model.specs.Keys.{IsSwitchKeyOf, digit_sum, dropped_quotient, gadget_digit, switched_part}
use Rattle.bfv_model.specs.NoiseBounds.{switch_bound}
use Rattle.bfv_model.proofs.DroppedModulus.{dropped_quotient_equation}
use Rattle.bfv_model.proofs.Noise.{mul_positive}
use Rattle.bfv_model.proofs.ProductNoise.{ring_constant_product}
use Rattle.ring_law.proofs.CommutativeRing as Ring

module _ (n P E : ℕ) (qs : List ℕ) (pos_n : 0 < n) (pos_P : 0 < P) (pos_q : 0 < product qs) (cop : PairwiseInvertible qs) (big : AllAboveOne qs) (c source s : ℕ → ℤ) (k0 k1 : ℕ → ℕ → ℤ) (ternary : AllWithin n 1 s) (key : IsSwitchKeyOf n qs P E k0 k1 source s) where
  L : ℕ
  L = length qs

  chosen : (g : ℕ → ℤ) × ((i : ℕ) → i < length qs → Selects qs i (g i))
  chosen = choose (length qs) (λ i g. Selects qs i g) (pos 0) (λ i l. selector qs cop big i l)

  g : ℕ → ℤ
  g = chosen.0

  -- the digits, each times the number that selects its modulus, make up c
  joined : (k : ℕ) → Congruent (product qs) (sum_below (length qs) (λ i. g i *ℤ gadget_digit qs c i k)) (c k)
  unfolding g
  joined k = chinese_remainder_unique qs cop (sum_below (length qs) (λ i. g i *ℤ gadget_digit qs c i k)) (c k)
      (All-from_get_or (λ q. Congruent q (sum_below (length qs) (λ i. g i *ℤ gadget_digit qs c i k)) (c k)) qs 0 (λ j l.
      Congruent-trans (slice_index qs j) (selected_sum qs g (λ i. gadget_digit qs c i k) big chosen.1 j l)
      (Congruent-sym (slice_index qs j)
      (Congruent-residue (slice_index qs j) (c k) (positive_from_above_one (slice_index qs j) (big j l))))))

  e : ℕ → ℕ → ℤ
  e i k = centred_residue (product qs * P) (k0 i k +ℤ ring_product n (k1 i) s k -ℤ (pos P *ℤ g i) *ℤ source k)

  e_small : (i : ℕ) → i < length qs → AllWithin n E (e i)
  unfolding e g
  e_small i l = key i l (chosen.0 i) (chosen.1 i l)

  flip : (a b : ℕ) → a * b ≡ b * a
  flip a b = omega arith

  some : 0 < product qs * P
  some = mul_positive (product qs) P pos_q pos_P

  key_same : (i : ℕ) → CongruentPolynomials (P * product qs) n (ring_sum (k0 i) (ring_product n (k1 i) s)) (ring_sum (e i) (ring_product n (ring_constant (pos P *ℤ g i)) source))
  unfolding e
  key_same i = record {
    at = λ k l.
        Congruent-trans (P * product qs)
        (from (k0 i k +ℤ ring_product n (k1 i) s k) ((pos P *ℤ g i) *ℤ source k)
        (subst (λ m. Congruent m (k0 i k +ℤ ring_product n (k1 i) s k -ℤ (pos P *ℤ g i) *ℤ source k) (e i k)) (flip (product qs) P)
        (Congruent-centred_residue (product qs * P) (k0 i k +ℤ ring_product n (k1 i) s k -ℤ (pos P *ℤ g i) *ℤ source k) some)))
        (Congruent-equal (P * product qs) (ap (λ z. e i k +ℤ z) (sym (ring_constant_product n (pos P *ℤ g i) source k l))));
  }
    where
      from : {m : ℕ} {z : ℤ} (a b : ℤ) → Congruent m (a -ℤ b) z → Congruent m a (z +ℤ b)
      from {m} {z} a b h = Congruent-trans m (Congruent-equal m (recombined a b)) (Congruent-add m h (Congruent-refl m b))
        where
          recombined : (a b : ℤ) → a ≡ a -ℤ b +ℤ b
          recombined a b = omega (arith, ints)

  -- what a digit adds
  one_digit : (i k : ℕ) → k < n
      → Congruent (P * product qs)
      (ring_product n (gadget_digit qs c i) (k0 i) k +ℤ ring_product n (ring_product n (gadget_digit qs c i) (k1 i)) s k)
      (ring_product n (gadget_digit qs c i) (e i) k +ℤ ring_product n (λ k. (pos P *ℤ g i) *ℤ gadget_digit qs c i k) source k)
  one_digit i k l =
      let R = polynomial_ring (P * product qs) n pos_n in
      let d = gadget_digit qs c i in
      let h = R.equal_trans
      (Ring.ring_identity (polynomial_ring (P * product qs) n pos_n) (d ∷ k0 i ∷ k1 i ∷ s ∷ [])
      (variable 0 ⊗ variable 1 ⊕ (variable 0 ⊗ variable 2) ⊗ variable 3) (variable 0 ⊗ (variable 1 ⊕ variable 2 ⊗ variable 3)) refl)
      (R.equal_trans (R.mul_equal (R.equal_refl d) (key_same i))
      (Ring.ring_identity (polynomial_ring (P * product qs) n pos_n) (d ∷ e i ∷ ring_constant (pos P *ℤ g i) ∷ source ∷ [])
      (variable 0 ⊗ (variable 1 ⊕ variable 2 ⊗ variable 3)) (variable 0 ⊗ variable 1 ⊕ (variable 2 ⊗ variable 0) ⊗ variable 3) refl)) in
      Congruent-trans (P * product qs) (h.at k l)
      (Congruent-equal (P * product qs)
      (ap (λ z. ring_product n d (e i) k +ℤ z)
      (ring_product_ext n (ring_product n (ring_constant (pos P *ℤ g i)) d) (λ k. (pos P *ℤ g i) *ℤ d k) source source
      (λ j b. ring_constant_product n (pos P *ℤ g i) d j b) (λ j b. refl) k)))

  -- the sum of the errors, each times its digit
  noise : ℕ → ℤ
  noise = digit_sum n qs c e

  noise_small : AllWithin n (n * E * sum qs) noise
  unfolding noise
  noise_small k l = sum_below_weighted (n * E) qs (λ i. ring_product n (gadget_digit qs c i) (e i) k)
      (λ i b. trim i (ring_product_size n (slice_index qs i) E (gadget_digit qs c i) (e i) (λ j h. less (residue_lt (slice_index qs i) (c j) (positive_from_above_one (slice_index qs i) (big i b)))) (e_small i b) k l))
    where
      trim : (i : ℕ) {a : ℕ} → a ≤ n * (slice_index qs i * E) → a ≤ n * E * slice_index qs i
      trim i h = omega arith

      less : {a b : ℕ} → a < b → a ≤ b
      less h = omega arith

  weights : (k : ℕ) → Congruent (P * product qs) (sum_below (length qs) (λ i. (pos P *ℤ g i) *ℤ gadget_digit qs c i k)) (pos P *ℤ c k)
  weights k =
      Congruent-trans (P * product qs)
      (Congruent-equal (P * product qs)
      (sum_below_ext (length qs) (λ i. (pos P *ℤ g i) *ℤ gadget_digit qs c i k) (λ i. pos P *ℤ (g i *ℤ gadget_digit qs c i k))
      (λ i l. identity3 (λ p g d. p ⊗ g ⊗ d) (λ p g d. p ⊗ (g ⊗ d)) refl (pos P) (g i) (gadget_digit qs c i k)) ∙ sum_below_scale
      (length qs) (pos P) (λ i. g i *ℤ gadget_digit qs c i k)))
      (Congruent-scaled P (product qs) (joined k))

  -- before the division: the sums stand for P * c * source
  before : (k : ℕ) → k < n
      → Congruent (P * product qs) (digit_sum n qs c k0 k +ℤ ring_product n (digit_sum n qs c k1) s k)
      (noise k +ℤ pos P *ℤ ring_product n c source k)
  unfolding noise
  before k l =
      Congruent-trans (P * product qs) (Congruent-equal (P * product qs) (
      ap (λ z. digit_sum n qs c k0 k +ℤ z) (ring_product_sum_below n (length qs) (λ i. ring_product n (gadget_digit qs c i) (k1 i)) s k)
      ∙ sym (sum_below_add (length qs) (λ i. ring_product n (gadget_digit qs c i) (k0 i) k)
      (λ i. ring_product n (ring_product n (gadget_digit qs c i) (k1 i)) s k))))
      (Congruent-trans (P * product qs)
      (Congruent-sum_below (P * product qs) (length qs)
      (λ i. ring_product n (gadget_digit qs c i) (k0 i) k +ℤ ring_product n (ring_product n (gadget_digit qs c i) (k1 i)) s k)
      (λ i. ring_product n (gadget_digit qs c i) (e i) k +ℤ ring_product n (λ k. (pos P *ℤ g i) *ℤ gadget_digit qs c i k) source k)
      (λ i b. one_digit i k l))
      (Congruent-trans (P * product qs) (Congruent-equal (P * product qs) (
      sum_below_add (length qs) (λ i. ring_product n (gadget_digit qs c i) (e i) k)
      (λ i. ring_product n (λ k. (pos P *ℤ g i) *ℤ gadget_digit qs c i k) source k)
      ∙ ap (λ z. digit_sum n qs c e k +ℤ z)
      (sym (ring_product_sum_below n (length qs) (λ i k. (pos P *ℤ g i) *ℤ gadget_digit qs c i k) source k))))
      (Congruent-add (P * product qs) (Congruent-refl (P * product qs) (digit_sum n qs c e k))
      (Congruent-trans (P * product qs)
      ((ring_product_congruent
      (P * product qs) n {a = λ k. sum_below (length qs)
      (λ i. (pos P *ℤ g i) *ℤ gadget_digit qs c i k)} {b = λ k. pos P *ℤ c k} {c = source} {d = source}
      (record { at = λ k l. weights k }) (record { at = λ k l. Congruent-refl (P * product qs) (source k) })).at k l)
      (Congruent-equal (P * product qs) (ring_product_scale n (pos P) c source k))))))

  y0 : ℕ → ℤ
  y0 k = dropped_quotient P (digit_sum n qs c k0 k)

  y1 : ℕ → ℤ
  y1 k = dropped_quotient P (digit_sum n qs c k1 k)

  r0 : ℕ → ℤ
  r0 k = centred_residue P (digit_sum n qs c k0 k)

  r1 : ℕ → ℤ
  r1 k = centred_residue P (digit_sum n qs c k1 k)

  second : (k : ℕ) → ring_product n (digit_sum n qs c k1) s k ≡ pos P *ℤ ring_product n y1 s k +ℤ ring_product n r1 s k
  unfolding y1 r1
  second k =
      ring_product_ext n (digit_sum n qs c k1) (λ i. pos P *ℤ y1 i +ℤ r1 i) s s
      (λ i l. dropped_quotient_equation P (digit_sum n qs c k1 i) pos_P ∙ ap (λ z. z +ℤ r1 i) (turn (y1 i) (pos P))) (λ i l. refl) k
      ∙ ring_product_add n (λ i. pos P *ℤ y1 i) r1 s k
      ∙ ap (λ z. z +ℤ ring_product n r1 s k) (ring_product_scale n (pos P) y1 s k)
    where
      turn : (a b : ℤ) → a *ℤ b ≡ b *ℤ a
      turn a b = omega (arith, ints)

  -- the difference, less the multiple of q that the congruence leaves out
  rest : (k : ℕ) → k < n → ℤ
  rest k l = y0 k +ℤ ring_product n y1 s k -ℤ ring_product n c source k -ℤ (before k l).quotient *ℤ pos (product qs)

  rest_is : (k : ℕ) (l : k < n) → pos P *ℤ rest k l ≡ noise k -ℤ r0 k -ℤ ring_product n r1 s k
  unfolding rest y0 r0
  rest_is k l = gap (pos P) (y0 k) (ring_product n y1 s k) (ring_product n c source k) (before k l).quotient (pos (product qs)) (r0 k)
      (ring_product n r1 s k) (noise k) (digit_sum n qs c k0 k) (ring_product n (digit_sum n qs c k1) s k)
      (dropped_quotient_equation P (digit_sum n qs c k0 k) pos_P) (second k) (before k l).equation
    where
      gap : (P y0 ys cs t q r0 rs N A B : ℤ) → A ≡ y0 *ℤ P +ℤ r0 → B ≡ P *ℤ ys +ℤ rs → A +ℤ B ≡ N +ℤ P *ℤ cs +ℤ t *ℤ (P *ℤ q)
          → P *ℤ (y0 +ℤ ys -ℤ cs -ℤ t *ℤ q) ≡ N -ℤ r0 -ℤ rs
      gap P y0 ys cs t q r0 rs N A B a b e =
          identity8 (λ P y0 ys cs t q r0 rs. P ⊗ (y0 ⊕ ys ⊖ cs ⊖ t ⊗ q))
          (λ P y0 ys cs t q r0 rs. (((y0 ⊗ P ⊕ r0) ⊕ (P ⊗ ys ⊕ rs)) ⊖ (P ⊗ cs ⊕ t ⊗ (P ⊗ q))) ⊖ r0 ⊖ rs) refl P y0 ys cs t q r0 rs
          ∙ ap (λ z. z -ℤ (P *ℤ cs +ℤ t *ℤ (P *ℤ q)) -ℤ r0 -ℤ rs) (ap₂ ◌+ℤ◌ (sym a) (sym b) ∙ e)
          ∙ last N (P *ℤ cs) (t *ℤ (P *ℤ q)) r0 rs
        where
          last : (n a b r s : ℤ) → n +ℤ a +ℤ b -ℤ (a +ℤ b) -ℤ r -ℤ s ≡ n -ℤ r -ℤ s
          last n a b r s = omega (arith, ints)

  rest_small : (k : ℕ) (l : k < n) → nat_abs (rest k l) ≤ switch_bound n E P qs
  unfolding r0 r1
  rest_small k l = bound (nat_abs (rest k l)) (nat_abs (noise k)) (nat_abs (r0 k)) (nat_abs (ring_product n r1 s k)) (n * E * sum qs)
      (subst (λ z. z ≤ nat_abs (noise k) + nat_abs (r0 k) + nat_abs (ring_product n r1 s k))
      (sym (ap nat_abs (rest_is k l)) ∙ unsigned_abs-mul (pos P) (rest k l)) (three (noise k) (r0 k) (ring_product n r1 s k)))
      (noise_small k l) (centred_residue_size P (digit_sum n qs c k0 k) pos_P)
      (ring_product_size n (P / 2) 1 r1 s (λ j b. half (centred_residue_size P (digit_sum n qs c k1 j) pos_P)) ternary k l)
    where
      half : {a : ℕ} → 2 * a ≤ P → a ≤ P / 2
      half h = omega arith

      three : (a b c : ℤ) → nat_abs (a -ℤ b -ℤ c) ≤ nat_abs a + nat_abs b + nat_abs c
      three a b c = omega (arith, ints)

      bound : (v N r t S : ℕ) → P * v ≤ N + r + t → N ≤ S → 2 * r ≤ P → t ≤ n * (P / 2 * 1) → v ≤ S / P + 1 + n
      bound v N r t S h a b c =
          let two : n * (2 * (P / 2)) ≤ n * P = mul-le-mul_left n (omega arith) in
          let less : (v - (1 + n)) * P ≤ S = sub v S (omega arith) in
          let d = le-div (v - (1 + n)) S P pos_P less in omega arith
        where
          end : (S w : ℕ) → P * (1 + n + w) ≤ S + P + n * P → w * P ≤ S
          end S w h = omega arith

          sub : (v S : ℕ) → P * v ≤ S + P + n * P → (v - (1 + n)) * P ≤ S
          sub v S h = ⊎_elim
              (λ (a : v < 1 + n). let z : v - (1 + n) ≡ 0 = omega arith in subst (λ w. w * P ≤ S) (sym z) (omega arith))
              (λ (a : 1 + n ≤ v). let z : v ≡ 1 + n + (v - (1 + n)) = omega arith in end S (v - (1 + n))
              (subst (λ w. P * w ≤ S + P + n * P) z h))
              (cases_lt v (1 + n))

  -- the pair of the switch stands for c * source within the bound
  pub switched_phase : AllWithin n (switch_bound n E P qs) (λ k. centred_residue (product qs) (switched_part n qs P c k0 k +ℤ ring_product n (switched_part n qs P c k1) s k -ℤ ring_product n c source k))
  unfolding rest y0 y1
  switched_phase k l = le_trans
      (centred_residue_least (product qs) (y0 k +ℤ ring_product n y1 s k -ℤ ring_product n c source k) (rest k l) pos_q
      (record {
        quotient = (before k l).quotient;
        equation = recombined (y0 k +ℤ ring_product n y1 s k -ℤ ring_product n c source k)
            ((before k l).quotient *ℤ pos (product qs));
      })) (rest_small k l)
    where
      recombined : (a b : ℤ) → a ≡ a -ℤ b +ℤ b
      recombined a b = omega (arith, ints)

-- ---- a digit of a switching key, from its rows: k0 is e - k1 * s, in row i with P * source added
pub IsSwitchKeyOf-digit : (n P E i : ℕ) (qs : List ℕ) (k0 k1 source s e : ℕ → ℤ) → PairwiseInvertible (P ∷ qs) → AllAboveOne qs
    → 0 < product qs * P → AllWithin n E e
    → ((j k : ℕ) → j < length qs → k < n
    → Congruent (slice_index qs j) (k0 k +ℤ ring_product n k1 s k) (e k +ℤ cond (eqb j i) (pos P *ℤ source k) (pos 0)))
    → ((k : ℕ) → k < n → Congruent P (k0 k +ℤ ring_product n k1 s k) (e k)) → (g : ℤ) → Selects qs i g
    → AllWithin n E (λ k. centred_residue (product qs * P) (k0 k +ℤ ring_product n k1 s k -ℤ (pos P *ℤ g) *ℤ source k))
unfolding product
IsSwitchKeyOf-digit n P E i qs k0 k1 source s e cop big some small rows last g sel k l =
    le_trans (centred_residue_least (product qs * P) d (e k) some (subst (λ m. Congruent m d (e k)) (flip P (product qs)) all)) (small k l)
  where
    d : ℤ
    d = k0 k +ℤ ring_product n k1 s k -ℤ (pos P *ℤ g) *ℤ source k

    flip : (a b : ℕ) → a * b ≡ b * a
    flip a b = omega arith

    at_P : Congruent P (k0 k +ℤ ring_product n k1 s k -ℤ (pos P *ℤ g) *ℤ source k) (e k)
    at_P = Congruent-trans P
        (Congruent-add P (last k l)
        (record {
          quotient = neg_ℤ (g *ℤ source k);
          equation = identity3 (λ p g s. minus (p ⊗ g ⊗ s))
              (λ p g s. literal (pos 0) ⊕ minus (g ⊗ s) ⊗ p) refl (pos P) g (source k);
        })) (Congruent-equal P (right (e k)))
      where
        right : (a : ℤ) → a +ℤ pos 0 ≡ a
        right a = omega (arith, ints)

    at_j : (j : ℕ) → j < length qs → Congruent (slice_index qs j) (k0 k +ℤ ring_product n k1 s k -ℤ (pos P *ℤ g) *ℤ source k) (e k)
    at_j j b = Congruent-trans (slice_index qs j)
        (Congruent-add (slice_index qs j) (rows j k b l)
        (Congruent-neg (slice_index qs j)
        (Congruent-mul (slice_index qs j)
        (Congruent-mul (slice_index qs j) (Congruent-refl (slice_index qs j) (pos P))
        (Congruent-trans (slice_index qs j) (Congruent-residue (slice_index qs j) g (positive_from_above_one (slice_index qs j) (big j b)))
        (Congruent-equal (slice_index qs j) (ap pos (sel j b))))) (Congruent-refl (slice_index qs j) (source k)))))
        (Congruent-equal (slice_index qs j) (cancel (eqb j i)))
      where
        cancel : (t : Bool) → e k +ℤ cond t (pos P *ℤ source k) (pos 0) +ℤ neg_ℤ ((pos P *ℤ pos (cond t 1 0)) *ℤ source k) ≡ e k
        cancel true = identity3 (λ e p s. e ⊕ p ⊗ s ⊕ minus (p ⊗ literal (pos 1) ⊗ s)) (λ e p s. e) refl (e k) (pos P) (source k)
        cancel false = identity3 (λ e p s. e ⊕ literal (pos 0) ⊕ minus (p ⊗ literal (pos 0) ⊗ s)) (λ e p s. e) refl (e k) (pos P) (source k)

    all : Congruent (P * product qs) d (e k)
    all = chinese_remainder_unique (P ∷ qs) cop d (e k)
        (All-cons (λ q. Congruent q d (e k)) P qs at_P (All-from_get_or (λ q. Congruent q d (e k)) qs 0 at_j))
