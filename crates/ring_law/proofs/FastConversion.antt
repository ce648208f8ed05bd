-- Fast base conversion: the residue and a few times the product (Bajard, Eynard, Hasan and Zucca 2016).
use Rattle.std.proofs.Common.{◌≡◌, ℕ, zero, suc, ◌+◌, ◌-◌, ◌*◌, ◌%◌, ◌/◌, ◌<◌, ◌≤◌, ◌≢◌, refl, sym, ap, ◌∙◌, subst, arith, ℤ, pos, ◌*ℤ◌, nat_abs, List, length, mul-le-mul_right, cond, eqb, ⊎_elim, mod-lt, div-add-mod', slice_index}
use Rattle.std.proofs.lemmas.Int.{ints}
use Rattle.std.proofs.lemmas.List.Elements.{All-from_get_or}
use Rattle.std.proofs.lemmas.Bool.{cases_eq}
use Rattle.std.proofs.Math.Nat.{div-lt_iff_lt-mul}
use Rattle.ring_law.specs.Sums.{sum_below}
use Rattle.ring_law.specs.Residues.{Congruent, residue}
use Rattle.ring_law.specs.Moduli.{AllAboveOne, IsFastConversion, fast_conversion, product, product_of_others}
use Rattle.ring_law.proofs.Places.{eqb_apart, eqb_equal, eqb_same}
use Rattle.ring_law.proofs.RingSolver.{identity3, ◌⊗◌}
use Rattle.ring_law.proofs.Sums.{sum_below_natural, sum_below_single, sum_below_size}
use Rattle.ring_law.proofs.Congruence.{Congruent-equal, Congruent-mul, Congruent-refl, Congruent-sum_below, Congruent-sym, Congruent-trans}
use Rattle.ring_law.proofs.Residues.{Congruent-mod, Congruent-residue, residue_equal, residue_lt}
use Rattle.ring_law.proofs.Moduli.{PairwiseInvertible, positive_from_above_one}
use Rattle.ring_law.proofs.ChineseRemainder.{chinese_remainder_unique, mul-product_of_others, product_of_others_vanish}

-- the sum has the residue of its own term at each modulus
pub fast_conversion_at : (qs : List ℕ) (y : ℕ → ℕ) (j : ℕ) → j < length qs →
    Congruent (slice_index qs j) (fast_conversion qs y) (pos (y j) *ℤ pos (product_of_others qs j))
unfolding fast_conversion
fast_conversion_at qs y j l =
    Congruent-trans (slice_index qs j)
    (Congruent-sum_below (slice_index qs j) (length qs) (λ i. pos (y i) *ℤ pos (product_of_others qs i))
    (λ i. cond (eqb i j) (pos (y j) *ℤ pos (product_of_others qs j)) (pos 0)) (λ i b. ⊎_elim
    (λ (e : i ≡ j). Congruent-equal (slice_index qs j)
    (ap (λ i. pos (y i) *ℤ pos (product_of_others qs i)) e ∙ ap (λ t. cond t (pos (y j) *ℤ pos (product_of_others qs j)) (pos 0)) (sym (eqb_equal i j e))))
    (λ (d : i ≢ j). Congruent-trans (slice_index qs j)
    (Congruent-mul (slice_index qs j) (Congruent-refl (slice_index qs j) (pos (y i))) (product_of_others_vanish qs i j b l d))
    (Congruent-equal (slice_index qs j) (none (pos (y i)) ∙ ap (λ t. cond t (pos (y j) *ℤ pos (product_of_others qs j)) (pos 0)) (sym (eqb_apart i j d)))))
    (cases_eq i j)))
    (Congruent-equal (slice_index qs j) (
    sum_below_single (length qs) j (λ i. cond (eqb i j) (pos (y j) *ℤ pos (product_of_others qs j)) (pos 0)) l
    (λ i b d. ap (λ t. cond t (pos (y j) *ℤ pos (product_of_others qs j)) (pos 0)) (eqb_apart i j d))
    ∙ ap (λ t. cond t (pos (y j) *ℤ pos (product_of_others qs j)) (pos 0)) (eqb_same j)))
  where
    none : (a : ℤ) → a *ℤ pos 0 ≡ pos 0
    none a = omega (arith, ints)

-- so it is congruent to every x whose residues its terms have
pub Congruent-fast_conversion : (qs : List ℕ) → PairwiseInvertible qs → (y : ℕ → ℕ) (x : ℤ) →
    ((j : ℕ) → j < length qs → Congruent (slice_index qs j) (pos (y j) *ℤ pos (product_of_others qs j)) x) →
    Congruent (product qs) (fast_conversion qs y) x
Congruent-fast_conversion qs c y x h =
    chinese_remainder_unique qs c (fast_conversion qs y) x
    (All-from_get_or (λ q. Congruent q (fast_conversion qs y) x) qs 0 (λ j l. Congruent-trans (slice_index qs j) (fast_conversion_at qs y j l) (h j l)))

-- for reduced words it is below the product times the number of moduli
pub fast_conversion_lt : (qs : List ℕ) (y : ℕ → ℕ) → 0 < length qs → 0 < product qs → ((j : ℕ) → j < length qs → y j < slice_index qs j) →
    nat_abs (fast_conversion qs y) < length qs * product qs
unfolding fast_conversion
fast_conversion_lt qs y some pos_q h =
    less (length qs) (product qs) (nat_abs (sum_below (length qs) (λ i. pos (y i) *ℤ pos (product_of_others qs i)))) some pos_q
    (sum_below_size (length qs) (product qs - 1) (λ i. pos (y i) *ℤ pos (product_of_others qs i)) (λ i l.
    each (y i) (slice_index qs i) (product_of_others qs i) (product qs) (h i l) (mul-product_of_others qs i l) pos_q))
  where
    each : (a b c p : ℕ) → a < b → b * c ≡ p → 0 < p → a * c ≤ p - 1
    each a b c p l e s = let m : suc a * c ≤ b * c = mul-le-mul_right c l in by c refl m
      where
        by : (d : ℕ) → c ≡ d → suc a * c ≤ b * c → a * c ≤ p - 1
        by zero z m = absurd (let n : b * c ≡ b * 0 = ap (λ c. b * c) z in omega arith)
        by (suc d) z m = omega arith

    less : (l p x : ℕ) → 0 < l → 0 < p → x ≤ l * (p - 1) → x < l * p
    less l zero x a b c = absurd (omega arith)
    less l (suc p) x a b c = let e : suc p - 1 ≡ p = omega arith in let d = subst (λ z. x ≤ l * z) e c in omega arith

-- the words y_j are those that the conversion of z takes
abbrev pub AreConversionWords : List ℕ → (ℕ → ℕ) → ℤ → Type 0
AreConversionWords qs y z =
    (j : ℕ) → j < length qs → (y j < slice_index qs j) × Congruent (slice_index qs j) (pos (y j) *ℤ pos (product_of_others qs j)) z

-- so the conversion is the residue of z and fewer times the product than there are moduli
pub IsFastConversion-from_words : (qs : List ℕ) → PairwiseInvertible qs → 0 < length qs → 0 < product qs → (y : ℕ → ℕ) (z : ℤ) →
    AreConversionWords qs y z → IsFastConversion (product qs) (length qs) z (fast_conversion qs y)
unfolding fast_conversion
IsFastConversion-from_words qs c some h y z t =
    from (nat_abs (fast_conversion qs y)) (sum_below_natural (length qs) y (product_of_others qs)) (fast_conversion_lt qs y some h (λ j l. (t j l).0))
    (Congruent-fast_conversion qs c y z (λ j l. (t j l).1))
  where
    from : (a : ℕ) → fast_conversion qs y ≡ pos a → a < length qs * product qs → Congruent (product qs) (fast_conversion qs y) z →
        IsFastConversion (product qs) (length qs) z (fast_conversion qs y)
    from a e l k = record {
      overflow = a / product qs;
      few = (div-lt_iff_lt-mul h).1 l;
      equation =
          e ∙ ap pos (turn (div-add-mod' a (product qs)))
          ∙ ap (λ r. pos (r + a / product qs * product qs))
          (residue_equal (product qs) (pos a) z h (Congruent-trans (product qs) (Congruent-equal (product qs) (sym e)) k));
    }
      where
        turn : {q : ℕ} → a / product qs * product qs + a % product qs ≡ q → q ≡ a % product qs + a / product qs * product qs
        turn e = omega arith

-- it is congruent to what was converted
pub IsFastConversion-congruent : {q L : ℕ} {z c : ℤ} → IsFastConversion q L z c → 0 < q → Congruent q c z
IsFastConversion-congruent {q} {L} {z} {c} h pos_q =
    Congruent-trans q (record { quotient = pos h.overflow; equation = h.equation }) (Congruent-sym q (Congruent-residue q z pos_q))

-- it is bounded
pub IsFastConversion-lt : {q L : ℕ} {z c : ℤ} → IsFastConversion q L z c → 0 < q → nat_abs c < L * q
IsFastConversion-lt {q} {L} {z} {c} h pos_q =
    let e = ap nat_abs h.equation in
    let l = residue_lt q z pos_q in
    let m : suc h.overflow * q ≤ L * q = mul-le-mul_right q h.few in
    subst (λ n. n < L * q) (sym e) (sum (residue q z) h.overflow l m)
  where
    sum : (r o : ℕ) → r < q → suc o * q ≤ L * q → r + o * q < L * q
    sum r o l m = omega arith

-- and not negative
pub IsFastConversion-natural : {q L : ℕ} {z c : ℤ} → IsFastConversion q L z c → c ≡ pos (nat_abs c)
IsFastConversion-natural h = h.equation ∙ ap (λ c. pos (nat_abs c)) (sym h.equation)

-- ---- the words that a conversion of z takes, from rows x_j of x and factors h_j
pub conversion_words : (qs : List ℕ) → AllAboveOne qs → (xs h y : ℕ → ℕ) (x z c : ℤ) →
    ((j : ℕ) → j < length qs → xs j ≡ residue (slice_index qs j) x) →
    ((j : ℕ) → j < length qs → Congruent (slice_index qs j) (pos (h j) *ℤ pos (product_of_others qs j)) c) →
    ((j : ℕ) → j < length qs → y j ≡ (xs j * h j) % slice_index qs j) → z ≡ c *ℤ x → AreConversionWords qs y z
conversion_words qs big xs h y x z c hx hh hy e j l = (
  subst (λ a. a < slice_index qs j) (sym (hy j l)) (mod-lt (xs j * h j) pos_q),
  Congruent-trans (slice_index qs j)
      (Congruent-mul (slice_index qs j)
      (Congruent-trans (slice_index qs j) (Congruent-equal (slice_index qs j) (ap pos (hy j l))) (Congruent-mod (slice_index qs j) (xs j * h j) pos_q))
      (Congruent-refl (slice_index qs j) (pos (product_of_others qs j))))
      (Congruent-trans (slice_index qs j)
      (Congruent-equal (slice_index qs j)
      (identity3 (λ x h o. x ⊗ h ⊗ o) (λ x h o. (h ⊗ o) ⊗ x) refl (pos (xs j)) (pos (h j)) (pos (product_of_others qs j))))
      (Congruent-trans (slice_index qs j)
      (Congruent-mul (slice_index qs j) (hh j l)
      (Congruent-trans (slice_index qs j) (Congruent-equal (slice_index qs j) (ap pos (hx j l)))
      (Congruent-sym (slice_index qs j) (Congruent-residue (slice_index qs j) x pos_q)))) (Congruent-equal (slice_index qs j) (sym e)))),
)
  where
    pos_q : 0 < slice_index qs j
    pos_q = positive_from_above_one (slice_index qs j) (big j l)

-- the entry modulo p of a conversion, with the factors reduced
pub fast_conversion_reduced : (p : ℕ) (qs : List ℕ) (y : ℕ → ℕ) → 0 < p →
    Congruent p (sum_below (length qs) (λ i. pos (y i) *ℤ pos (product_of_others qs i % p))) (fast_conversion qs y)
unfolding fast_conversion
fast_conversion_reduced p qs y pos_p =
    Congruent-sum_below p (length qs) (λ i. pos (y i) *ℤ pos (product_of_others qs i % p)) (λ i. pos (y i) *ℤ pos (product_of_others qs i))
    (λ i l. Congruent-mul p (Congruent-refl p (pos (y i))) (Congruent-mod p (product_of_others qs i) pos_p))
