-- The inverses of the roots of a layer, which are negatives of its roots.
use Rattle.std.proofs.Common.{◌≡◌, ℕ, zero, suc, ◌+◌, ◌-◌, ◌*◌, ◌/◌, ◌%◌, ◌^◌, ◌<◌, ◌≤◌, List, length, get_or, refl, sym, ap, ◌∙◌, subst, arith, pos, neg_ℤ, ◌*ℤ◌, ⊎_elim, mod-eq_of_lt, mod-lt, div-add-mod'}
use Rattle.std.proofs.lemmas.Nat.{div-mul-add, mul-mod_first, mul-mod_second, pow-add}
use Rattle.std.proofs.lemmas.Bool.{cases_lt}
use Rattle.std.proofs.Math.Nat.{lt_of_mul-lt-mul_right}
use Rattle.word_mod.specs.declared.Factor.{Factor}
use Rattle.word_mod.specs.Moduli.{shoup_of}
use Rattle.ring_law.specs.Residues.{Congruent}
use Rattle.ring_law.specs.Transform.{bit_reversal}
use Rattle.ring_law.proofs.RingSolver.{identity1, identity3, literal, minus, ◌⊗◌}
use Rattle.ring_law.proofs.Congruence.{Congruent-equal, Congruent-mul, Congruent-neg, Congruent-refl, Congruent-sym, Congruent-trans}
use Rattle.ring_law.proofs.Residues.{Congruent-mod, Congruent-negative_mod, residue_equal}
use Rattle.neg_ntt.specs.Butterflies.{EachBlock}
use Rattle.neg_ntt.specs.Layers.{AreLayerRoots}
use Rattle.neg_ntt.specs.Parameters.{AreParameters, Parameters, inverse_root, layer_half, layer_root}
use Rattle.neg_ntt.specs.Roots.{HasNegative, HaveNegatives, factor_at, factor_of, negative_from_last}
use Rattle.neg_ntt.proofs.Steps.{AreParameters-minus_one, inverse_power, layer_size, power_of_half}

-- numbers of k digits that are each the other with all digits exchanged stay so when they are reversed
bit_reversal_exchanged : (k i j : ℕ) → i + j + 1 ≡ 2 ^ k → bit_reversal k i + bit_reversal k j + 1 ≡ 2 ^ k
unfolding bit_reversal
bit_reversal_exchanged zero i j sum = refl
bit_reversal_exchanged (suc k) i j sum =
    let digits : i % 2 + j % 2 ≡ 1 = omega arith in
    let rest = bit_reversal_exchanged k (i / 2) (j / 2) (omega arith) in
    let top : (i % 2 + j % 2) * 2 ^ k ≡ 1 * 2 ^ k = ap (λ (d : ℕ). d * 2 ^ k) digits in
    omega arith

-- where the n-th power of x is -1, the power n - e of x is -x^-e
negative_power : (q x k e f : ℕ) → 0 < q → Congruent q (pos (x ^ (2 ^ k))) (neg_ℤ (pos 1)) → f + e ≡ 2 ^ k
    → (q - x ^ f % q) % q ≡ (x ^ (2 * 2 ^ k - 1) % q) ^ e % q
negative_power q x k e f positive minus_one sum =
    residue_equal q (pos (q - x ^ f % q)) (pos (y ^ e)) positive
    (Congruent-trans q (Congruent-negative_mod q (x ^ f) positive)
    (Congruent-trans q (Congruent-equal q (identity1 (λ f. minus f) (λ f. minus f ⊗ literal (pos 1)) refl (pos (x ^ f))))
    (Congruent-trans q (Congruent-mul q (Congruent-refl q (neg_ℤ (pos (x ^ f)))) (Congruent-sym q (inverse_power q x k (2 ^ k) e positive refl minus_one)))
    (Congruent-trans q
    (Congruent-equal q (identity3 (λ f a x. minus f ⊗ (a ⊗ x)) (λ f a x. minus (f ⊗ x) ⊗ a) refl (pos (x ^ f)) (pos (y ^ e % q)) (pos (x ^ e))))
    (Congruent-trans q (Congruent-mul q (Congruent-neg q whole) (Congruent-refl q (pos (y ^ e % q))))
    (Congruent-trans q (Congruent-equal q (identity1 (λ a. minus (minus (literal (pos 1))) ⊗ a) (λ a. a) refl (pos (y ^ e % q))))
    (Congruent-mod q (y ^ e) positive)))))))
  where
    y : ℕ
    y = x ^ (2 * 2 ^ k - 1) % q

    whole : Congruent q (pos (x ^ f) *ℤ pos (x ^ e)) (neg_ℤ (pos 1))
    whole = Congruent-trans q (Congruent-equal q (ap pos (sym (pow-add x f e) ∙ ap (λ e. x ^ e) sum))) minus_one

-- a unit modulo an odd number has a negative, whose quotient is told by its own
HasNegative-unit : (q w v : ℕ) → q % 2 ≡ 1 → 3 ≤ q → w < q → v * w % q ≡ 1 → HasNegative q (factor_of q w)
HasNegative-unit q w v odd from below unit = record { positive = positive; below = below; fits = fits; shoup = shoup }
  where
    none : (y : ℕ) → y * 0 % q ≡ 0
    none y = ap (λ (z : ℕ). z % q) (times_none y) ∙ mod-eq_of_lt (omega arith)
      where
        times_none : (y : ℕ) → y * 0 ≡ 0
        times_none y = omega arith

    positive : 0 < w
    positive = ⊎_elim (λ (l : 0 < w). l)
        (λ (l : w ≤ 0).
        let zero_w : w ≡ 0 = omega arith in
        let no_unit : v * w % q ≡ 0 = ap (λ w. v * w % q) zero_w ∙ none v in
        absurd (omega arith))
        (cases_lt 0 w)

    -- the quotient doesn't come out even
    uneven : 0 < w * 2 ^ 64 % q
    uneven = ⊎_elim (λ (l : 0 < w * 2 ^ 64 % q). l)
        (λ (l : w * 2 ^ 64 % q ≤ 0).
        let even : w * 2 ^ 64 % q ≡ 0 = omega arith in
        let h : ℕ = (q / 2 + 1) ^ 64 % q in
        let divides : 2 ^ 64 % q ≡ 0 =
        ap (λ (z : ℕ). z % q) (once (2 ^ 64)) ∙ ap (λ (z : ℕ). z * 2 ^ 64 % q) (sym unit) ∙ mul-mod_first (v * w) (2 ^ 64) q
        ∙ ap (λ (z : ℕ). z % q) (joined v w (2 ^ 64)) ∙ sym (mul-mod_second v (w * 2 ^ 64) q) ∙ ap (λ (z : ℕ). v * z % q) even ∙ none v in
        let no_half : h * 2 ^ 64 % q ≡ 0 = sym (mul-mod_second h (2 ^ 64) q) ∙ ap (λ (z : ℕ). h * z % q) divides ∙ none h in
        let half : h * 2 ^ 64 % q ≡ 1 = power_of_half q 64 odd from in
        absurd (omega arith))
        (cases_lt 0 (w * 2 ^ 64 % q))
      where
        once : (z : ℕ) → z ≡ 1 * z
        once z = omega arith

        joined : (a b c : ℕ) → a * b * c ≡ a * (b * c)
        joined a b c = omega arith

    split : shoup_of q w * q + w * 2 ^ 64 % q ≡ w * 2 ^ 64
    split = div-add-mod' (w * 2 ^ 64) q

    fits : shoup_of q w < 2 ^ 64
    fits = let whole = split in let less : shoup_of q w * q < 2 ^ 64 * q = omega arith in lt_of_mul-lt-mul_right q less

    shoup : shoup_of q (q - w) ≡ 2 ^ 64 - 1 - shoup_of q w
    shoup =
        let whole = split in
        let some = uneven in
        let word = fits in
        let r : ℕ = w * 2 ^ 64 % q in
        let c : ℕ = 2 ^ 64 - 1 - shoup_of q w in
        let small : r < q = mod-lt (w * 2 ^ 64) (omega arith) in
        let sum : c + shoup_of q w + 1 ≡ 2 ^ 64 = omega arith in
        let sum_q : (c + shoup_of q w + 1) * q ≡ 2 ^ 64 * q = ap (λ (z : ℕ). z * q) sum in
        let rest : (q - w) * 2 ^ 64 ≡ c * q + (q - r) = omega arith in
        ap (λ (z : ℕ). z / q) rest ∙ div-mul-add c q (q - r) (omega arith)

-- the roots of a layer have negatives, which from the last to the first are the inverses
module _ (n : ℕ) (t : Parameters) (fit : AreParameters n t) (s : ℕ) (factors : List Factor) (layer : s < t.log_degree) (roots : AreLayerRoots t t.root s factors) where
  positive : 0 < t.modulus
  positive = omega (arith, fit.modulus.from_three)

  unit : (e : ℕ) → ((t.root ^ (2 * n - 1) % t.modulus) ^ e % t.modulus) * (t.root ^ e % t.modulus) % t.modulus ≡ 1
  unit e =
      mul-mod_second ((t.root ^ (2 * n - 1) % t.modulus) ^ e % t.modulus) (t.root ^ e) t.modulus
      ∙ residue_equal t.modulus (pos (((t.root ^ (2 * n - 1) % t.modulus) ^ e % t.modulus) * t.root ^ e)) (pos 1) positive
      (inverse_power t.modulus t.root t.log_degree n e positive fit.power (AreParameters-minus_one n t fit))
      ∙ mod-eq_of_lt (omega (arith, fit.modulus.from_three))

  pub HaveNegatives-layer : HaveNegatives t.modulus factors
  HaveNegatives-layer i inside =
      let e : ℕ = layer_half t s * (2 * bit_reversal s i + 1) in
      subst (λ f. HasNegative t.modulus f) (sym (roots.at i (subst (λ n. i < n) roots.len inside)))
      (HasNegative-unit t.modulus (t.root ^ e % t.modulus) ((t.root ^ (2 * n - 1) % t.modulus) ^ e % t.modulus) fit.modulus.odd fit.modulus.from_three
      (mod-lt (t.root ^ e) positive) (unit e))

  inverse_at : (i : ℕ) → i < 2 ^ s → negative_from_last t.modulus factors i ≡ layer_root (inverse_root n t) t s i
  inverse_at i below =
      let m : ℕ = length factors - 1 - i in
      let other : m < 2 ^ s = omega (arith, roots.len) in
      let inside : m < length factors = omega (arith, roots.len) in
      let negative = HaveNegatives-layer m inside in
      let exchanged = bit_reversal_exchanged s i m (omega (arith, roots.len)) in
      let e : ℕ = layer_half t s * (2 * bit_reversal s i + 1) in
      let f : ℕ = layer_half t s * (2 * bit_reversal s m + 1) in
      let sum : f + e ≡ 2 ^ t.log_degree = spread (layer_half t s) (2 ^ s) (bit_reversal s i) (bit_reversal s m) exchanged ∙ layer_size t.log_degree s layer in
      let small : t.modulus - (factor_at factors m).w < t.modulus = omega (arith, negative.positive, negative.below) in
      sym (mod-eq_of_lt small) ∙ ap (λ (w : ℕ). (t.modulus - w) % t.modulus) (ap (λ f. f.w) (roots.at m other))
      ∙ negative_power t.modulus t.root t.log_degree e f positive (AreParameters-minus_one n t fit) sum
      ∙ ap (λ (n : ℕ). (t.root ^ (2 * n - 1) % t.modulus) ^ e % t.modulus) (sym fit.power)
    where
      spread : (p r a b : ℕ) → a + b + 1 ≡ r → p * (2 * b + 1) + p * (2 * a + 1) ≡ r * (2 * p)
      spread p r a b whole = let h : p * (a + b + 1) ≡ p * r = ap (λ (z : ℕ). p * z) whole in omega arith

  -- what a layer back did, told by the inverses
  pub EachBlock-layer_back : (B : ℕ → ℕ → ℕ → ℕ → ℕ → Type 0) (half : ℕ) (old new : List ℕ)
      → EachBlock (λ i. B (negative_from_last t.modulus factors i)) (length factors) half old new
      → EachBlock (λ i. B (layer_root (inverse_root n t) t s i)) (2 ^ s) half old new
  EachBlock-layer_back B half old new pairs i r below inside =
      subst (λ w. B w (get_or old (i * (2 * half) + r) 0) (get_or old (i * (2 * half) + (half + r)) 0) (get_or new (i * (2 * half) + r) 0)
      (get_or new (i * (2 * half) + (half + r)) 0)) (inverse_at i below) (pairs i r (subst (λ n. i < n) (sym roots.len) below) inside)
