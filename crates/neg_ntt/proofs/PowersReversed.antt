-- Reversed digits of numbers below powers of two, and the powers with such exponents.
use Rattle.std.proofs.Common.{◌≡◌, ℕ, zero, suc, ◌+◌, ◌-◌, ◌*◌, ◌%◌, ◌^◌, ◌<◌, ◌≤◌, List, [], ◌∷◌, length, take, drop, get_or, refl, sym, ap, ap₂, ◌∙◌, subst, arith, ⊎_elim, pow_pos, mul-le-mul_right, mod-eq_of_lt}
use Rattle.std.proofs.lemmas.Nat.{pow_below, mul-mod_first, mul-mod_second, pow-add}
use Rattle.std.proofs.lemmas.Bool.{cases_lt}
use Rattle.std.proofs.lemmas.List.{get_or-take, get_or-drop}
use Rattle.std.specs.List.{SameBelow}
use Rattle.std.proofs.Math.Nat.{pow-zero}
use Rattle.word_mod.specs.declared.Factor.{Factor}
use Rattle.word_mod.specs.Moduli.{shoup_of}
use Rattle.ring_law.specs.Transform.{bit_reversal}
use Rattle.ring_law.proofs.BitReversal.{bit_reversal_top}
use Rattle.neg_ntt.specs.Butterflies.{EachBlock}
use Rattle.neg_ntt.specs.Layers.{AreLayerRoots}
use Rattle.neg_ntt.specs.Parameters.{Parameters, layer_root}
use Rattle.neg_ntt.specs.Roots.{ArePowersReversed, factor_at, factor_of}

-- with d more digits, which are 0
bit_reversal_wider : (d k j : ℕ) → j < 2 ^ k → bit_reversal (d + k) j ≡ 2 ^ d * bit_reversal k j
bit_reversal_wider zero k j below = ap (λ n. bit_reversal n j) (none k) ∙ one (bit_reversal k j)
  where
    none : (k : ℕ) → 0 + k ≡ k
    none k = omega arith

    one : (b : ℕ) → b ≡ 2 ^ 0 * b
    one b = omega arith
bit_reversal_wider (suc d) k j below =
    ap₂ bit_reversal (next d k) (none (2 ^ (d + k)) j)
    ∙ bit_reversal_top (d + k) j 0 (more d) (omega arith)
    ∙ ap (λ b. 2 * b + 0) (bit_reversal_wider d k j below) ∙ twice (2 ^ d) (bit_reversal k j) ∙ ap (λ p. p * bit_reversal k j) (double d)
  where
    next : (d k : ℕ) → suc d + k ≡ suc (d + k)
    next d k = omega arith

    none : (p j : ℕ) → j ≡ 0 * p + j
    none p j = omega arith

    more : (d : ℕ) → j < 2 ^ (d + k)
    more d = let p = pow_pos d in let h = mul-le-mul_right (2 ^ k) p in subst (λ n. j < n) (sym (pow-add 2 d k)) (omega arith)

    twice : (p b : ℕ) → 2 * (p * b) + 0 ≡ (2 * p) * b
    twice p b = omega arith

    double : (d : ℕ) → 2 * 2 ^ d ≡ 2 ^ suc d
    double d = omega arith

-- of a number of s + 1 digits the first of which is 1
pub bit_reversal_upper : (d s j : ℕ) → j < 2 ^ s → bit_reversal (d + suc s) (2 ^ s + j) ≡ 2 ^ d * (2 * bit_reversal s j + 1)
bit_reversal_upper d s j below =
    bit_reversal_wider d (suc s) (2 ^ s + j) (omega arith)
    ∙ ap (λ b. 2 ^ d * b) (ap (bit_reversal (suc s)) (one (2 ^ s) j) ∙ bit_reversal_top s j 1 below (omega arith))
  where
    one : (p j : ℕ) → p + j ≡ 1 * p + j
    one p j = omega arith

-- and without that digit
bit_reversal_added : (d s j : ℕ) → j < 2 ^ s → bit_reversal (d + suc s) (2 ^ s + j) ≡ bit_reversal (d + suc s) j + 2 ^ d
bit_reversal_added d s j below =
    bit_reversal_upper d s j below ∙ spread (2 ^ d) (bit_reversal s j)
    ∙ ap (λ b. b + 2 ^ d) (sym (bit_reversal_wider d (suc s) j (omega arith) ∙ ap (λ b. 2 ^ d * b) (lower s j below)))
  where
    spread : (p b : ℕ) → p * (2 * b + 1) ≡ p * (2 * b) + p
    spread p b = omega arith

    lower : (s j : ℕ) → j < 2 ^ s → bit_reversal (suc s) j ≡ 2 * bit_reversal s j
    lower s j below = ap (bit_reversal (suc s)) (none (2 ^ s) j) ∙ bit_reversal_top s j 0 below (omega arith) ∙ plus_none (2 * bit_reversal s j)
      where
        none : (p j : ℕ) → j ≡ 0 * p + j
        none p j = omega arith

        plus_none : (b : ℕ) → b + 0 ≡ b
        plus_none b = omega arith

-- 0 is reversed to 0
bit_reversal_zero : (k : ℕ) → bit_reversal k 0 ≡ 0
unfolding bit_reversal
bit_reversal_zero zero = refl
bit_reversal_zero (suc k) = ap (λ b. 0 * 2 ^ k + b) (bit_reversal_zero k) ∙ none (2 ^ k)
  where
    none : (p : ℕ) → 0 * p + 0 ≡ 0
    none p = omega arith

-- the exponent of the only root where there is one block
pub first_exponent : (half : ℕ) → half * (2 * bit_reversal 0 0 + 1) ≡ half
first_exponent half = ap (λ b. half * (2 * b + 1)) (bit_reversal_zero 0) ∙ once half
  where
    once : (h : ℕ) → h * (2 * 0 + 1) ≡ h
    once h = omega arith

-- the first power
pub ArePowersReversed-one : (q k x w : ℕ) (one : Factor) → w ≡ 1 % q → one.w ≡ w → one.shoup ≡ shoup_of q w
    → ArePowersReversed q k x 1 (one ∷ [])
ArePowersReversed-one q k x w one is_one is_w is_shoup = record {
  len = refl;
  at = λ j below. let first : 0 ≡ j = omega arith in
      let factor : ℕ → ℕ → Factor = λ w shoup. record { w = w; shoup = shoup } in
      subst (λ j. factor_at (one ∷ []) j ≡ factor_of q (x ^ bit_reversal k j % q)) first
      (ap₂ factor is_w is_shoup ∙ ap (factor_of q) is_one ∙ ap (λ w. factor_of q (w % q)) (sym (ap (λ e. x ^ e) (bit_reversal_zero k) ∙ pow-zero x)));
}

-- twice as many powers: the products of those that are there with the next
pub ArePowersReversed-twice : (q k x d s other : ℕ) (old new : List Factor) → d + suc s ≡ k → other ≡ x ^ (2 ^ d) % q
    → ArePowersReversed q k x (2 ^ s) old → length new ≡ 2 * length old → SameBelow old new (length old)
    → ((i : ℕ) → i < length old → factor_at new (length old + i) ≡ factor_of q ((factor_at old i).w * other % q))
    → ArePowersReversed q k x (2 ^ suc s) new
ArePowersReversed-twice q k x d s other old new digits is_other before len kept products = record {
  len = omega (arith, len, before.len);
  at = λ j below. ⊎_elim
      (λ (l : j < 2 ^ s). kept j _ (omega (arith, before.len)) ∙ before.at j l)
      (λ (l : 2 ^ s ≤ j).
      let place : length old + (j - 2 ^ s) ≡ j = omega (arith, before.len) in
      let inside : j - 2 ^ s < 2 ^ s = omega arith in
      let in_old : j - 2 ^ s < length old = omega (arith, before.len) in
      let sum : 2 ^ s + (j - 2 ^ s) ≡ j = omega arith in
      ap (factor_at new) (sym place) ∙ products (j - 2 ^ s) in_old
      ∙ ap₂ (λ w o. factor_of q (w * o % q)) (ap (λ f. f.w) (before.at (j - 2 ^ s) inside)) is_other
      ∙ ap (factor_of q) (product (j - 2 ^ s) inside) ∙ ap (λ j. factor_of q (x ^ bit_reversal k j % q)) sum)
      (cases_lt j (2 ^ s));
}
  where
    product : (i : ℕ) → i < 2 ^ s → (x ^ bit_reversal k i % q) * (x ^ (2 ^ d) % q) % q ≡ x ^ bit_reversal k (2 ^ s + i) % q
    product i below =
        mul-mod_first (x ^ bit_reversal k i) (x ^ (2 ^ d) % q) q ∙ mul-mod_second (x ^ bit_reversal k i) (x ^ (2 ^ d)) q
        ∙ ap (λ y. y % q) (sym (pow-add x (bit_reversal k i) (2 ^ d)) ∙ ap (λ e. x ^ e) (sym (subst (λ k. bit_reversal k (2 ^ s + i) ≡ bit_reversal k i + 2 ^ d) digits (bit_reversal_added d s i below))))

-- a power of two below 2^64 is a word
pub power_in_word : (d : ℕ) → d < 64 → 1 * 2 ^ d % 2 ^ 64 ≡ 2 ^ d
power_in_word d small = ap (λ y. y % 2 ^ 64) (one (2 ^ d)) ∙ mod-eq_of_lt (pow_below d 64 small)
  where
    one : (y : ℕ) → 1 * y ≡ y
    one y = omega arith

-- factor i of the 2^s factors of a layer, in a table of numbers of d + s + 1 digits
pub layer_factor : (q k x n d s i : ℕ) (table : List Factor) → d + suc s ≡ k → n ≡ 2 ^ k → ArePowersReversed q k x n table → i < 2 ^ s
    → factor_at (take (2 ^ s) (drop (2 ^ s) table)) i ≡ factor_of q (x ^ (2 ^ d * (2 * bit_reversal s i + 1)) % q)
layer_factor q k x n d s i table digits size powers below =
    get_or-take (2 ^ s) (drop (2 ^ s) table) i _ below ∙ get_or-drop (2 ^ s) table i _
    ∙ powers.at (2 ^ s + i) (subst (λ n. 2 ^ s + i < n) (sym size) (subst (λ k. 2 ^ s + i < 2 ^ k) digits inside))
    ∙ ap (λ e. factor_of q (x ^ e % q)) (subst (λ k. bit_reversal k (2 ^ s + i) ≡ 2 ^ d * (2 * bit_reversal s i + 1)) digits (bit_reversal_upper d s i below))
  where
    inside : 2 ^ s + i < 2 ^ (d + suc s)
    inside = let p = pow_pos d in let h = mul-le-mul_right (2 ^ suc s) p in subst (λ n. 2 ^ s + i < n) (sym (pow-add 2 d (suc s))) (omega arith)

-- the factors of a layer in the table
pub AreLayerRoots-table : (t : Parameters) (x n s : ℕ) (table factors : List Factor) → s < t.log_degree → n ≡ 2 ^ t.log_degree
    → ArePowersReversed t.modulus t.log_degree x n table → factors ≡ take (2 ^ s) (drop (2 ^ s) table) → length factors ≡ 2 ^ s → AreLayerRoots t x s factors
AreLayerRoots-table t x n s table factors layer size powers are count =
    let digits : t.log_degree - suc s + suc s ≡ t.log_degree = omega arith in
    record {
      len = count;
      at = λ i below.
          ap (λ fs. factor_at fs i) are ∙ layer_factor t.modulus t.log_degree x n (t.log_degree - suc s) s i table digits size powers below;
    }

module _ (t : Parameters) (x s : ℕ) (factors : List Factor) (roots : AreLayerRoots t x s factors) where
  -- what a layer did, told by the powers that its factors are
  pub EachBlock-layer : (B : ℕ → ℕ → ℕ → ℕ → ℕ → Type 0) (half : ℕ) (old new : List ℕ) → EachBlock (λ i. B (factor_at factors i).w) (length factors) half old new
      → EachBlock (λ i. B (layer_root x t s i)) (2 ^ s) half old new
  EachBlock-layer B half old new pairs i r below inside =
      subst (λ w. B w (get_or old (i * (2 * half) + r) 0) (get_or old (i * (2 * half) + (half + r)) 0) (get_or new (i * (2 * half) + r) 0)
      (get_or new (i * (2 * half) + (half + r)) 0)) (ap (λ f. f.w) (roots.at i below)) (pairs i r (subst (λ n. i < n) (sym roots.len) below) inside)
