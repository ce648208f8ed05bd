-- The steps of a transform: the sizes of its layers, and its rows from the first layer to the last.
use Rattle.std.proofs.Common.{◌≡◌, ℕ, zero, suc, ◌+◌, ◌-◌, ◌*◌, ◌/◌, ◌%◌, ◌^◌, ◌<◌, ◌≤◌, refl, sym, ap, ap₂, ◌∙◌, subst, arith, ℤ, pos, neg_ℤ, ◌*ℤ◌, List, get_or, length, take, drop, length-take, length-drop, ⊎_elim, ◌⊎◌, inl, inr, pow_pos, pow-add, mul-le-mul_right, mod-eq_of_lt, div-add-mod'}
use Rattle.std.proofs.lemmas.Bool.{cases_lt}
use Rattle.std.proofs.lemmas.Int.{ints}
use Rattle.std.proofs.lemmas.Nat.{mul-mod_first, mul-pow, pow_below, pow-mod}
use Rattle.std.proofs.Math.Nat.{add-mod_right, mod-zero, pow-zero, pow-suc, pow-le-pow_right}
use Rattle.ring_law.specs.Residues.{Congruent, HasInverse, residue}
use Rattle.ring_law.specs.Rows.{RowRepresents, row_polynomial}
use Rattle.ring_law.specs.Transform.{IsTransform, bit_reversal, evaluation, transform_entry}
use Rattle.ring_law.proofs.RingSolver.{identity1, identity3, literal, ◌⊗◌}
use Rattle.ring_law.proofs.Congruence.{Congruent-equal, Congruent-mul, Congruent-refl, Congruent-sym, Congruent-trans}
use Rattle.ring_law.proofs.Residues.{Congruent-mod, Congruent-residue, residue_equal}
use Rattle.ring_law.proofs.BitReversal.{even_or_odd}
use Rattle.ring_law.proofs.Evaluation.{pow-pow, power_whole_turns}
use Rattle.ring_law.proofs.TransformEntries.{polynomial_of_entries, transform_entry-polynomial_of_entries, transform_entry_congruent}
use Rattle.ring_law.proofs.TransformLayers.{block_value, block_value_first, block_value_last}
use Rattle.lane_rows.specs.Butterflies.{IsButterfly, IsButterflyBack, IsScaledButterflyBack}
use Rattle.neg_ntt.specs.Butterflies.{EachBlock}
use Rattle.neg_ntt.specs.Layers.{IsJoined, IsJoinedLast, IsSplit}
use Rattle.neg_ntt.specs.Parameters.{AreParameters, IsDegree, Parameters, inverse_root, layer_half, layer_root}
use Rattle.neg_ntt.proofs.LayerValues.{AreBlocks, AreBlocks-next, AreBlocks-previous, AreBlocks-previous_scaled}

-- ---- sizes
-- a power of two up to 2^15 has at most this exponent
pub log_limit : (k : ℕ) → 2 ^ k ≤ 32768 → k ≤ 15
log_limit k small = ⊎_elim (λ (l : k ≤ 15). l) (λ (l : 15 < k). absurd (let h = pow_below 15 k l in omega arith)) (swap (cases_lt 15 k))
  where
    swap : (15 < k) ⊎ (k ≤ 15) → (k ≤ 15) ⊎ (15 < k)
    swap h = ⊎_elim (λ l. inr l) (λ l. inl l) h

-- what divides a power of two is one
power_of_divisor : (k d c : ℕ) → d * c ≡ 2 ^ k → (e : ℕ) × (d ≡ 2 ^ e)
power_of_divisor zero d c whole = (0, one d c whole)
  where
    one : (d c : ℕ) → d * c ≡ 1 → d ≡ 1
    one zero c h = absurd (omega arith)
    one (suc zero) c h = refl
    one (suc (suc d)) zero h = absurd (omega arith)
    one (suc (suc d)) (suc c) h = absurd (omega arith)
power_of_divisor (suc k) d c whole = ⊎_elim
    (λ (p : (f : ℕ) × (d ≡ 2 * f)).
    let half : p.0 * c ≡ 2 ^ k = let h : 2 * p.0 * c ≡ 2 * 2 ^ k = ap (λ d. d * c) (sym p.1) ∙ whole ∙ double k in omega arith in
    let rest = power_of_divisor k p.0 c half in
    (suc rest.0, p.1 ∙ ap (λ f. 2 * f) rest.1 ∙ sym (double rest.0)))
    (λ (p : (f : ℕ) × (d ≡ 2 * f + 1)). ⊎_elim
    (λ (r : (f : ℕ) × (c ≡ 2 * f)).
    let half : d * r.0 ≡ 2 ^ k = let h : d * (2 * r.0) ≡ 2 * 2 ^ k = ap (λ c. d * c) (sym r.1) ∙ whole ∙ double k in omega arith in
    power_of_divisor k d r.0 half)
    (λ (r : (f : ℕ) × (c ≡ 2 * f + 1)).
    let h : (2 * p.0 + 1) * (2 * r.0 + 1) ≡ 2 * 2 ^ k = ap₂ (λ d c. d * c) (sym p.1) (sym r.1) ∙ whole ∙ double k in
    absurd (omega arith))
    (even_or_odd c))
    (even_or_odd d)
  where
    double : (k : ℕ) → 2 ^ suc k ≡ 2 * 2 ^ k
    double k = omega arith

-- a degree is a power of two
pub record IsPower (n : ℕ) : Type 0 where
  pub log_degree : ℕ
  pub power : n ≡ 2 ^ log_degree
  pub from_four : 4 ≤ n
  pub to_limit : n ≤ 32768

pub IsPower-from_IsDegree : (n : ℕ) → IsDegree n → IsPower n
IsPower-from_IsDegree n degree =
    let found = power_of_divisor 15 n (32768 / n) (whole n degree.divisor) in
    record {
      log_degree = found.0;
      power = found.1;
      from_four = least n degree.multiple degree.divisor;
      to_limit = greatest n degree.divisor;
    }
  where
    whole : (n : ℕ) → 32768 % n ≡ 0 → n * (32768 / n) ≡ 2 ^ 15
    whole n e = let h = div-add-mod' 32768 n in omega arith

    least : (n : ℕ) → n % 4 ≡ 0 → 32768 % n ≡ 0 → 4 ≤ n
    least zero m d = absurd (let h = mod-zero 32768 in omega arith)
    least (suc n) m d = omega arith

    greatest : (n : ℕ) → 32768 % n ≡ 0 → n ≤ 32768
    greatest n d = ⊎_elim (λ (l : 32768 < n). absurd (let h : 32768 % n ≡ 32768 = mod-eq_of_lt l in omega arith)) (λ (l : n ≤ 32768). l) (cases_lt 32768 n)

-- a degree has at least two digits behind its first one
pub log_from_two : (n k : ℕ) → n ≡ 2 ^ k → 4 ≤ n → 2 ≤ k
log_from_two n zero size from = absurd (omega arith)
log_from_two n (suc zero) size from = absurd (omega arith)
log_from_two n (suc (suc k)) size from = omega arith

-- the next power of two that is at most n
pub log_next : (e n k : ℕ) → n ≡ 2 ^ k → n ≤ 32768 → 2 ^ e < n → (e + 1 ≤ 15) × (2 ^ (e + 1) ≤ n)
log_next e n k size small less = (
  let limit = log_limit k (subst (λ n. n ≤ 32768) size small) in let l = exponent in omega arith,
  let l : e + 1 ≤ k = exponent in subst (λ n. 2 ^ (e + 1) ≤ n) (sym size) (pow-le-pow_right two l),
)
  where
    two : 0 < 2
    two = omega arith

    exponent : e + 1 ≤ k
    exponent = ⊎_elim (λ (l : e < k). omega arith) (λ (l : k ≤ e). absurd (let h : 2 ^ k ≤ 2 ^ e = pow-le-pow_right two l in omega arith)) (cases_lt e k)

-- the layer with 2^s blocks: a block is twice its half
pub layer_width : (k s : ℕ) → s < k → 2 ^ (k - s) ≡ 2 * 2 ^ (k - suc s)
layer_width k s below = ap (λ e. 2 ^ e) (one k s below) ∙ twice (k - suc s)
  where
    one : (k s : ℕ) → s < k → k - s ≡ suc (k - suc s)
    one k s below = omega arith

    twice : (e : ℕ) → 2 ^ suc e ≡ 2 * 2 ^ e
    twice e = omega arith

-- and all its blocks are the row
pub layer_size : (k s : ℕ) → s < k → 2 ^ s * (2 * 2 ^ (k - suc s)) ≡ 2 ^ k
layer_size k s below = ap (λ w. 2 ^ s * w) (sym (layer_width k s below)) ∙ sym (pow-add 2 s (k - s)) ∙ ap (λ e. 2 ^ e) (sum k s below)
  where
    sum : (k s : ℕ) → s < k → s + (k - s) ≡ k
    sum k s below = omega arith

-- the table of a layer ends within 2^k
pub layer_within : (k s : ℕ) → s < k → 2 * 2 ^ s ≤ 2 ^ k
layer_within k s below = let size = layer_size k s below in let p = pow_pos (k - suc s) in let h = mul-le-mul_right (2 * 2 ^ s) p in grind arith

-- a layer has a factor for each block
pub length-layer : {A : Type 0} (table factors : List A) (n k s : ℕ) → length table ≡ n → n ≡ 2 ^ k → s < k
    → factors ≡ take (2 ^ s) (drop (2 ^ s) table) → length factors ≡ 2 ^ s
length-layer table factors n k s len size below are =
    let within = layer_within k s below in
    ap length are ∙ omega (arith, length-take (2 ^ s) (drop (2 ^ s) table), length-drop (2 ^ s) table)

-- the row of a layer
pub layer_row : (n k s count half len : ℕ) → len ≡ n → n ≡ 2 ^ k → s < k → count ≡ 2 ^ s → half ≡ 2 ^ (k - suc s) → len ≡ count * (2 * half)
layer_row n k s count half len is_len size below is_count is_half =
    is_len ∙ size ∙ sym (layer_size k s below) ∙ ap₂ (λ count half. count * (2 * half)) (sym is_count) (sym is_half)

-- the quarters of a block are the halves of its halves
pub two_quarters : (k s quarter : ℕ) → s + 1 < k → quarter ≡ 2 ^ (k - suc (s + 1)) → 2 * quarter ≡ 2 ^ (k - suc s)
two_quarters k s quarter below is_quarter = ap (λ q. 2 * q) is_quarter ∙ sym (layer_width k (s + 1) below) ∙ ap (λ e. 2 ^ e) (one k s)
  where
    one : (k s : ℕ) → k - (s + 1) ≡ k - suc s
    one k s = omega arith

-- ---- roots
-- what is q - 1 modulo q is congruent to -1
pub Congruent-minus_one : (q y : ℕ) → 3 ≤ q → y % q ≡ q - 1 → Congruent q (pos y) (neg_ℤ (pos 1))
Congruent-minus_one q y big is =
    Congruent-trans q (Congruent-sym q (Congruent-mod q y (omega arith)))
    (Congruent-trans q (Congruent-equal q (ap pos is)) (record { quotient = pos 1; equation = omega (arith, ints) }))

-- powers of the power 2n - 1 are the inverses of the powers
pub inverse_power : (q x k n e : ℕ) → 0 < q → n ≡ 2 ^ k → Congruent q (pos (x ^ (2 ^ k))) (neg_ℤ (pos 1))
    → Congruent q (pos ((x ^ (2 * n - 1) % q) ^ e % q) *ℤ pos (x ^ e)) (pos 1)
inverse_power q x k n e positive size minus_one =
    Congruent-trans q (Congruent-mul q (Congruent-trans q (Congruent-equal q (ap pos (pow-mod (x ^ (2 * n - 1)) e q))) (Congruent-mod q ((x ^ (2 * n - 1)) ^ e) positive))
    (Congruent-refl q (pos (x ^ e))))
    (Congruent-trans q (Congruent-equal q (ap pos joined))
    (Congruent-trans q (power_whole_turns q k x minus_one 0 e) (Congruent-equal q (ap pos (pow-zero x)))))
  where
    whole : (n e : ℕ) → 0 < n → (2 * n - 1) * e + e ≡ 2 * n * e
    whole n e p = let h : 2 * n ≡ suc (2 * n - 1) = omega arith in ap₂ (λ a b. a + b) refl refl ∙ next (2 * n - 1) e ∙ ap (λ a. a * e) (sym h)
      where
        next : (a e : ℕ) → a * e + e ≡ suc a * e
        next a e = omega arith

    joined : (x ^ (2 * n - 1)) ^ e * x ^ e ≡ x ^ (0 + 2 * 2 ^ k * e)
    joined =
        ap (λ y. y * x ^ e) (sym (pow-pow x (2 * n - 1) e)) ∙ sym (pow-add x ((2 * n - 1) * e) e)
        ∙ ap (λ a. x ^ a) (whole n e (subst (λ n. 0 < n) (sym size) (pow_pos k)) ∙ ap (λ n. 2 * n * e) size ∙ plain (2 * 2 ^ k * e))
      where
        plain : (a : ℕ) → a ≡ 0 + a
        plain a = omega arith

-- ---- layers
module _ (q x k n s m : ℕ) (positive : 0 < q) (minus_one : Congruent q (pos (x ^ (2 ^ k))) (neg_ℤ (pos 1))) (below : s < k) (a : ℕ → ℤ) (old new : List ℕ) where
  size : 2 * 2 ^ (k - suc s) * 2 ^ s ≡ 2 ^ k
  size = swap (2 ^ (k - suc s)) (2 ^ s) ∙ layer_size k s below
    where
      swap : (a b : ℕ) → 2 * a * b ≡ b * (2 * a)
      swap a b = omega arith

  -- forward
  pub AreBlocks-split : EachBlock (λ i. IsButterfly q (x ^ (2 ^ (k - suc s) * (2 * bit_reversal s i + 1)) % q)) (2 ^ s) (2 ^ (k - suc s)) old new
      → AreBlocks q x s (2 ^ (k - s)) m a old → AreBlocks q x (s + 1) (2 ^ (k - (s + 1))) m a new
  AreBlocks-split pairs before =
      subst (λ e. AreBlocks q x e (2 ^ (k - e)) m a new) (next s)
      (AreBlocks-next q x (2 ^ k) s (2 ^ (k - suc s)) m positive minus_one size a (λ i. x ^ (2 ^ (k - suc s) * (2 * bit_reversal s i + 1)) % q) old new
      (λ i l. Congruent-mod q (x ^ (2 ^ (k - suc s) * (2 * bit_reversal s i + 1))) positive) pairs
      (subst (λ w. AreBlocks q x s w m a old) (layer_width k s below) before))
    where
      next : (s : ℕ) → suc s ≡ s + 1
      next s = omega arith

  -- back
  pub AreBlocks-join : n ≡ 2 ^ k
      → EachBlock (λ i. IsButterflyBack q ((x ^ (2 * n - 1) % q) ^ (2 ^ (k - suc s) * (2 * bit_reversal s i + 1)) % q)) (2 ^ s) (2 ^ (k - suc s)) old new
      → AreBlocks q x (suc s) (2 ^ (k - suc s)) m a old → AreBlocks q x s (2 ^ (k - s)) (2 * m) a new
  AreBlocks-join is_size pairs before =
      subst (λ w. AreBlocks q x s w (2 * m) a new) (sym (layer_width k s below))
      (AreBlocks-previous q x (2 ^ k) s (2 ^ (k - suc s)) m positive minus_one size a
      (λ i. (x ^ (2 * n - 1) % q) ^ (2 ^ (k - suc s) * (2 * bit_reversal s i + 1)) % q) old new
      (λ i l. inverse_power q x k n (2 ^ (k - suc s) * (2 * bit_reversal s i + 1)) positive is_size minus_one) pairs before)

-- ---- the ends
times_one : (z : ℤ) → z ≡ pos 1 *ℤ z
times_one z = identity1 (λ z. z) (λ z. literal (pos 1) ⊗ z) refl z

-- before the first layer the one block is the row
pub AreBlocks-first : (q x width : ℕ) (row : List ℕ) → AreBlocks q x 0 width 1 (row_polynomial row) row
AreBlocks-first q x width row = record {
  at = λ i r below inside.
      Congruent-equal q
      (ap (λ p. pos (get_or row p 0)) (here i r below) ∙ sym (block_value_first x width (2 * bit_reversal 0 i + 1) r (row_polynomial row))
      ∙ times_one (block_value x 1 width (2 * bit_reversal 0 i + 1) r (row_polynomial row)));
}
  where
    here : (i r : ℕ) → i < 1 → i * width + r ≡ r
    here i r below = let none : i ≡ 0 = omega arith in ap (λ i. i * width + r) none ∙ plain width r
      where
        plain : (w r : ℕ) → 0 * w + r ≡ r
        plain w r = omega arith

-- after the last one the residues of the words are the entries
pub transform_entry-AreBlocks : (q x k : ℕ) (a : ℕ → ℤ) (row : List ℕ) (j : ℕ) → 0 < q → AreBlocks q x k (2 ^ (k - k)) 1 a row → j < 2 ^ k
    → get_or row j 0 % q ≡ transform_entry q k x a j
transform_entry-AreBlocks q x k a row j positive blocks below =
    residue_equal q (pos (get_or row j 0)) (evaluation (2 ^ k) x (2 * bit_reversal k j + 1) a) positive
    (Congruent-trans q (Congruent-equal q (ap (λ p. pos (get_or row p 0)) (here j)))
    (Congruent-trans q (one_wide.at j 0 below (omega arith))
    (Congruent-equal q (sym (times_one (block_value x (2 ^ k) 1 (2 * bit_reversal k j + 1) 0 a)) ∙ block_value_last x k j a))))
  where
    one_wide : AreBlocks q x k 1 1 a row
    one_wide = subst (λ e. AreBlocks q x k (2 ^ e) 1 a row) (none k) blocks
      where
        none : (k : ℕ) → k - k ≡ 0
        none k = omega arith

    here : (j : ℕ) → j ≡ j * 1 + 0
    here j = omega arith

-- the words of a transform are the blocks of the last layer
pub AreBlocks-last : (q x k : ℕ) (a : ℕ → ℤ) (row : List ℕ) → 0 < q → IsTransform q k x row a → AreBlocks q x k (2 ^ (k - k)) (2 ^ (k - k)) a row
AreBlocks-last q x k a row positive entries =
    subst (λ e. AreBlocks q x k (2 ^ e) (2 ^ e) a row) (sym (none k)) (record {
      at = λ i r below inside.
          let first : r ≡ 0 = omega arith in
          subst (λ r. Congruent q (pos (get_or row (i * 1 + r) 0)) (pos 1 *ℤ block_value x (2 ^ k) 1 (2 * bit_reversal k i + 1) r a)) (sym first)
          (Congruent-trans q (Congruent-equal q (ap (λ p. pos (get_or row p 0)) (here i) ∙ ap pos (entries i below)))
          (Congruent-trans q (Congruent-sym q (Congruent-residue q (evaluation (2 ^ k) x (2 * bit_reversal k i + 1) a) positive))
          (Congruent-equal q (sym (block_value_last x k i a) ∙ times_one (block_value x (2 ^ k) 1 (2 * bit_reversal k i + 1) 0 a)))));
    })
  where
    none : (k : ℕ) → k - k ≡ 0
    none k = omega arith

    here : (i : ℕ) → i * 1 + 0 ≡ i
    here i = omega arith

-- the root of parameters that fit
pub AreParameters-minus_one : (n : ℕ) (t : Parameters) → AreParameters n t → Congruent t.modulus (pos (t.root ^ (2 ^ t.log_degree))) (neg_ℤ (pos 1))
AreParameters-minus_one n t fit =
    subst (λ n. Congruent t.modulus (pos (t.root ^ n)) (neg_ℤ (pos 1))) fit.power (Congruent-minus_one t.modulus (t.root ^ n) fit.modulus.from_three fit.minus_one)

module _ (n : ℕ) (t : Parameters) (fit : AreParameters n t) (a : ℕ → ℤ) (old new : List ℕ) where
  -- a layer forward
  pub AreBlocks-layer : (s : ℕ) → s < t.log_degree → IsSplit t s old new → AreBlocks t.modulus t.root s (2 ^ (t.log_degree - s)) 1 a old
      → AreBlocks t.modulus t.root (s + 1) (2 ^ (t.log_degree - (s + 1))) 1 a new
  AreBlocks-layer s below pairs before =
      AreBlocks-split t.modulus t.root t.log_degree n s 1 (omega (arith, fit.modulus.from_three)) (AreParameters-minus_one n t fit) below a old new pairs before

  -- a layer back
  pub AreBlocks-layer_back : (s : ℕ) → s < t.log_degree → IsJoined n t s old new
      → AreBlocks t.modulus t.root (suc s) (2 ^ (t.log_degree - suc s)) (2 ^ (t.log_degree - suc s)) a old
      → AreBlocks t.modulus t.root s (2 ^ (t.log_degree - s)) (2 ^ (t.log_degree - s)) a new
  AreBlocks-layer_back s below pairs before =
      subst (λ m. AreBlocks t.modulus t.root s (2 ^ (t.log_degree - s)) m a new) (sym (layer_width t.log_degree s below))
      (AreBlocks-join t.modulus t.root t.log_degree n s (2 ^ (t.log_degree - suc s)) (omega (arith, fit.modulus.from_three)) (AreParameters-minus_one n t fit) below a
      old new fit.power pairs before)

-- the last layer back, told by what is kept of its roots
pub IsJoinedLast-from : (n : ℕ) (t : Parameters) (q w root half : ℕ) (old new : List ℕ) → q ≡ t.modulus → w * n % t.modulus ≡ 1
    → root ≡ w * layer_root (inverse_root n t) t 0 0 % t.modulus → half ≡ layer_half t 0
    → EachBlock (λ i. IsScaledButterflyBack q w root) 1 half old new → IsJoinedLast n t old new
IsJoinedLast-from n t q w root half old new modulus is_inverse is_root is_half pairs = record {
  scale = w;
  is_inverse = is_inverse;
  pairs =
      subst (λ h. EachBlock (λ i. IsScaledButterflyBack t.modulus w (w * layer_root (inverse_root n t) t 0 i % t.modulus)) 1 h old new) is_half
      (λ i r below inside.
      let first : 0 ≡ i = omega arith in
      subst
      (λ j. IsScaledButterflyBack t.modulus w (w * layer_root (inverse_root n t) t 0 j % t.modulus) (get_or old (i * (2 * half) + r) 0)
      (get_or old (i * (2 * half) + (half + r)) 0) (get_or new (i * (2 * half) + r) 0) (get_or new (i * (2 * half) + (half + r)) 0)) first
      (subst
      (λ root. IsScaledButterflyBack t.modulus w root (get_or old (i * (2 * half) + r) 0) (get_or old (i * (2 * half) + (half + r)) 0)
      (get_or new (i * (2 * half) + r) 0) (get_or new (i * (2 * half) + (half + r)) 0)) is_root
      (subst
      (λ q. IsScaledButterflyBack q w root (get_or old (i * (2 * half) + r) 0) (get_or old (i * (2 * half) + (half + r)) 0) (get_or new (i * (2 * half) + r) 0)
      (get_or new (i * (2 * half) + (half + r)) 0)) modulus (pairs i r below inside))));
}

-- the words of the row of the last layer back, scaled by the inverse of n, are the residues of the coefficients
pub residue-joined : (n : ℕ) (t : Parameters) → AreParameters n t → (a : ℕ → ℤ) (old new : List ℕ) (last : IsJoinedLast n t old new)
    → AreBlocks t.modulus t.root 1 (2 ^ (t.log_degree - 1)) (2 ^ (t.log_degree - 1)) a old
    → (r : ℕ) → r < n → get_or new r 0 < t.modulus → get_or new r 0 ≡ residue t.modulus (a r)
residue-joined n t fit a old new last before r below reduced =
    sym (mod-eq_of_lt reduced) ∙ residue_equal q (pos (get_or new r 0)) (a r) positive
    (Congruent-trans q (Congruent-equal q (ap (λ p. pos (get_or new p 0)) (here n r)))
    (Congruent-trans q (whole.at 0 r (omega arith) below)
    (Congruent-trans q (Congruent-equal q (ap (λ z. pos (last.scale * n) *ℤ z) (block_value_first x n (2 * bit_reversal 0 0 + 1) r a)))
    (Congruent-trans q
    (Congruent-mul q
    (Congruent-trans q (Congruent-sym q (Congruent-mod q (last.scale * n) positive)) (Congruent-equal q (ap pos last.is_inverse)))
    (Congruent-refl q (a r)))
    (Congruent-equal q (sym (times_one (a r))))))))
  where
    q : ℕ
    q = t.modulus

    x : ℕ
    x = t.root

    k : ℕ
    k = t.log_degree

    positive : 0 < t.modulus
    positive = omega (arith, fit.modulus.from_three)

    layer : 0 < t.log_degree
    layer = let two = log_from_two n t.log_degree fit.power fit.from_four in omega arith

    here : (n r : ℕ) → r ≡ 0 * n + r
    here n r = omega arith

    width : 2 * 2 ^ (t.log_degree - suc 0) ≡ n
    width = sym (layer_width t.log_degree 0 layer) ∙ ap (λ e. 2 ^ e) (all t.log_degree) ∙ sym fit.power
      where
        all : (k : ℕ) → k - 0 ≡ k
        all k = omega arith

    size : 2 * 2 ^ (t.log_degree - suc 0) * 2 ^ 0 ≡ 2 ^ t.log_degree
    size = once (2 * 2 ^ (t.log_degree - suc 0)) ∙ width ∙ fit.power
      where
        once : (w : ℕ) → w * 2 ^ 0 ≡ w
        once w = omega arith

    -- the scaled roots times the powers are the scale
    scaled : (i : ℕ) → i < 2 ^ 0 → Congruent q (pos (last.scale * layer_root (inverse_root n t) t 0 i % q) *ℤ pos (x ^ (layer_half t 0 * (2 * bit_reversal 0 i + 1))))
        (pos last.scale)
    scaled i l =
        Congruent-trans q (Congruent-mul q (Congruent-mod q (last.scale * layer_root (inverse_root n t) t 0 i) positive) (Congruent-refl q (pos (x ^ (layer_half t 0 * (2 * bit_reversal 0 i + 1))))))
        (Congruent-trans q
        (Congruent-equal q (identity3 (λ f w y. (f ⊗ w) ⊗ y) (λ f w y. f ⊗ (w ⊗ y)) refl (pos last.scale) (pos (layer_root (inverse_root n t) t 0 i))
        (pos (x ^ (layer_half t 0 * (2 * bit_reversal 0 i + 1))))))
        (Congruent-trans q
        (Congruent-mul q (Congruent-refl q (pos last.scale))
        (inverse_power q x k n (layer_half t 0 * (2 * bit_reversal 0 i + 1)) positive fit.power (AreParameters-minus_one n t fit)))
        (Congruent-equal q (identity1 (λ f. f ⊗ literal (pos 1)) (λ f. f) refl (pos last.scale)))))

    whole : AreBlocks q x 0 n (last.scale * n) a new
    whole =
        subst (λ w. AreBlocks q x 0 w (last.scale * w) a new) width
        (AreBlocks-previous_scaled q x (2 ^ k) 0 (2 ^ (k - suc 0)) (2 ^ (k - suc 0)) positive (AreParameters-minus_one n t fit) size a
        (λ i. last.scale * layer_root (inverse_root n t) t 0 i % q) old new last.scale scaled last.pairs before)

-- a row of reduced words that holds the residues of each polynomial with the given transform has that transform itself
pub IsTransform-from_unique : (q x k w : ℕ) (entries new : List ℕ) → 0 < q → Congruent q (pos (x ^ (2 ^ k))) (neg_ℤ (pos 1)) → w * 2 ^ k % q ≡ 1
    → ((j : ℕ) → j < 2 ^ k → get_or entries j 0 < q)
    → ((a : ℕ → ℤ) → IsTransform q k x entries a → (r : ℕ) → r < 2 ^ k → get_or new r 0 ≡ residue q (a r)) → IsTransform q k x entries (row_polynomial new)
IsTransform-from_unique q x k w entries new positive minus_one is_inverse reduced unique j below =
    of_a j below ∙ transform_entry_congruent q k x a (row_polynomial new) j positive (record {
      at = λ r l. Congruent-trans q (Congruent-residue q (a r) positive) (Congruent-equal q (ap pos (sym (unique a of_a r l))));
    })
  where
    unit : HasInverse q (2 ^ k)
    unit = record {
      inverse = pos w;
      is_one = Congruent-trans q (Congruent-sym q (Congruent-mod q (w * 2 ^ k) positive)) (Congruent-equal q (ap pos is_inverse));
    }

    a : ℕ → ℤ
    a = polynomial_of_entries q k x positive minus_one unit (λ j. get_or entries j 0)

    of_a : IsTransform q k x entries a
    of_a j l = sym (transform_entry-polynomial_of_entries q k x positive minus_one unit (λ j. get_or entries j 0) j l (reduced j l))

-- the powers of (q + 1) / 2, the inverse of 2, are the inverses of the powers of 2
pub power_of_half : (q k : ℕ) → q % 2 ≡ 1 → 3 ≤ q → ((q / 2 + 1) ^ k % q) * 2 ^ k % q ≡ 1
power_of_half q k odd big =
    mul-mod_first ((q / 2 + 1) ^ k) (2 ^ k) q ∙ ap (λ y. y % q) (sym (mul-pow (q / 2 + 1) 2 k)) ∙ sym (pow-mod ((q / 2 + 1) * 2) k q)
    ∙ ap (λ y. y ^ k % q) one ∙ ap (λ y. y % q) (one-pow k) ∙ mod-eq_of_lt (omega arith)
  where
    one-pow : (k : ℕ) → 1 ^ k ≡ 1
    one-pow zero = refl
    one-pow (suc k) = pow-suc 1 k ∙ ap (λ y. y * 1) (one-pow k)

    one : (q / 2 + 1) * 2 % q ≡ 1
    one = let whole : (q / 2 + 1) * 2 ≡ 1 + q = omega arith in ap (λ y. y % q) whole ∙ add-mod_right 1 q ∙ mod-eq_of_lt (omega arith)

-- the entries of a polynomial are those of a row that represents it
pub transform_entry-represented : (p k x : ℕ) (row : List ℕ) (a : ℕ → ℤ) (j : ℕ) → 0 < p → RowRepresents (2 ^ k) p row a →
    transform_entry p k x (row_polynomial row) j ≡ transform_entry p k x a j
transform_entry-represented p k x row a j positive represents =
    transform_entry_congruent p k x (row_polynomial row) a j positive
    (record {
      at = λ i h. Congruent-trans p (Congruent-equal p (ap pos (represents i h))) (Congruent-sym p (Congruent-residue p (a i) positive));
    })
