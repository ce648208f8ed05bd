-- Where the canonical bounds stand, and in which order.
use Rattle.std.proofs.Common.{◌≡◌, ℕ, suc, ◌-◌, ◌*◌, ◌^◌, ◌<◌, ◌≤◌, ◌⊎◌, inl, inr, ⊎_elim, sym, ap, ◌∙◌, arith, pow-add, pow_pos, mul_assoc, mul-le-mul, mul-le-mul_right, sub-add_cancel, le_trans, le_antisymm, le_of_mul-le-mul_right}
use Rattle.std.proofs.Math.Nat.{pow-le-pow_right}
use Rattle.std.proofs.lemmas.Bool.{cases_lt, cases_eq}
use Rattle.bound_num.specs.Bound.{bound_value, IsCanonical, IsUp, IsDown}

pub pow_two-le : (e f : ℕ) → e ≤ f → 2 ^ e ≤ 2 ^ f
pow_two-le e f l = pow-le-pow_right (omega arith) l

pub pow_two-split : (e f : ℕ) → f ≤ e → 2 ^ e ≡ 2 ^ (e - f) * 2 ^ f
pow_two-split e f l = ap (λ k. 2 ^ k) (sym (sub-add_cancel l)) ∙ pow-add 2 (e - f) f

-- the steps of 2 ^ f are single units, or x has at least 2 ^ 31 of them
abbrev pub Fills : ℕ → ℕ → Type 0
Fills x f = (f ≡ 0) ⊎ (2 ^ 31 * 2 ^ f ≤ x)

pub full_mantissa : (m e : ℕ) → IsCanonical m e → 0 < e → 2 ^ 31 ≤ m
full_mantissa m e canonical positive = by canonical.full
  where
    by : (e ≡ 0) ⊎ (2 ^ 31 ≤ m) → 2 ^ 31 ≤ m
    by (inl none) = absurd (omega arith)
    by (inr full) = full

-- with an exponent below f no mantissa reaches 2 ^ 31 steps of 2 ^ f
value_lt : (m e f : ℕ) → m < 2 ^ 32 → e < f → m * 2 ^ e < 2 ^ 31 * 2 ^ f
value_lt m e f word less =
    let twice : 2 ^ suc e ≤ 2 ^ f = pow_two-le (suc e) f less in
    let most : m * 2 ^ e ≤ (2 ^ 32 - 1) * 2 ^ e = mul-le-mul_right (2 ^ e) (omega arith) in
    let positive = pow_pos e in
    omega arith

-- and with an exponent from f on each full mantissa does
value_ge : (m e f : ℕ) → 2 ^ 31 ≤ m → f ≤ e → 2 ^ 31 * 2 ^ f ≤ m * 2 ^ e
value_ge m e f full more = mul-le-mul full (pow_two-le f e more)

-- canonical bounds that fill a mantissa at steps of 2 ^ f are multiples of 2 ^ f
pub bound_value-multiple : (m e f : ℕ) → IsCanonical m e → Fills (bound_value m e) f →
    (z : ℕ) × (bound_value m e ≡ z * 2 ^ f)
unfolding bound_value
bound_value-multiple m e f canonical (inl none) = (m * 2 ^ e, ones (m * 2 ^ e) ∙ ap (λ k. m * 2 ^ e * 2 ^ k) (sym none))
  where
    ones : (x : ℕ) → x ≡ x * 2 ^ 0
    ones x = omega arith
bound_value-multiple m e f canonical (inr large) =
    ⊎_elim
    (λ (less : e < f). absurd (let below = value_lt m e f canonical.word less in omega arith))
    (λ (more : f ≤ e). (m * 2 ^ (e - f), split more))
    (cases_lt e f)
  where
    split : f ≤ e → m * 2 ^ e ≡ m * 2 ^ (e - f) * 2 ^ f
    split more = ap (λ p. m * p) (pow_two-split e f more) ∙ sym (mul_assoc m (2 ^ (e - f)) (2 ^ f))

-- ---- order
-- of two canonical bounds the one with the greater exponent is greater
pub bound_value-lt_exponent : (m e n f : ℕ) → IsCanonical m e → IsCanonical n f → e < f → bound_value m e < bound_value n f
unfolding bound_value
bound_value-lt_exponent m e n f low high less =
    let below = value_lt m e f low.word less in
    let above = value_ge n f f (full_mantissa n f high (omega arith)) (omega arith) in
    omega arith

pub bound_value-lt_mantissa : (m n e f : ℕ) → e ≡ f → m < n → bound_value m e < bound_value n f
unfolding bound_value
bound_value-lt_mantissa m n e f same less =
    let next : suc m * 2 ^ e ≤ n * 2 ^ e = mul-le-mul_right (2 ^ e) less in
    let positive = pow_pos e in
    let moved : n * 2 ^ e ≡ n * 2 ^ f = ap (λ k. n * 2 ^ k) same in
    omega arith

pub exponent-le : (m e n f : ℕ) → IsCanonical m e → IsCanonical n f → bound_value m e ≤ bound_value n f → e ≤ f
exponent-le m e n f low high l =
    ⊎_elim
    (λ (less : f < e). absurd (let more = bound_value-lt_exponent n f m e high low less in omega arith))
    (λ (more : e ≤ f). more)
    (cases_lt f e)

pub exponent-lt : (m e f : ℕ) → IsCanonical m e → 0 < f → bound_value m e < 2 ^ 31 * 2 ^ f → e < f
unfolding bound_value
exponent-lt m e f canonical positive l =
    ⊎_elim
    (λ (less : e < f). less)
    (λ (more : f ≤ e). absurd (let above = value_ge m e f (full_mantissa m e canonical (omega arith)) more in omega arith))
    (cases_lt e f)

-- ---- canonical bounds of one number are one bound
pub canonical_unique : (m e n f : ℕ) → IsCanonical m e → IsCanonical n f → bound_value m e ≡ bound_value n f → (m ≡ n) × (e ≡ f)
unfolding bound_value
canonical_unique m e n f low high same =
    let up = exponent-le m e n f low high (omega (arith, same)) in
    let down = exponent-le n f m e high low (omega (arith, same)) in
    let exponents : e ≡ f = omega arith in
    let values : m * 2 ^ e ≡ n * 2 ^ e = same ∙ ap (λ k. n * 2 ^ k) (sym exponents) in
    let most : m ≤ n = le_of_mul-le-mul_right (omega (arith, values)) (pow_pos e) in
    let least : n ≤ m = le_of_mul-le-mul_right (omega (arith, values)) (pow_pos e) in
    (le_antisymm most least, exponents)

pub up_same : (x m e n f : ℕ) → IsUp x m e → IsUp x n f → bound_value m e ≡ bound_value n f
up_same x m e n f a b = le_antisymm (a.least n f b.canonical b.above) (b.least m e a.canonical a.above)

pub down_same : (x m e n f : ℕ) → IsDown x m e → IsDown x n f → bound_value m e ≡ bound_value n f
down_same x m e n f a b = le_antisymm (b.greatest m e a.canonical a.below) (a.greatest n f b.canonical b.below)

pub up_unique : (x m e n f : ℕ) → IsUp x m e → IsUp x n f → (m ≡ n) × (e ≡ f)
up_unique x m e n f a b = canonical_unique m e n f a.canonical b.canonical (up_same x m e n f a b)

pub down_unique : (x m e n f : ℕ) → IsDown x m e → IsDown x n f → (m ≡ n) × (e ≡ f)
down_unique x m e n f a b = canonical_unique m e n f a.canonical b.canonical (down_same x m e n f a b)

-- a mantissa and an exponent are canonical or not
pub canonical_cases : (m e : ℕ) → IsCanonical m e ⊎ (IsCanonical m e → ⊥)
canonical_cases m e = by (cases_lt m (2 ^ 32)) (cases_eq e 0) (cases_lt m (2 ^ 31))
  where
    by : (m < 2 ^ 32) ⊎ (2 ^ 32 ≤ m) → (e ≡ 0) ⊎ (e ≡ 0 → ⊥) → (m < 2 ^ 31) ⊎ (2 ^ 31 ≤ m) →
        IsCanonical m e ⊎ (IsCanonical m e → ⊥)
    by (inr large) exponent mantissa = inr (λ c. let word = c.word in omega arith)
    by (inl word) (inl none) mantissa = inl (record { word = word; full = inl none })
    by (inl word) (inr some) (inr full) = inl (record { word = word; full = inr full })
    by (inl word) (inr some) (inl low) = inr (λ c. ⊎_elim some (λ (full : 2 ^ 31 ≤ m). omega arith) c.full)

-- ---- exponents of rounded numbers
pub up_exponent-le : (x m e n f : ℕ) → IsUp x m e → IsCanonical n f → x ≤ bound_value n f → e ≤ f
up_exponent-le x m e n f up high l = exponent-le m e n f up.canonical high (up.least n f high l)

pub down_exponent-le : (x m e n f : ℕ) → IsDown x m e → IsCanonical n f → x ≤ bound_value n f → e ≤ f
down_exponent-le x m e n f down high l = exponent-le m e n f down.canonical high (le_trans down.below l)

-- the greatest mantissa is canonical at each exponent
pub greatest_canonical : (f : ℕ) → IsCanonical (2 ^ 32 - 1) f
greatest_canonical f = record { word = omega arith; full = inr (omega arith) }
