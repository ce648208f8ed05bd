-- What each call computes, over whole numbers.
use Rattle.std.proofs.Common.{◌≡◌, ℕ, ◌+◌, ◌-◌, ◌*◌, ◌/◌, ◌%◌, ◌^◌, ◌<◌, ◌≤◌, ◌≢◌, min, max, nat_cmp, Ordering, Less, Equal, Greater, ◌⊎◌, inl, inr, refl, sym, ap, ap₂, ◌∙◌, subst, arith, pow_pos, pow-add, mul-one, mul-zero, mul_assoc, mul_comm, mul_right_comm, mul-pos, mul-le-mul, mul-le-mul_left, mul-le-mul_right, le_trans, pos_of_ne-zero, le_of_mul-le-mul_right, le-div_iff_mul-le, div-mul-le_self}
use Rattle.std.proofs.Math.Nat.{le-max_left, le-max_right}
use Rattle.std.specs.Cmp.{nat_cmp_is}
use Rattle.std.specs.Int.{div_ceil}
use Rattle.std.specs.Ordering.{ordering_then}
use Rattle.std.proofs.lemmas.Bool.{cases_lt, cases_order}
use Rattle.std.proofs.lemmas.Nat.{one_shl, shl_whole}
use Rattle.bound_num.specs.Bound.{bound_value, IsCanonical, IsUp, IsDown, bit_length}
use Rattle.bound_num.proofs.Grid.{Fills, pow_two-le, pow_two-split, full_mantissa, bound_value-lt_exponent, bound_value-lt_mantissa}
use Rattle.bound_num.proofs.Rounding.{IsCeiling, IsFloor, up_of_ceiling, up_exact, down_exact, le-div_ceil-mul, div_ceil-le, le_of_div_ceil-le}
use Rattle.bound_num.proofs.Digits.{Leads, bit_length-leads}
use Rattle.bound_num.proofs.Closed.{div_ceil-le_leads, div-lt_leads}

-- ---- n * 2 ^ e without the last s of the digits of n
scaled_steps : (e s z : ℕ) → z * 2 ^ s * 2 ^ e ≡ z * 2 ^ (e + s)
scaled_steps e s z = turned z (2 ^ s) (2 ^ e) ∙ ap (λ p. z * p) (sym (pow-add 2 e s))
  where
    turned : (z p q : ℕ) → z * p * q ≡ z * (q * p)
    turned z p q = omega arith

scaled_fills : (n e s : ℕ) → Fills n s → (e ≡ 0) ⊎ (2 ^ 31 ≤ n) → Fills (n * 2 ^ e) (e + s)
scaled_fills n e s (inr large) full =
    inr (subst (λ x. x ≤ n * 2 ^ e) (scaled_steps e s (2 ^ 31)) (mul-le-mul_right (2 ^ e) large))
scaled_fills n e s (inl none) (inl flat) = inl (omega arith)
scaled_fills n e s (inl none) (inr large) =
    inr (subst (λ k. 2 ^ 31 * 2 ^ k ≤ n * 2 ^ e) (same e s none) (mul-le-mul_right (2 ^ e) large))
  where
    same : (e s : ℕ) → s ≡ 0 → e ≡ e + s
    same e s none = omega arith

scaled_ceiling : (n e s : ℕ) → Fills n s → (e ≡ 0) ⊎ (2 ^ 31 ≤ n) →
    IsCeiling (n * 2 ^ e) (e + s) (div_ceil n (2 ^ s))
scaled_ceiling n e s fills full = record {
  reaches = subst (λ x. n * 2 ^ e ≤ x) (scaled_steps e s (div_ceil n (2 ^ s)))
      (mul-le-mul_right (2 ^ e) (le-div_ceil-mul n (2 ^ s) (pow_pos s)));
  least = λ z l. div_ceil-le n (2 ^ s) z (pow_pos s) (unscaled z l);
  fills = scaled_fills n e s fills full;
}
  where
    unscaled : (z : ℕ) → n * 2 ^ e ≤ z * 2 ^ (e + s) → n ≤ z * 2 ^ s
    unscaled z l = le_of_mul-le-mul_right (subst (λ x. n * 2 ^ e ≤ x) (sym (scaled_steps e s z)) l) (pow_pos e)

scaled_floor : (n e s : ℕ) → Fills n s → (e ≡ 0) ⊎ (2 ^ 31 ≤ n) → IsFloor (n * 2 ^ e) (e + s) (n / 2 ^ s)
scaled_floor n e s fills full = record {
  within = subst (λ x. x ≤ n * 2 ^ e) (scaled_steps e s (n / 2 ^ s)) (mul-le-mul_right (2 ^ e) (div-mul-le_self n (2 ^ s)));
  greatest = λ z l. (le-div_iff_mul-le (pow_pos s)).1 (unscaled z l);
  fills = scaled_fills n e s fills full;
}
  where
    unscaled : (z : ℕ) → z * 2 ^ (e + s) ≤ n * 2 ^ e → z * 2 ^ s ≤ n
    unscaled z l = le_of_mul-le-mul_right (subst (λ x. x ≤ n * 2 ^ e) (sym (scaled_steps e s z)) l) (pow_pos e)

-- the mantissa of `round_up`, before its carry
pub record RoundsUp (n e s y : ℕ) : Type 0 where
  pub ceiling : IsCeiling (n * 2 ^ e) (e + s) y
  pub most : y ≤ 2 ^ 32

pub rounds_up : (n e s y : ℕ) → s ≡ bit_length n - 32 → s ≤ 96 → (e ≡ 0) ⊎ (2 ^ 31 ≤ n) →
    y ≡ div_ceil n ((1 * 2 ^ s) % 2 ^ 128) → RoundsUp n e s y
rounds_up n e s y is short full quotient = subst (λ y. RoundsUp n e s y) same (by (bit_length-leads n s is))
  where
    same : div_ceil n (2 ^ s) ≡ y
    same = ap (λ p. div_ceil n p) (sym (one_shl s 128 (omega arith))) ∙ sym quotient

    by : Leads n s → RoundsUp n e s (div_ceil n (2 ^ s))
    by leads = record { ceiling = scaled_ceiling n e s leads.fills full; most = div_ceil-le_leads n s leads }

-- the mantissa of `round_down`
pub record RoundsDown (n e s y : ℕ) : Type 0 where
  pub floor : IsFloor (n * 2 ^ e) (e + s) y
  pub word : y < 2 ^ 32

pub rounds_down : (n e s : ℕ) → s ≡ bit_length n - 32 → (e ≡ 0) ⊎ (2 ^ 31 ≤ n) → RoundsDown n e s (n / 2 ^ s)
rounds_down n e s is full = by (bit_length-leads n s is)
  where
    by : Leads n s → RoundsDown n e s (n / 2 ^ s)
    by leads = record { floor = scaled_floor n e s leads.fills full; word = div-lt_leads n s leads }

-- ---- words
pub unscaled_up : (x m e : ℕ) → IsUp (x * 2 ^ 0) m e → IsUp x m e
unscaled_up x m e up = subst (λ y. IsUp y m e) (mul-one x) up

pub unscaled_down : (x m e : ℕ) → IsDown (x * 2 ^ 0) m e → IsDown x m e
unscaled_down x m e down = subst (λ y. IsDown y m e) (mul-one x) down

pub word-le : (x : ℕ) → x < 2 ^ 64 → x ≤ bound_value (2 ^ 32 - 1) 33
unfolding bound_value
word-le x word = omega arith

-- ---- sums
shifted : (m g : ℕ) → m < 2 ^ 32 → g ≤ 64 → (m * 2 ^ g) % 2 ^ 128 ≡ m * 2 ^ g
shifted m g word short = shl_whole m 32 g 128 word (omega arith)

pub sum_near : (m e l f n g : ℕ) → m < 2 ^ 32 → f ≤ e → e - f ≤ 32 →
    IsUp (((m * 2 ^ (e - f)) % 2 ^ 128 + l) * 2 ^ f) n g → IsUp (bound_value m e + bound_value l f) n g
unfolding bound_value
sum_near m e l f n g word ordered near up = subst (λ x. IsUp x n g) (whole ∙ apart m (2 ^ (e - f)) l (2 ^ f) ∙ joined) up
  where
    whole : ((m * 2 ^ (e - f)) % 2 ^ 128 + l) * 2 ^ f ≡ (m * 2 ^ (e - f) + l) * 2 ^ f
    whole = ap (λ y. (y + l) * 2 ^ f) (shifted m (e - f) word (omega arith))

    apart : (m p l q : ℕ) → (m * p + l) * q ≡ m * (p * q) + l * q
    apart m p l q = omega arith

    joined : m * (2 ^ (e - f) * 2 ^ f) + l * 2 ^ f ≡ m * 2 ^ e + l * 2 ^ f
    joined = ap (λ p. m * p + l * 2 ^ f) (sym (pow_two-split e f ordered))

pub sum_alone : (m e l f : ℕ) → IsCanonical m e → l ≡ 0 → IsUp (bound_value m e + bound_value l f) m e
unfolding bound_value
sum_alone m e l f canonical none = subst (λ x. IsUp x m e) (sym same) (up_exact m e canonical)
  where
    alone : (x p : ℕ) → x + 0 * p ≡ x
    alone x p = omega arith

    same : m * 2 ^ e + l * 2 ^ f ≡ m * 2 ^ e
    same = ap (λ l. m * 2 ^ e + l * 2 ^ f) none ∙ alone (m * 2 ^ e) (2 ^ f)

-- a positive number below one step is one step more
next_ceiling : (m e t : ℕ) → 2 ^ 31 ≤ m → 0 < t → t ≤ 2 ^ e → IsCeiling (m * 2 ^ e + t) e (m + 1)
next_ceiling m e t full positive little = record {
  reaches = (let next = next_step m (2 ^ e) in omega arith);
  least = λ z l. by z l (cases_lt z (m + 1));
  fills = inr (le_trans (mul-le-mul_right (2 ^ e) full) (omega arith));
}
  where
    next_step : (m p : ℕ) → (m + 1) * p ≡ m * p + p
    next_step m p = omega arith

    by : (z : ℕ) → m * 2 ^ e + t ≤ z * 2 ^ e → (z < m + 1) ⊎ (m + 1 ≤ z) → m + 1 ≤ z
    by z l (inr more) = more
    by z l (inl less) = absurd (let within : z * 2 ^ e ≤ m * 2 ^ e = mul-le-mul_right (2 ^ e) (omega arith) in omega arith)

pub sum_far : (m e l f n g : ℕ) → IsCanonical m e → l < 2 ^ 32 → l ≢ 0 → f ≤ e → 32 < e - f →
    IsUp ((m + 1) * 2 ^ e) n g → IsUp (bound_value m e + bound_value l f) n g
unfolding bound_value
sum_far m e l f n g canonical word some ordered far up =
    up_of_ceiling (m * 2 ^ e + l * 2 ^ f) e (m + 1) n g (next_ceiling m e (l * 2 ^ f) full positive little) up
  where
    full : 2 ^ 31 ≤ m
    full = full_mantissa m e canonical (omega arith)

    positive : 0 < l * 2 ^ f
    positive = mul-pos (pos_of_ne-zero some) (pow_pos f)

    little : l * 2 ^ f ≤ 2 ^ e
    little =
        let step : 2 ^ (32 + f) ≤ 2 ^ e = pow_two-le (32 + f) e (omega arith) in
        let parts = pow-add 2 32 f in
        let most : l * 2 ^ f ≤ 2 ^ 32 * 2 ^ f = mul-le-mul_right (2 ^ f) (omega arith) in
        omega arith

pub sum-le : (m e l f : ℕ) → m < 2 ^ 32 → l < 2 ^ 32 → bound_value m e + bound_value l f ≤ bound_value (2 ^ 32 - 1) (max e f + 1)
unfolding bound_value
sum-le m e l f high low =
    let left : m * 2 ^ e ≤ (2 ^ 32 - 1) * 2 ^ max e f = mul-le-mul (omega arith) (pow_two-le e (max e f) (le-max_left e f)) in
    let right : l * 2 ^ f ≤ (2 ^ 32 - 1) * 2 ^ max e f = mul-le-mul (omega arith) (pow_two-le f (max e f) (le-max_right e f)) in
    let twice = pow-add 2 (max e f) 1 in
    omega arith

-- ---- products
pub product_up : (m e k n f : ℕ) → IsUp (m * k * 2 ^ e) n f → IsUp (bound_value m e * k) n f
unfolding bound_value
product_up m e k n f up = subst (λ x. IsUp x n f) (mul_right_comm m k (2 ^ e)) up

pub product_down : (m e k n f : ℕ) → IsDown (m * k * 2 ^ e) n f → IsDown (bound_value m e * k) n f
unfolding bound_value
product_down m e k n f down = subst (λ x. IsDown x n f) (mul_right_comm m k (2 ^ e)) down

product_zero : (x k : ℕ) → k ≡ 0 → bound_value 0 0 ≡ x * k
unfolding bound_value
product_zero x k none = sym (ap (λ k. x * k) none ∙ mul-zero x)

zero_canonical : IsCanonical 0 0
zero_canonical = record { word = omega arith; full = inl refl }

pub product_up_zero : (x k : ℕ) → k ≡ 0 → IsUp (x * k) 0 0
product_up_zero x k none = subst (λ y. IsUp y 0 0) (product_zero x k none) (up_exact 0 0 zero_canonical)

pub product_down_zero : (x k : ℕ) → k ≡ 0 → IsDown (x * k) 0 0
product_down_zero x k none = subst (λ y. IsDown y 0 0) (product_zero x k none) (down_exact 0 0 zero_canonical)

pub product-le : (m e k : ℕ) → m < 2 ^ 32 → k < 2 ^ 64 → bound_value m e * k ≤ bound_value (2 ^ 32 - 1) (e + 64)
unfolding bound_value
product-le m e k word factor =
    let parts = pow-add 2 e 64 in
    let most : m * 2 ^ e * k ≤ (2 ^ 32 - 1) * 2 ^ e * 2 ^ 64 = mul-le-mul (mul-le-mul_right (2 ^ e) (omega arith)) (omega arith) in
    omega arith

-- ---- quotients, where s of the binary digits of the exponent go into the dividend
dividend_fills : (m e s q : ℕ) → IsCanonical m e → q < 2 ^ 64 → s ≡ min e 64 → (e - s ≡ 0) ⊎ (2 ^ 31 * q ≤ m * 2 ^ s)
dividend_fills m e s q canonical word is = by (cases_lt 64 e)
  where
    by : (64 < e) ⊎ (e ≤ 64) → (e - s ≡ 0) ⊎ (2 ^ 31 * q ≤ m * 2 ^ s)
    by (inr short) = inl (omega arith)
    by (inl long) = inr (mul-le-mul (full_mantissa m e canonical (omega arith)) (subst (λ s. q ≤ 2 ^ s) (whole e s long is) (omega arith)))
      where
        whole : (e s : ℕ) → 64 < e → s ≡ min e 64 → 64 ≡ s
        whole e s long is = omega arith

pub quotient_full : (m e q s d : ℕ) → IsCanonical m e → 0 < q → q < 2 ^ 64 → s ≡ min e 64 →
    d ≡ div_ceil (m * 2 ^ s % 2 ^ 128) q → (e - s ≡ 0) ⊎ (2 ^ 31 ≤ d)
quotient_full m e q s d canonical positive word shift is = by (dividend_fills m e s q canonical word shift)
  where
    quotient : div_ceil (m * 2 ^ s) q ≡ d
    quotient = ap (λ x. div_ceil x q) (sym (shifted m s canonical.word (omega arith))) ∙ sym is

    by : (e - s ≡ 0) ⊎ (2 ^ 31 * q ≤ m * 2 ^ s) → (e - s ≡ 0) ⊎ (2 ^ 31 ≤ d)
    by (inl none) = inl none
    by (inr full) =
        inr (subst (λ d. 2 ^ 31 ≤ d) quotient (le_of_mul-le-mul_right (le_trans full (le-div_ceil-mul (m * 2 ^ s) q positive)) positive))

quotient_ceiling : (a q f : ℕ) → 0 < q → (f ≡ 0) ⊎ (2 ^ 31 * q ≤ a) →
    IsCeiling (div_ceil (a * 2 ^ f) q) f (div_ceil a q)
quotient_ceiling a q f positive full = record {
  reaches = div_ceil-le (a * 2 ^ f) q (div_ceil a q * 2 ^ f) positive (scaled (div_ceil a q) (le-div_ceil-mul a q positive));
  least = λ z l. div_ceil-le a q z positive (unscaled z (le_of_div_ceil-le (a * 2 ^ f) q (z * 2 ^ f) positive l));
  fills = by full;
}
  where
    scaled : (z : ℕ) → a ≤ z * q → a * 2 ^ f ≤ z * 2 ^ f * q
    scaled z l = subst (λ x. a * 2 ^ f ≤ x) (mul_right_comm z q (2 ^ f)) (mul-le-mul_right (2 ^ f) l)

    unscaled : (z : ℕ) → a * 2 ^ f ≤ z * 2 ^ f * q → a ≤ z * q
    unscaled z l = le_of_mul-le-mul_right (subst (λ x. a * 2 ^ f ≤ x) (mul_right_comm z (2 ^ f) q) l) (pow_pos f)

    enough : 2 ^ 31 * q ≤ a → 2 ^ 31 * 2 ^ f * q ≤ a * 2 ^ f
    enough large = subst (λ x. x ≤ a * 2 ^ f) (mul_right_comm (2 ^ 31) q (2 ^ f)) (mul-le-mul_right (2 ^ f) large)

    by : (f ≡ 0) ⊎ (2 ^ 31 * q ≤ a) → Fills (div_ceil (a * 2 ^ f) q) f
    by (inl none) = inl none
    by (inr large) = inr (le_of_mul-le-mul_right (le_trans (enough large) (le-div_ceil-mul (a * 2 ^ f) q positive)) positive)

pub quotient_up : (m e q s d n g : ℕ) → IsCanonical m e → 0 < q → q < 2 ^ 64 → s ≡ min e 64 →
    d ≡ div_ceil ((m * 2 ^ s) % 2 ^ 128) q → IsUp (d * 2 ^ (e - s)) n g → IsUp (div_ceil (bound_value m e) q) n g
unfolding bound_value
quotient_up m e q s d n g canonical positive word shift is up =
    subst (λ x. IsUp (div_ceil x q) n g) whole
    (up_of_ceiling (div_ceil (m * 2 ^ s * 2 ^ (e - s)) q) (e - s) (div_ceil (m * 2 ^ s) q) n g
    (quotient_ceiling (m * 2 ^ s) q (e - s) positive (dividend_fills m e s q canonical word shift))
    (subst (λ y. IsUp (y * 2 ^ (e - s)) n g) quotient up))
  where
    quotient : d ≡ div_ceil (m * 2 ^ s) q
    quotient = is ∙ ap (λ x. div_ceil x q) (shifted m s canonical.word (omega arith))

    whole : m * 2 ^ s * 2 ^ (e - s) ≡ m * 2 ^ e
    whole = mul_assoc m (2 ^ s) (2 ^ (e - s)) ∙ ap (λ p. m * p) (mul_comm (2 ^ s) (2 ^ (e - s)) ∙ sym (pow_two-split e s (omega arith)))

pub quotient-le : (x q : ℕ) → 0 < q → div_ceil x q ≤ x
quotient-le x q positive = div_ceil-le x q x positive (let least : x * 1 ≤ x * q = mul-le-mul_left x positive in omega arith)

-- ---- quarters
down_of_value : (x m e : ℕ) → IsCanonical m e → bound_value m e ≡ x → IsDown x m e
down_of_value x m e canonical is = subst (λ x. IsDown x m e) is (down_exact m e canonical)

word_canonical : (m : ℕ) → m < 2 ^ 32 → IsCanonical m 0
word_canonical m word = record { word = word; full = inl refl }

pub quarter_at_zero : (m e : ℕ) → m < 2 ^ 32 → e ≡ 0 → IsDown (bound_value m e / 4) (m / 4) 0
unfolding bound_value
quarter_at_zero m e word is =
    let value : m * 2 ^ e ≡ m * 2 ^ 0 = ap (λ e. m * 2 ^ e) is in
    down_of_value (m * 2 ^ e / 4) (m / 4) 0 (word_canonical (m / 4) (omega arith)) (omega arith)

pub quarter_at_one : (m e : ℕ) → m < 2 ^ 32 → e ≡ 1 → IsDown (bound_value m e / 4) (m / 2) 0
unfolding bound_value
quarter_at_one m e word is =
    let value : m * 2 ^ e ≡ m * 2 ^ 1 = ap (λ e. m * 2 ^ e) is in
    down_of_value (m * 2 ^ e / 4) (m / 2) 0 (word_canonical (m / 2) (omega arith)) (omega arith)

pub quarter_above : (m e : ℕ) → IsCanonical m e → 2 ≤ e → IsDown (bound_value m e / 4) m (e - 2)
unfolding bound_value
quarter_above m e canonical l =
    down_of_value (m * 2 ^ e / 4) m (e - 2)
    (record { word = canonical.word; full = inr (full_mantissa m e canonical (omega arith)) })
    (sym (ap (λ p. m * p / 4) (pow_two-split e 2 l) ∙ fourth m (2 ^ (e - 2))))
  where
    fourth : (m p : ℕ) → m * (p * 4) / 4 ≡ m * p
    fourth m p = let whole : m * (p * 4) ≡ 4 * (m * p) = omega arith in omega arith

-- ---- the order of the numbers is that of the exponents, then that of the mantissas
pub ordering_then-bound_value : (m e n f : ℕ) → IsCanonical m e → IsCanonical n f →
    ordering_then (nat_cmp e f) (nat_cmp m n) ≡ nat_cmp (bound_value m e) (bound_value n f)
ordering_then-bound_value m e n f low high = by (cases_order e f)
  where
    exponents : (o : Ordering) → o ≡ nat_cmp e f → ordering_then (nat_cmp e f) (nat_cmp m n) ≡ ordering_then o (nat_cmp m n)
    exponents o is = ap (λ p. ordering_then p (nat_cmp m n)) (sym is)

    less : bound_value m e < bound_value n f → Less ≡ nat_cmp (bound_value m e) (bound_value n f)
    less l = nat_cmp_is (bound_value m e) (bound_value n f) Less l

    greater : bound_value n f < bound_value m e → Greater ≡ nat_cmp (bound_value m e) (bound_value n f)
    greater l = nat_cmp_is (bound_value m e) (bound_value n f) Greater l

    mantissas : e ≡ f → (m ≡ n) ⊎ ((m < n) ⊎ (n < m)) → nat_cmp m n ≡ nat_cmp (bound_value m e) (bound_value n f)
    mantissas same (inl equal) = sym (nat_cmp_is m n Equal equal) ∙ nat_cmp_is (bound_value m e) (bound_value n f) Equal (ap₂ bound_value equal same)
    mantissas same (inr (inl l)) = sym (nat_cmp_is m n Less l) ∙ less (bound_value-lt_mantissa m n e f same l)
    mantissas same (inr (inr l)) = sym (nat_cmp_is m n Greater l) ∙ greater (bound_value-lt_mantissa n m f e (sym same) l)

    by : (e ≡ f) ⊎ ((e < f) ⊎ (f < e)) → ordering_then (nat_cmp e f) (nat_cmp m n) ≡ nat_cmp (bound_value m e) (bound_value n f)
    by (inl same) = exponents Equal (nat_cmp_is e f Equal same) ∙ mantissas same (cases_order m n)
    by (inr (inl l)) = exponents Less (nat_cmp_is e f Less l) ∙ less (bound_value-lt_exponent m e n f low high l)
    by (inr (inr l)) = exponents Greater (nat_cmp_is e f Greater l) ∙ greater (bound_value-lt_exponent n f m e high low l)
