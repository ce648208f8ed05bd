-- Up and Down as functions of whole numbers, and how far they are from their numbers.
use Rattle.std.proofs.Common.{◌≡◌, ℕ, ◌+◌, ◌-◌, ◌*◌, ◌/◌, ◌^◌, ◌<◌, ◌≤◌, inl, inr, ⊎_elim, refl, ap, ◌∙◌, arith, pow_pos, mul-le-mul_right, div-lt_iff_lt-mul, div-add-mod', mod-lt}
use Rattle.std.specs.Int.{div_ceil}
use Rattle.std.proofs.lemmas.Bool.{cases_lt}
use Rattle.std.proofs.lemmas.Grind.{div_ceil_times}
use Rattle.bound_num.specs.Bound.{bound_value, IsUp, IsDown, bit_length, spacing, up, down}
use Rattle.bound_num.proofs.Grid.{Fills, up_same, down_same}
use Rattle.bound_num.proofs.Rounding.{IsCeiling, up_of_mantissa, up_of_carry, bound_value-carry, down_of_mantissa, div_ceil-le, le-div_ceil-mul, ceiling_of, floor_of}
use Rattle.bound_num.proofs.Digits.{Leads, bit_length-leads}

-- the leading digits of n, rounded up or cut off, are a mantissa or one more
pub div_ceil-le_leads : (n s : ℕ) → Leads n s → div_ceil n (2 ^ s) ≤ 2 ^ 32
div_ceil-le_leads n s leads = div_ceil-le n (2 ^ s) (2 ^ 32) (pow_pos s) (let below = leads.below in omega arith)

pub div-lt_leads : (n s : ℕ) → Leads n s → n / 2 ^ s < 2 ^ 32
div-lt_leads n s leads = (div-lt_iff_lt-mul (pow_pos s)).1 leads.below

-- ---- the closed forms
up_closed : (x s y m e : ℕ) → IsCeiling x s y → y ≤ 2 ^ 32 → IsUp x m e → bound_value m e ≡ y * 2 ^ s
unfolding bound_value
up_closed x s y m e ceiling most up =
    ⊎_elim
    (λ (fits : y < 2 ^ 32). up_same x m e y s up (up_of_mantissa x s y ceiling fits))
    (λ (over : 2 ^ 32 ≤ y). carried (omega arith))
    (cases_lt y (2 ^ 32))
  where
    carried : y ≡ 2 ^ 32 → bound_value m e ≡ y * 2 ^ s
    carried carry = up_same x m e (2 ^ 31) (s + 1) up (up_of_carry x s y ceiling carry) ∙ bound_value-carry s y carry

pub up_value : (x m e : ℕ) → IsUp x m e → bound_value m e ≡ up x
unfolding up spacing
up_value x m e is = by (bit_length x - 32) (bit_length-leads x (bit_length x - 32) refl)
  where
    by : (s : ℕ) → Leads x s → bound_value m e ≡ div_ceil x (2 ^ s) * 2 ^ s
    by s leads = up_closed x s (div_ceil x (2 ^ s)) m e (ceiling_of x s leads.fills) (div_ceil-le_leads x s leads) is

pub down_value : (x m e : ℕ) → IsDown x m e → bound_value m e ≡ down x
unfolding down spacing bound_value
down_value x m e is = by (bit_length x - 32) (bit_length-leads x (bit_length x - 32) refl)
  where
    by : (s : ℕ) → Leads x s → bound_value m e ≡ x / 2 ^ s * 2 ^ s
    by s leads = down_same x m e (x / 2 ^ s) s is (down_of_mantissa x s (x / 2 ^ s) (floor_of x s leads.fills) (div-lt_leads x s leads))

-- ---- one rounding is off by at most one part in 2 ^ 31
-- v is less than one step above x
step_near : (x f v : ℕ) → Fills x f → v < x + 2 ^ f → 2 ^ 31 * v ≤ (2 ^ 31 + 1) * x
step_near x f v (inl none) less = let one : 2 ^ f ≡ 2 ^ 0 = ap (λ k. 2 ^ k) none in omega arith
step_near x f v (inr large) less = omega arith

pub le-up : (x : ℕ) → x ≤ up x
unfolding up spacing
le-up x = le-div_ceil-mul x (2 ^ (bit_length x - 32)) (pow_pos (bit_length x - 32))

pub up-near : (x : ℕ) → 2 ^ 31 * up x ≤ (2 ^ 31 + 1) * x
unfolding up spacing
up-near x = by (bit_length x - 32) (bit_length-leads x (bit_length x - 32) refl).fills
  where
    by : (f : ℕ) → Fills x f → 2 ^ 31 * (div_ceil x (2 ^ f) * 2 ^ f) ≤ (2 ^ 31 + 1) * x
    by f fills = step_near x f (div_ceil x (2 ^ f) * 2 ^ f) fills (div_ceil_times x (2 ^ f) (pow_pos f)).1

pub down-le : (x : ℕ) → down x ≤ x
unfolding down spacing
down-le x = (floor_of x (bit_length x - 32) (bit_length-leads x (bit_length x - 32) refl).fills).within

pub down-near : (x : ℕ) → 2 ^ 31 * x ≤ (2 ^ 31 + 1) * down x
unfolding down spacing
down-near x = by (bit_length x - 32) (bit_length-leads x (bit_length x - 32) refl).fills
  where
    kept : (f : ℕ) → Fills x f → Fills (x / 2 ^ f * 2 ^ f) f
    kept f (inl none) = inl none
    kept f (inr large) = inr (mul-le-mul_right (2 ^ f) ((floor_of x f (inr large)).greatest (2 ^ 31) large))

    by : (f : ℕ) → Fills x f → 2 ^ 31 * x ≤ (2 ^ 31 + 1) * (x / 2 ^ f * 2 ^ f)
    by f fills =
        let parts = div-add-mod' x (2 ^ f) in
        let rest = mod-lt x (pow_pos f) in
        step_near (x / 2 ^ f * 2 ^ f) f x (kept f fills) (omega arith)
