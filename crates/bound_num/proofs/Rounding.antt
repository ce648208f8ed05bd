-- A number may be rounded to whole steps of 2 ^ f before Up or Down, where it fills a mantissa of such steps.
use Rattle.std.proofs.Common.{◌≡◌, ℕ, suc, ◌+◌, ◌*◌, ◌/◌, ◌^◌, ◌<◌, ◌≤◌, ◌⊎◌, inl, inr, ⊎_elim, sym, ap, ◌∙◌, subst, arith, add-one, pow_pos, mul-le-mul_right, div-mul-le_self, le_trans, le_of_mul-le-mul_right, le-div_iff_mul-le}
use Rattle.std.specs.Int.{div_ceil}
use Rattle.std.proofs.lemmas.Bool.{cases_lt}
use Rattle.std.proofs.lemmas.Grind.{div_ceil_times}
use Rattle.bound_num.specs.Bound.{bound_value, IsCanonical, IsUp, IsDown}
use Rattle.bound_num.proofs.Grid.{Fills, bound_value-multiple}

-- ---- the quotient rounded up
pub le-div_ceil-mul : (a q : ℕ) → 0 < q → a ≤ div_ceil a q * q
le-div_ceil-mul a q positive = (div_ceil_times a q positive).0

pub div_ceil-le : (a q c : ℕ) → 0 < q → a ≤ c * q → div_ceil a q ≤ c
div_ceil-le a q c positive l =
    ⊎_elim
    (λ (less : c < div_ceil a q). absurd (over less))
    (λ (more : div_ceil a q ≤ c). more)
    (cases_lt c (div_ceil a q))
  where
    over : c < div_ceil a q → ⊥
    over less =
        let next : suc c * q ≤ div_ceil a q * q = mul-le-mul_right q less in
        let near = div_ceil_times a q positive in
        omega (arith, near.1)

pub le_of_div_ceil-le : (a q c : ℕ) → 0 < q → div_ceil a q ≤ c → a ≤ c * q
le_of_div_ceil-le a q c positive l = le_trans (le-div_ceil-mul a q positive) (mul-le-mul_right q l)

-- ---- a canonical bound is its own Up and Down
pub up_exact : (m e : ℕ) → IsCanonical m e → IsUp (bound_value m e) m e
up_exact m e c = record { canonical = c; above = omega arith; least = λ n f d l. l }

pub down_exact : (m e : ℕ) → IsCanonical m e → IsDown (bound_value m e) m e
down_exact m e c = record { canonical = c; below = omega arith; greatest = λ n f d l. l }

-- ---- up to whole steps
-- y is the least number of steps of 2 ^ f that reach x
pub record IsCeiling (x f y : ℕ) : Type 0 where
  pub reaches : x ≤ y * 2 ^ f
  pub least : (z : ℕ) → x ≤ z * 2 ^ f → y ≤ z
  pub fills : Fills x f

pub up_of_ceiling : (x f y m e : ℕ) → IsCeiling x f y → IsUp (y * 2 ^ f) m e → IsUp x m e
up_of_ceiling x f y m e ceiling up = record {
  canonical = up.canonical;
  above = le_trans ceiling.reaches up.above;
  least = λ n g c l. up.least n g c
      (steps (bound_value n g) (bound_value-multiple n g f c (higher (bound_value n g) ceiling.fills l)) l);
}
  where
    higher : (v : ℕ) → Fills x f → x ≤ v → Fills v f
    higher v (inl none) l = inl none
    higher v (inr large) l = inr (le_trans large l)

    steps : (v : ℕ) → (z : ℕ) × (v ≡ z * 2 ^ f) → x ≤ v → y * 2 ^ f ≤ v
    steps v (z, is) l = subst (λ w. y * 2 ^ f ≤ w) (sym is) (mul-le-mul_right (2 ^ f) (ceiling.least z (subst (λ w. x ≤ w) is l)))

pub ceiling_of : (x f : ℕ) → Fills x f → IsCeiling x f (div_ceil x (2 ^ f))
ceiling_of x f fills = record {
  reaches = le-div_ceil-mul x (2 ^ f) (pow_pos f);
  least = λ z l. div_ceil-le x (2 ^ f) z (pow_pos f) l;
  fills = fills;
}

-- a ceiling that is a mantissa
pub up_of_mantissa : (x f y : ℕ) → IsCeiling x f y → y < 2 ^ 32 → IsUp x y f
unfolding bound_value
up_of_mantissa x f y ceiling word =
    up_of_ceiling x f y y f ceiling (up_exact y f (record { word = word; full = by ceiling.fills }))
  where
    by : Fills x f → (f ≡ 0) ⊎ (2 ^ 31 ≤ y)
    by (inl none) = inl none
    by (inr large) = inr (le_of_mul-le-mul_right (le_trans large ceiling.reaches) (pow_pos f))

-- 2 ^ 32 steps are 2 ^ 31 steps of twice the size
pub bound_value-carry : (f y : ℕ) → y ≡ 2 ^ 32 → bound_value (2 ^ 31) (f + 1) ≡ y * 2 ^ f
unfolding bound_value
bound_value-carry f y carry = ap (λ k. 2 ^ 31 * 2 ^ k) (add-one f) ∙ doubled f ∙ ap (λ z. z * 2 ^ f) (sym carry)
  where
    doubled : (f : ℕ) → 2 ^ 31 * 2 ^ suc f ≡ 2 ^ 32 * 2 ^ f
    doubled f = omega arith

pub up_of_carry : (x f y : ℕ) → IsCeiling x f y → y ≡ 2 ^ 32 → IsUp x (2 ^ 31) (f + 1)
up_of_carry x f y ceiling carry =
    up_of_ceiling x f y (2 ^ 31) (f + 1) ceiling
    (subst (λ v. IsUp v (2 ^ 31) (f + 1)) (bound_value-carry f y carry) (up_exact (2 ^ 31) (f + 1) canonical))
  where
    canonical : IsCanonical (2 ^ 31) (f + 1)
    canonical = record { word = omega arith; full = inr (omega arith) }

-- ---- down to whole steps
-- y is the greatest number of steps of 2 ^ f within x
pub record IsFloor (x f y : ℕ) : Type 0 where
  pub within : y * 2 ^ f ≤ x
  pub greatest : (z : ℕ) → z * 2 ^ f ≤ x → z ≤ y
  pub fills : Fills x f

pub down_of_floor : (x f y m e : ℕ) → IsFloor x f y → IsDown (y * 2 ^ f) m e → IsDown x m e
down_of_floor x f y m e floor down = record {
  canonical = down.canonical;
  below = le_trans down.below floor.within;
  greatest = λ n g c l. down.greatest n g c
      (by (bound_value n g) (bound_value-multiple n g f c) floor.fills (cases_lt (bound_value n g) (2 ^ 31 * 2 ^ f)) l);
}
  where
    steps : (v : ℕ) → (z : ℕ) × (v ≡ z * 2 ^ f) → v ≤ x → v ≤ y * 2 ^ f
    steps v (z, is) l = subst (λ w. w ≤ y * 2 ^ f) (sym is) (mul-le-mul_right (2 ^ f) (floor.greatest z (subst (λ w. w ≤ x) is l)))

    by : (v : ℕ) → (Fills v f → (z : ℕ) × (v ≡ z * 2 ^ f)) → Fills x f →
        (v < 2 ^ 31 * 2 ^ f) ⊎ (2 ^ 31 * 2 ^ f ≤ v) → v ≤ x → v ≤ y * 2 ^ f
    by v multiple (inl none) order l = steps v (multiple (inl none)) l
    by v multiple (inr large) (inr high) l = steps v (multiple (inr high)) l
    by v multiple (inr large) (inl low) l = le_trans (omega arith) (mul-le-mul_right (2 ^ f) (floor.greatest (2 ^ 31) large))

pub floor_of : (x f : ℕ) → Fills x f → IsFloor x f (x / 2 ^ f)
floor_of x f fills = record {
  within = div-mul-le_self x (2 ^ f);
  greatest = λ z l. (le-div_iff_mul-le (pow_pos f)).1 l;
  fills = fills;
}

-- a floor that is a mantissa
pub down_of_mantissa : (x f y : ℕ) → IsFloor x f y → y < 2 ^ 32 → IsDown x y f
unfolding bound_value
down_of_mantissa x f y floor word =
    down_of_floor x f y y f floor (down_exact y f (record { word = word; full = by floor.fills }))
  where
    by : Fills x f → (f ≡ 0) ⊎ (2 ^ 31 ≤ y)
    by (inl none) = inl none
    by (inr large) = inr (floor.greatest (2 ^ 31) large)
