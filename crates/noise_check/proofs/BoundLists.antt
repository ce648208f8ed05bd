-- Lists of bounds and the numbers that they stand for.
use Rattle.std.proofs.Common.{◌≡◌, ℕ, zero, suc, ◌-◌, ◌/◌, ◌^◌, ◌<◌, refl, subst, ap, ap₂, arith, List, [], ◌∷◌, ◌++◌, length, map, get_or, replicate}
use Rattle.std.proofs.lemmas.List.{get_or-map, length-map, map-append}
use Rattle.bound_num.specs.declared.Bound.{Bound}
use Rattle.bound_num.specs.Bound.{bound_value, IsCanonical, IsDown, bit_length, spacing}
use Rattle.bound_num.proofs.Grid.{down_unique}
use Rattle.bound_num.proofs.Rounding.{down_exact, down_of_mantissa, floor_of}
use Rattle.bound_num.proofs.Digits.{Leads, bit_length-leads}
use Rattle.bound_num.proofs.Closed.{div-lt_leads}
use Rattle.noise_check.specs.Numbers.{numbers, bound_of, AllCanonical}

abbrev pub zero_bound : Bound
zero_bound = record { m = 0; e = 0 }

pub length-numbers : (bounds : List Bound) → length (numbers bounds) ≡ length bounds
length-numbers bounds = length-map bounds (λ bound. bound_value bound.m bound.e)

pub numbers_at : (bounds : List Bound) (i : ℕ) → i < length bounds →
    get_or (numbers bounds) i 0 ≡ bound_value (get_or bounds i zero_bound).m (get_or bounds i zero_bound).e
numbers_at bounds i within = get_or-map (λ bound. bound_value bound.m bound.e) bounds i zero_bound 0 within

pub numbers_push : (bounds : List Bound) (bound : Bound) → numbers (bounds ++ bound ∷ []) ≡ numbers bounds ++ bound_value bound.m bound.e ∷ []
numbers_push bounds bound = map-append (λ bound. bound_value bound.m bound.e) bounds (bound ∷ [])

-- a canonical bound is told by its number
pub bound_of-value : (bound : Bound) → IsCanonical bound.m bound.e → bound_of (bound_value bound.m bound.e) ≡ bound
unfolding spacing
bound_of-value bound canonical = by (bound_value bound.m bound.e) refl
  where
    by : (x : ℕ) → bound_value bound.m bound.e ≡ x → bound_of x ≡ bound
    by x is = ap₂ (λ m e. let made : Bound = record { m = m; e = e } in made) same.0 same.1
      where
        leads : Leads x (bit_length x - 32)
        leads = bit_length-leads x (bit_length x - 32) refl

        same : (x / 2 ^ (bit_length x - 32) ≡ bound.m) × (bit_length x - 32 ≡ bound.e)
        same = down_unique x (x / 2 ^ (bit_length x - 32)) (bit_length x - 32) bound.m bound.e
            (down_of_mantissa x (bit_length x - 32) (x / 2 ^ (bit_length x - 32)) (floor_of x (bit_length x - 32) leads.fills) (div-lt_leads x (bit_length x - 32) leads))
            (subst (λ y. IsDown y bound.m bound.e) is (down_exact bound.m bound.e canonical))

pub map-bound_of : (bounds : List Bound) → AllCanonical bounds → map bound_of (numbers bounds) ≡ bounds
map-bound_of [] all = refl
map-bound_of (bound ∷ bounds) all = ap₂ ◌∷◌ (bound_of-value bound (all 0 zero_bound (omega arith))) (map-bound_of bounds (λ i d below. all (suc i) d (omega arith)))

pub numbers-replicate : (n : ℕ) (bound : Bound) → numbers (replicate n bound) ≡ replicate n (bound_value bound.m bound.e)
numbers-replicate zero bound = refl
numbers-replicate (suc n) bound = ap (λ list. bound_value bound.m bound.e ∷ list) (numbers-replicate n bound)
