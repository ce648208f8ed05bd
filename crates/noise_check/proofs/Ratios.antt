-- How far a rounded number can be above the exact one after several roundings.
use Rattle.std.proofs.Common.{◌≡◌, ℕ, zero, suc, ◌+◌, ◌-◌, ◌*◌, ◌^◌, ◌<◌, ◌≤◌, refl, sym, subst, arith, mul-le-mul_left, mul-le-mul_right, le_trans, le_of_mul-le-mul_right, pow-suc}
use Rattle.std.proofs.Math.Nat.{pow-le-pow_left}
use Rattle.std.proofs.lemmas.Bool.{leb-true}
use Rattle.bound_num.specs.Bound.{up}
use Rattle.bound_num.proofs.Closed.{le-up, up-near}

-- b ≤ r, and r / b ≤ u / p
pub record Ratio (p u b r : ℕ) : Type 0 where
  pub least : b ≤ r
  pub most : r * p ≤ b * u

-- ---- under any ratio
ratio_sum : (p u b r c s : ℕ) → Ratio p u b r → Ratio p u c s → Ratio p u (b + c) (r + s)
ratio_sum p u b r c s first second = record {
  least = let l = first.least in let k = second.least in omega arith;
  most = let l = first.most in let k = second.most in omega arith;
}

ratio_multiple : (p u b r k : ℕ) → Ratio p u b r → Ratio p u (k * b) (r * k)
ratio_multiple p u b r k is = record {
  least = let l : k * b ≤ k * r = mul-le-mul_left k is.least in omega arith;
  most = let l : r * p * k ≤ b * u * k = mul-le-mul_right k is.most in omega arith;
}

-- a number that is itself at most one part in 2 ^ 31 above r
ratio_near : (p u b r x : ℕ) → r ≤ x → 2 ^ 31 * x ≤ (2 ^ 31 + 1) * r → Ratio p u b r → Ratio (p * 2 ^ 31) (u * (2 ^ 31 + 1)) b x
ratio_near p u b r x above near is = record {
  least = le_trans is.least above;
  most =
      let rounded : (2 ^ 31 * x) * p ≤ ((2 ^ 31 + 1) * r) * p = mul-le-mul_right p near in
      let scaled : (2 ^ 31 + 1) * (r * p) ≤ (2 ^ 31 + 1) * (b * u) = mul-le-mul_left (2 ^ 31 + 1) is.most in
      omega arith;
}

-- ---- the ratio of so many roundings
pub Near : ℕ → ℕ → ℕ → Type 0
Near count b r = Ratio ((2 ^ 31) ^ count) ((2 ^ 31 + 1) ^ count) b r

pub near_least : (count b r : ℕ) → Near count b r → b ≤ r
unfolding Near
near_least count b r is = is.least

pub near_exact : (count c : ℕ) → Near count c c
unfolding Near
near_exact count c = record { least = omega arith; most = mul-le-mul_left c (pow-le-pow_left (omega arith) count) }

-- one rounding
near_counted : (count b r x : ℕ) → r ≤ x → 2 ^ 31 * x ≤ (2 ^ 31 + 1) * r → Near count b r → Near (suc count) b x
unfolding Near
near_counted count b r x above near is =
    subst (λ p. Ratio p ((2 ^ 31 + 1) ^ suc count) b x) (sym (pow-suc (2 ^ 31) count))
    (subst (λ u. Ratio ((2 ^ 31) ^ count * 2 ^ 31) u b x) (sym (pow-suc (2 ^ 31 + 1) count))
    (ratio_near ((2 ^ 31) ^ count) ((2 ^ 31 + 1) ^ count) b r x above near is))

near_up : (count b r : ℕ) → Near count b r → Near (suc count) b (up r)
near_up count b r is = near_counted count b r (up r) (le-up r) (up-near r) is

near_more : (count b r : ℕ) → Near count b r → Near (suc count) b r
near_more count b r is = near_counted count b r r (omega arith) (omega arith) is

-- rounding both terms of a sum counts once
near_terms : (count b x y : ℕ) → Near count b (x + y) → Near (suc count) b (up x + up y)
near_terms count b x y is =
    let left = le-up x in
    let right = le-up y in
    let left_near = up-near x in
    let right_near = up-near y in
    near_counted count b (x + y) (up x + up y) (omega arith) (omega arith) is

near_sum : (count b r c s : ℕ) → Near count b r → Near count c s → Near count (b + c) (r + s)
unfolding Near
near_sum count b r c s first second = ratio_sum ((2 ^ 31) ^ count) ((2 ^ 31 + 1) ^ count) b r c s first second

near_multiple : (count b r k : ℕ) → Near count b r → Near count (k * b) (r * k)
unfolding Near
near_multiple count b r k is = ratio_multiple ((2 ^ 31) ^ count) ((2 ^ 31 + 1) ^ count) b r k is

-- ---- what operations do, each with at most three roundings
pub near_kept : (count b r : ℕ) → Near count b r → Near (suc (suc (suc count))) b r
near_kept count b r is = near_more (suc (suc count)) b r (near_more (suc count) b r (near_more count b r is))

near_once : (count b r : ℕ) → Near count b r → Near (suc (suc (suc count))) b (up r)
near_once count b r is = near_up (suc (suc count)) b r (near_more (suc count) b r (near_more count b r is))

pub near_added : (count b r c s : ℕ) → Near count b r → Near count c s → Near (suc (suc (suc count))) (b + c) (up (r + s))
near_added count b r c s first second = near_once count (b + c) (r + s) (near_sum count b r c s first second)

pub near_raised : (count b r c : ℕ) → Near count b r → Near (suc (suc (suc count))) (b + c) (up (r + c))
near_raised count b r c is = near_added count b r c c is (near_exact count c)

pub near_scaled : (count b r k : ℕ) → Near count b r → Near (suc (suc (suc count))) (k * b) (up (r * k))
near_scaled count b r k is = near_once count (k * b) (r * k) (near_multiple count b r k is)

pub near_switched : (count b r c : ℕ) → Near count b r → Near (suc (suc (suc count))) (b + c) (up (r + up c))
near_switched count b r c is =
    near_more (suc (suc count)) (b + c) (up (r + up c))
    (near_up (suc count) (b + c) (r + up c)
    (near_sum (suc count) b r c (up c) (near_more count b r is) (near_up count c c (near_exact count c))))

pub near_product : (count b r c s factor rest : ℕ) → Near count b r → Near count c s →
    Near (suc (suc (suc count))) (factor * (b + c) + rest) (up (up (up (r + s) * factor) + up rest))
near_product count b r c s factor rest first second =
    let sum = near_up count (b + c) (r + s) (near_sum count b r c s first second) in
    let scaled = near_multiple (suc count) (b + c) (up (r + s)) factor sum in
    let whole = near_sum (suc count) (factor * (b + c)) (up (r + s) * factor) rest rest scaled (near_exact (suc count) rest) in
    near_up (suc (suc count)) (factor * (b + c) + rest) (up (up (r + s) * factor) + up rest)
    (near_terms (suc count) (factor * (b + c) + rest) (up (r + s) * factor) rest whole)

-- ---- three roundings for each of 4096 steps
near_for_more : (more count b r : ℕ) → Near count b r → Near (more + count) b r
near_for_more zero count b r is = subst (λ total. Near total b r) (none count) is
  where
    none : (count : ℕ) → count ≡ 0 + count
    none count = omega arith
near_for_more (suc more) count b r is =
    subst (λ total. Near total b r) (next more count) (near_more (more + count) b r (near_for_more more count b r is))
  where
    next : (more count : ℕ) → suc (more + count) ≡ suc more + count
    next more count = omega arith

within : (p u b r : ℕ) → 0 < p → r * p ≤ b * u → 65536 * u ≤ 65537 * p → 65536 * r ≤ 65537 * b
within p u b r positive most few =
    le_of_mul-le-mul_right {k = p} (
    let scaled : 65536 * (r * p) ≤ 65536 * (b * u) = mul-le-mul_left 65536 most in
    let counted : b * (65536 * u) ≤ b * (65537 * p) = mul-le-mul_left b few in
    omega arith) positive

all_roundings : 65536 * (2 ^ 31 + 1) ^ 12288 ≤ 65537 * (2 ^ 31) ^ 12288
all_roundings = leb-true (65536 * (2 ^ 31 + 1) ^ 12288) (65537 * (2 ^ 31) ^ 12288) refl

pub near_within : (count b r : ℕ) → count ≤ 12288 → Near count b r → 65536 * r ≤ 65537 * b
unfolding Near
near_within count b r few is =
    within ((2 ^ 31) ^ 12288) ((2 ^ 31 + 1) ^ 12288) b r positive (all count few is).most all_roundings
  where
    all : (count : ℕ) → count ≤ 12288 → Near count b r → Near 12288 b r
    all count few is = subst (λ total. Near total b r) (filled count few) (near_for_more (12288 - count) count b r is)
      where
        filled : (count : ℕ) → count ≤ 12288 → 12288 - count + count ≡ 12288
        filled count few = omega arith

    positive : 0 < (2 ^ 31) ^ 12288
    positive = leb-true 1 ((2 ^ 31) ^ 12288) refl
