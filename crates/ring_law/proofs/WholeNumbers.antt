-- The laws of the ring of whole numbers that the library does not have, and the sizes of sums and products.
use Rattle.std.proofs.Common.{◌≡◌, ℕ, ◌+◌, ◌*◌, sym, ap, arith, ◌≤◌, subst, ℤ, pos, neg_ℤ, ◌+ℤ◌, ◌-ℤ◌, ◌*ℤ◌, nat_abs, mul-le-mul}
use Rattle.std.proofs.Math.IntN.{ℤ, pos, neg_ℤ, ◌+ℤ◌, ◌-ℤ◌, ◌*ℤ◌}
use borrow.Author.Differences.{up, down, sum_is_lem, product_is, neg_is}
use Rattle.std.proofs.lemmas.Int.{ints, unsigned_abs-mul}

-- products distribute over sums
pub int_add_mul : (a b c : ℤ) → (a +ℤ b) *ℤ c ≡ a *ℤ c +ℤ b *ℤ c
int_add_mul a b c =
    let p = ap (λ x. x * up c) (sum_is_lem a b) in
    let q = ap (λ x. x * down c) (sum_is_lem a b) in
    omega (arith, ints)

pub int_mul_add : (a b c : ℤ) → a *ℤ (b +ℤ c) ≡ a *ℤ b +ℤ a *ℤ c
int_mul_add a b c =
    let p = ap (λ x. x * up a) (sum_is_lem b c) in
    let q = ap (λ x. x * down a) (sum_is_lem b c) in
    omega (arith, ints)

-- products associate
pub int_mul_assoc : (a b c : ℤ) → (a *ℤ b) *ℤ c ≡ a *ℤ (b *ℤ c)
int_mul_assoc a b c =
    let p = ap (λ x. x * up c) (product_is a b).0 in
    let q = ap (λ x. x * down c) (product_is a b).0 in
    let r = ap (λ x. x * up c) (product_is a b).1 in
    let s = ap (λ x. x * down c) (product_is a b).1 in
    let p' = ap (λ x. x * up a) (product_is b c).0 in
    let q' = ap (λ x. x * down a) (product_is b c).0 in
    let r' = ap (λ x. x * up a) (product_is b c).1 in
    let s' = ap (λ x. x * down a) (product_is b c).1 in
    omega (arith, ints)

-- signs of products
pub int_neg_mul : (a b : ℤ) → neg_ℤ a *ℤ b ≡ neg_ℤ (a *ℤ b)
int_neg_mul a b =
    let p = ap (λ x. x * up b) (neg_is a).0 in
    let q = ap (λ x. x * down b) (neg_is a).0 in
    let r = ap (λ x. x * up b) (neg_is a).1 in
    let s = ap (λ x. x * down b) (neg_is a).1 in
    omega (arith, ints)

pub int_mul_neg : (a b : ℤ) → a *ℤ neg_ℤ b ≡ neg_ℤ (a *ℤ b)
int_mul_neg a b =
    let p = ap (λ x. x * up a) (neg_is b).0 in
    let q = ap (λ x. x * down a) (neg_is b).0 in
    let r = ap (λ x. x * up a) (neg_is b).1 in
    let s = ap (λ x. x * down a) (neg_is b).1 in
    omega (arith, ints)

-- products with 1 and 0
pub int_mul_one : (a : ℤ) → a *ℤ pos 1 ≡ a
int_mul_one a = omega (arith, ints)

pub int_one_mul : (a : ℤ) → pos 1 *ℤ a ≡ a
int_one_mul a = omega (arith, ints)

pub int_zero_mul : (a : ℤ) → pos 0 *ℤ a ≡ pos 0
int_zero_mul a = omega (arith, ints)

-- numbers whose difference is 0 are equal
pub int_equal_from_sub : (a b : ℤ) → a -ℤ b ≡ pos 0 → a ≡ b
int_equal_from_sub a b e = omega (arith, ints)

-- the absolute value
pub int_abs_add : (a b : ℤ) → nat_abs (a +ℤ b) ≤ nat_abs a + nat_abs b
int_abs_add a b = omega (arith, ints)

pub int_abs_mul_le : (x y : ℤ) (m n : ℕ) → nat_abs x ≤ m → nat_abs y ≤ n → nat_abs (x *ℤ y) ≤ m * n
int_abs_mul_le x y m n h k = subst (λ z. z ≤ m * n) (sym (unsigned_abs-mul x y)) (mul-le-mul h k)
