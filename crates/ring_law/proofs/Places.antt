-- The test whether two places are one.
use Rattle.std.proofs.Common.{◌≡◌, ◌≢◌, ℕ, true, false, eqb, arith}

pub eqb_equal : (i j : ℕ) → i ≡ j → eqb i j ≡ true
eqb_equal i j e = grind arith

pub eqb_same : (i : ℕ) → eqb i i ≡ true
eqb_same i = grind arith

pub eqb_apart : (i j : ℕ) → i ≢ j → eqb i j ≡ false
eqb_apart i j d = grind arith
