-- The moduli of words.
use Rattle.std.specs.Prelude.{ℕ, ◌≡◌, ◌≤◌, ◌<◌, ◌*◌, ◌/◌, ◌%◌, ◌^◌}

-- an odd number from 3 to below 2^61, so that four times a residue is still a word
pub record IsModulus (q : ℕ) : Type 0 where
  pub from_three : 3 ≤ q
  pub odd : q % 2 ≡ 1
  pub below : q < 2 ^ 61

-- the quotient of w by q in 64 binary places, rounded down (Shoup's factor)
abbrev pub shoup_of : ℕ → ℕ → ℕ
shoup_of q w = w * 2 ^ 64 / q
