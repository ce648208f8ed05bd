-- Sums of whole numbers, and the list of a function's first values.
use Rattle.std.specs.Prelude.{ℕ, zero, suc, ℤ, pos, ◌+ℤ◌, List, map}
use Rattle.std.specs.List.{range_with_len}

-- f 0 + f 1 + .. + f (n - 1)
unfoldable pub sum_below : ℕ → (ℕ → ℤ) → ℤ
sum_below zero f = pos 0
sum_below (suc n) f = sum_below n f +ℤ f n

-- the list of f 0, f 1, .., f (n - 1)
abbrev pub values_below : {A : Type 0} → ℕ → (ℕ → A) → List A
values_below n f = map f (range_with_len 0 n)
