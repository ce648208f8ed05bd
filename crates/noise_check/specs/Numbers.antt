-- Lists of bounds.
use Rattle.std.specs.Prelude.{ℕ, ◌-◌, ◌/◌, List, map, All}
use Rattle.bound_num.specs.declared.Bound.{Bound}
use Rattle.bound_num.specs.Bound.{bound_value, IsCanonical, bit_length, spacing}

-- the numbers that bounds stand for
abbrev pub numbers : List Bound → List ℕ
numbers bounds = map (λ bound. bound_value bound.m bound.e) bounds

abbrev pub AllCanonical : List Bound → Type 0
AllCanonical bounds = All (λ bound. IsCanonical bound.m bound.e) bounds

-- the canonical bound that stands for a number, where there is one: its leading 32 binary digits, and how many follow
abbrev pub bound_of : ℕ → Bound
bound_of x = record { m = x / spacing x; e = bit_length x - 32 }
