-- The greatest bound on the noise of a cipher that a file may state.
use Rattle.std.specs.Prelude.{ℕ, ◌*◌, ◌/◌, List, [], ◌∷◌, fold}
use Rattle.bound_num.specs.Bound.{down}

-- a quarter of the product of the data moduli, rounded down at each step to a number that a bound can state
unfoldable pub limit : List ℕ → ℕ
limit [] = 0
limit (q ∷ qs) = down (fold (λ product modulus. down (product * modulus)) (down q) qs / 4)
