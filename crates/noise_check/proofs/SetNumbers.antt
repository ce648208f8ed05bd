-- The numbers of the sets that bounds are made of.
use Rattle.std.proofs.Common.{◌≡◌, ℕ, ◌+◌, ◌*◌, ◌/◌, ◌^◌, ◌<◌, ◌≤◌, refl, ap, arith, List, [], ◌∷◌, length, slice_index, drop, sum, lit<}
use Rattle.std.specs.Prelude.{fold}
use Rattle.std.proofs.lemmas.List.{drop_more}
use Rattle.set_table.specs.declared.SetName.{SetName}
use Rattle.set_table.specs.declared.SetName.TheVariants.{One16, Toy16, S4096, S8192, S16384}
use Rattle.set_table.specs.Sets.{data_of}
use Rattle.bound_num.specs.Bound.{down}
use Rattle.bfv_model.specs.Limit.{limit}

-- one more element of a list of numbers
pub fold-drop : (f : ℕ → ℕ → ℕ) (start : ℕ) (xs : List ℕ) (i : ℕ) → i < length xs →
    fold f start (drop i xs) ≡ fold f (f start (slice_index xs i)) (drop (i + 1) xs)
fold-drop f start xs i within = ap (fold f start) (drop_more xs i 0 within)

pub sum_from-ge : (start : ℕ) (xs : List ℕ) → start ≤ fold ◌+◌ start xs
sum_from-ge start [] = omega arith
sum_from-ge start (x ∷ xs) = let rest = sum_from-ge (start + x) xs in omega arith

pub data_sum_lt : (set : SetName) → sum (data_of set) < 2 ^ 64
data_sum_lt One16 = lit< tt
data_sum_lt Toy16 = lit< tt
data_sum_lt S4096 = lit< tt
data_sum_lt S8192 = lit< tt
data_sum_lt S16384 = lit< tt

-- the product of moduli, rounded down at each step
abbrev pub rounded_product : ℕ → List ℕ → ℕ
rounded_product start moduli = fold (λ product modulus. down (product * modulus)) start moduli

pub limit-rounded_product : (xs : List ℕ) → 0 < length xs → limit xs ≡ down (rounded_product (down (slice_index xs 0)) (drop 1 xs) / 4)
unfolding limit
limit-rounded_product [] some = absurd (omega arith)
limit-rounded_product (q ∷ qs) some = refl
