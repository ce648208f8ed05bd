-- The limits of the sets.
use Rattle.std.proofs.Common.{ℕ, ◌-◌, ◌*◌, ◌/◌, ◌^◌, ◌<◌, ◌≤◌, List, [], ◌∷◌, arith, lit<}
use Rattle.std.proofs.Math.Nat.{mul-le-mul_left}
use Rattle.std.specs.Prelude.{fold}
use Rattle.std.proofs.lemmas.Nat.{pow_pos}
use Rattle.set_table.specs.declared.SetName.{SetName}
use Rattle.set_table.specs.declared.SetName.TheVariants.{One16, Toy16, S4096, S8192, S16384}
use Rattle.set_table.specs.Sets.{data_of}
use Rattle.ring_law.specs.Moduli.{product}
use Rattle.bound_num.specs.Bound.{digits_within, bit_length, spacing, down}
use Rattle.bfv_model.specs.Limit.{limit}

-- no limit has more than 400 binary digits
pub limit_lt : (set : SetName) → limit (data_of set) < 2 ^ 400
unfolding limit down spacing bit_length digits_within
limit_lt One16 = lit< tt
limit_lt Toy16 = lit< tt
limit_lt S4096 = lit< tt
limit_lt S8192 = lit< tt
limit_lt S16384 = lit< tt

down_le : (x : ℕ) → down x ≤ x
unfolding down spacing
down_le x = let positive = pow_pos (bit_length x - 32) in omega arith

-- a product that is rounded down at each step
rounded_product_le : (a b : ℕ) (moduli : List ℕ) → a ≤ b → fold (λ product modulus. down (product * modulus)) a moduli ≤ b * product moduli
unfolding product
rounded_product_le a b [] within = omega arith
rounded_product_le a b (q ∷ qs) within =
    let scaled : q * a ≤ q * b = mul-le-mul_left q within in
    let rounded = down_le (a * q) in
    let others = rounded_product_le (down (a * q)) (b * q) qs (omega arith) in
    omega arith

-- a limit is at most a quarter of q
pub limit_le : (moduli : List ℕ) → 4 * limit moduli ≤ product moduli
unfolding limit product
limit_le [] = omega arith
limit_le (q ∷ qs) =
    let all = fold (λ product modulus. down (product * modulus)) (down q) qs in
    let rounded = down_le (all / 4) in
    let whole : all ≤ q * product qs = rounded_product_le (down q) q qs (down_le q) in
    omega arith
