-- The limits of the sets against their moduli.
use Rattle.std.proofs.Common.{ℕ, suc, ◌*◌, ◌<◌, ◌≤◌, arith, lit<}
use Rattle.set_table.specs.declared.SetName.{SetName}
use Rattle.set_table.specs.declared.SetName.TheVariants.{One16, Toy16, S4096, S8192, S16384}
use Rattle.set_table.specs.Sets.{data_of}
use Rattle.ring_law.specs.Moduli.{product}
use Rattle.bound_num.specs.Bound.{digits_within, bit_length, spacing, down}
use Rattle.bfv_model.specs.Limit.{limit}

product-lt_limit : (set : SetName) → 65537 * product (data_of set) < 524288 * suc (limit (data_of set))
unfolding product limit down spacing bit_length digits_within
product-lt_limit One16 = lit< tt
product-lt_limit Toy16 = lit< tt
product-lt_limit S4096 = lit< tt
product-lt_limit S8192 = lit< tt
product-lt_limit S16384 = lit< tt

-- a bound above the limit that is near b
pub product-lt_above : (set : SetName) (b r : ℕ) → limit (data_of set) < r → 65536 * r ≤ 65537 * b → product (data_of set) < 8 * b
product-lt_above set b r above near = by (product (data_of set)) (limit (data_of set)) (product-lt_limit set) above
  where
    by : (q l : ℕ) → 65537 * q < 524288 * suc l → l < r → q < 8 * b
    by q l few above = omega arith
