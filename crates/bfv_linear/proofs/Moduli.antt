-- The moduli of a set at a level.
use Rattle.std.proofs.Common.{ℕ, ◌*◌, ◌<◌, arith, lit<, slice_index}
use Rattle.set_table.specs.declared.SetName.{SetName}
use Rattle.set_table.specs.declared.SetName.TheVariants.{One16, Toy16, S4096, S8192, S16384}
use Rattle.set_table.specs.Sets.{data_of, plain_of}
use Rattle.ring_law.specs.Moduli.{AllAboveOne, product}
use Rattle.ring_law.proofs.Moduli.{AllAboveOne-take, product_positive}
use Rattle.word_mod.specs.Moduli.{IsModulus}
use Rattle.res_base.specs.Bases.{IsBase}
use Rattle.res_base.proofs.Sizes.{IsBase-data_of}
use Rattle.bfv_model.proofs.Noise.{mul_positive}
use Rattle.bfv_params.specs.Moduli.{data_at}

pub data_above_one : (set : SetName) (level : ℕ) → AllAboveOne (data_at set level)
data_above_one set level = AllAboveOne-take level (data_of set) (λ i within.
    let base : IsBase (data_of set) = IsBase-data_of set in
    let modulus : IsModulus (slice_index (data_of set) i) = base.each i 0 within in omega (arith, modulus.from_three))

pub data_positive : (set : SetName) (level : ℕ) → 0 < product (data_at set level)
data_positive set level = product_positive (data_at set level) (data_above_one set level)

pub plain_positive : (set : SetName) → 0 < plain_of set
plain_positive One16 = lit< tt
plain_positive Toy16 = lit< tt
plain_positive S4096 = lit< tt
plain_positive S8192 = lit< tt
plain_positive S16384 = lit< tt

pub both_positive : (set : SetName) (level : ℕ) → 0 < plain_of set * product (data_at set level)
both_positive set level = mul_positive (plain_of set) (product (data_at set level)) (plain_positive set) (data_positive set level)
