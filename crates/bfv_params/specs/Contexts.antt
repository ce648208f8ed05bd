-- What a context has at its level.
use Rattle.std.specs.Prelude.{ℕ, ◌+◌, ◌*◌, List, length, map}
use Rattle.set_table.specs.Sets.{aux_of}
use Rattle.ring_law.specs.Moduli.{product}
use Rattle.neg_ntt.specs.Parameters.{Parameters}
use Rattle.bfv_params.specs.Moduli.{data_at}
use Rattle.bfv_params.specs.Transforms.{transform_of}
use Rattle.bfv_params.specs.Values.{ContextValue}

-- its data moduli
abbrev pub data_in : ContextValue → List ℕ
data_in ctx = data_at ctx.set ctx.level

-- the transforms modulo each of them
abbrev pub transforms_in : ContextValue → List Parameters
transforms_in ctx = map (transform_of ctx.set) (data_in ctx)

-- their product, the ciphertext modulus q
abbrev pub modulus_in : ContextValue → ℕ
modulus_in ctx = product (data_in ctx)

-- the number of rows that each call of the scheme finds enough to work in
abbrev pub scratch_rows_in : ContextValue → ℕ
scratch_rows_in ctx = 8 * (ctx.level + length (aux_of ctx.set) + 2)
