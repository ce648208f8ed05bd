-- The rows to work in are enough.
use Rattle.std.proofs.Common.{◌+◌, ◌*◌, ◌≤◌, arith, lit≤, length}
use Rattle.set_table.specs.declared.SetName.{SetName}
use Rattle.set_table.specs.declared.SetName.TheVariants.{One16, Toy16, S4096, S8192, S16384}
use Rattle.set_table.specs.Sets.{aux_of, data_of}
use Rattle.bfv_params.specs.Contexts.{scratch_rows_in}
use Rattle.bfv_params.specs.Values.{ContextValue}

-- the auxiliary base is at most one modulus shorter than the data moduli
data_by_aux : (set : SetName) → length (data_of set) ≤ length (aux_of set) + 1
data_by_aux One16 = lit≤ tt
data_by_aux Toy16 = lit≤ tt
data_by_aux S4096 = lit≤ tt
data_by_aux S8192 = lit≤ tt
data_by_aux S16384 = lit≤ tt

-- rows for the sums, for one digit of the part and for one of the key
pub enough_rows : (ctx : ContextValue) → 4 * (ctx.level + 1) + (ctx.level + 1 + 2 * (length (data_of ctx.set) + 1)) ≤ scratch_rows_in ctx
enough_rows ctx = let least = data_by_aux ctx.set in omega (arith, least)
