-- The bound that a fresh cipher states fits its set.
use Rattle.std.proofs.Common.{◌≡◌, ℕ, ◌≤◌, lit≤, sym, subst}
use Rattle.std.specs.Prelude.{true}
use Rattle.set_table.specs.declared.SetName.{SetName}
use Rattle.set_table.specs.declared.SetName.TheVariants.{One16, Toy16, S4096, S8192, S16384}
use Rattle.set_table.specs.Sets.{degree_of, plain_of, data_of}
use Rattle.bound_num.specs.Bound.{IsUp, up, down, spacing, bit_length, digits_within}
use Rattle.bound_num.proofs.Closed.{up_value}
use Rattle.file_model.specs.declared.file_kind.FileKind.TheVariants.{Cipher}
use Rattle.bfv_model.specs.Drawn.{greatest_error}
use Rattle.file_model.specs.FileText.{bound_fits}
use Rattle.bfv_model.specs.Limit.{limit}
use Rattle.bfv_model.specs.NoiseBounds.{fresh_bound}
use Rattle.file_model.proofs.DrawnFiles.{bound_fits-from_canonical}

-- the rounded bound of a fresh cipher is at most the limit of its set
fresh_within : (set : SetName) → up (fresh_bound (degree_of set) (plain_of set) greatest_error) ≤ limit (data_of set)
unfolding up limit down spacing bit_length digits_within
fresh_within One16 = lit≤ tt
fresh_within Toy16 = lit≤ tt
fresh_within S4096 = lit≤ tt
fresh_within S8192 = lit≤ tt
fresh_within S16384 = lit≤ tt

pub fresh_bound_fits : (set : SetName) (mantissa exponent : ℕ) → IsUp (fresh_bound (degree_of set) (plain_of set) greatest_error) mantissa exponent
    → bound_fits Cipher set mantissa exponent ≡ true
fresh_bound_fits set mantissa exponent rounded =
    let value = up_value (fresh_bound (degree_of set) (plain_of set) greatest_error) mantissa exponent rounded in
    bound_fits-from_canonical set mantissa exponent rounded.canonical (subst (λ (v : ℕ). v ≤ limit (data_of set)) (sym value) (fresh_within set))
