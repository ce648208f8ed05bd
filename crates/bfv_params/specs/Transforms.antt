-- The transforms of a set.
use Rattle.std.specs.Prelude.{ℕ, unwrap_or}
use Rattle.set_table.specs.declared.SetName.{SetName}
use Rattle.set_table.specs.Sets.{log_degree_of}
use Rattle.set_table.specs.Roots.{root_of}
use Rattle.neg_ntt.specs.Parameters.{Parameters}

-- the transform modulo q: it has the root that is listed for q
abbrev pub transform_of : SetName → ℕ → Parameters
transform_of set q = record { modulus = q; root = unwrap_or (root_of set q) 0; log_degree = log_degree_of set }
