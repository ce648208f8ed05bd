use Rattle.std.proofs.Common.{◌≡◌, ℕ, ◌+◌, ◌<◌, [], Some, get_or}
use Rattle.std.specs.Prelude.{slice_get}
use Rattle.neg_ntt.specs.Parameters.{Parameters}
use Rattle.bfv_tensor.specs.Rows.{AreProductRows, product_transforms}
use Rattle.bfv_tensor.proofs.row_products.multiply_rows.Given as goal

abbrev pub invariant-loop-i : goal.invariant-loop-i
invariant-loop-i g l = (i : ℕ) → i < l.i → (t : Parameters) → slice_get (product_transforms l.ctx) i ≡ Some t
    → AreProductRows g.row.N t (get_or l.a.rows.now i []) (get_or l.a.rows.now (l.count + i) []) (get_or l.b.rows.now i []) (get_or l.b.rows.now (l.count + i) [])
    (get_or l.first i []) (get_or l.middle i []) (get_or l.last i [])
