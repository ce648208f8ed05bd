use Rattle.std.proofs.Common.{◌%◌}
use Rattle.lane_rows.proofs.Stores.{MappedTo}
use Rattle.lane_rows.proofs.rows.fold_row.Given as goal

abbrev pub invariant-loop-i : goal.invariant-loop-i
invariant-loop-i l = MappedTo (λ x. x % l.q) l.fn.a l.a l.i
