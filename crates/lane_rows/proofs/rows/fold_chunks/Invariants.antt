use Rattle.std.proofs.Common.{◌*◌, ◌%◌}
use Rattle.lane_rows.proofs.Stores.{MappedTo}
use Rattle.lane_rows.proofs.rows.fold_chunks.Given as goal

abbrev pub invariant-loop-k : goal.invariant-loop-k
invariant-loop-k l = MappedTo (λ x. x % l.q) l.initial.a l.a (4 * l.k)
