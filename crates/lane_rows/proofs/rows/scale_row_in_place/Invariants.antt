use Rattle.std.proofs.Common.{◌+◌, ◌*◌, ◌%◌}
use Rattle.lane_rows.proofs.Stores.{MappedTo}
use Rattle.lane_rows.proofs.rows.scale_row_in_place.Given as goal

abbrev pub invariant-chunks : goal.invariant-chunks
invariant-chunks l = MappedTo (λ x. (l.w * x) % l.q) l.fn.a l.a (4 * l.k)

abbrev pub invariant-places : goal.invariant-places
invariant-places l = MappedTo (λ x. (l.w * x) % l.q) l.fn.a l.a (4 * l.k + l.r)

abbrev pub invariant-rest : goal.invariant-rest
invariant-rest l = MappedTo (λ x. (l.w * x) % l.q) l.fn.a l.a l.i
