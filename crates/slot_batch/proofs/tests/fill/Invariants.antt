use Rattle.std.proofs.Common.{◌≡◌, length}
use Rattle.ring_law.specs.Rows.{IsReduced}
use Rattle.slot_batch.proofs.tests.fill.Given as goal

abbrev pub invariant-loop-i : goal.invariant-loop-i
invariant-loop-i g l = record { len : length l.row ≡ g.row.N; below : IsReduced l.i l.t l.row }
