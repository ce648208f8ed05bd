use Rattle.std.proofs.Common.{◌≡◌, length}
use Rattle.ring_law.specs.Rows.{IsReduced}
use Rattle.galois_turn.proofs.tests.fill.Given as goal

abbrev pub invariant-loop-k : goal.invariant-loop-k
invariant-loop-k g l = record { words : length l.row ≡ g.row.N; reduced : IsReduced l.k l.m l.row }
