use Rattle.std.proofs.Common.{◌≡◌, length}
use Rattle.ring_law.specs.Rows.{IsReduced}
use Rattle.behz_decrypt.proofs.tests.reduce_row.Given as goal

abbrev pub invariant-loop-k : goal.invariant-loop-k
invariant-loop-k g l = record { count : length l.residues ≡ g.row.N; below : IsReduced l.k l.m l.residues }
