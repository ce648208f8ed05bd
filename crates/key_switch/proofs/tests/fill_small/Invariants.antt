use Rattle.std.proofs.Common.{◌≡◌, length}
use Rattle.ring_law.specs.Polynomials.{AllWithin}
use Rattle.ring_law.specs.Rows.{listed_polynomial}
use Rattle.key_switch.proofs.tests.fill_small.Given as goal

abbrev pub invariant-loop-k : goal.invariant-loop-k
invariant-loop-k g l = record { count : length l.small ≡ g.row.N; within : AllWithin l.k 1 (listed_polynomial l.small) }
