use Rattle.std.proofs.Common.{length, ◌≡◌, ◌*◌, ◌*ℤ◌}
use Rattle.ring_law.proofs.plain.turn_plain.Given as goal
use Rattle.ring_law.specs.Sums.{sum_below}
use Rattle.ring_law.specs.Polynomials.{power_coefficient}
use Rattle.ring_law.specs.Rows.{RowRepresents, row_polynomial}

abbrev pub invariant-loop-place : goal.invariant-loop-place
invariant-loop-place g l = record { words : length l.to ≡ g.row.N; done : RowRepresents g.row.N l.q l.to (λ k. sum_below l.place (λ i. row_polynomial l.from i *ℤ power_coefficient g.row.N (l.g * i) k)) }
