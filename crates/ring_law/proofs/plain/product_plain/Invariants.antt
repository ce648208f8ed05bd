use Rattle.std.proofs.Common.{◌≡◌, length}
use Rattle.ring_law.proofs.plain.product_plain.Given as goal
use Rattle.ring_law.specs.Polynomials.{ring_product}
use Rattle.ring_law.specs.Rows.{RowRepresents, row_polynomial}

abbrev pub invariant-loop-k : goal.invariant-loop-k
invariant-loop-k g l = record { words : length l.out ≡ g.row.N; done : RowRepresents l.k l.q l.out (ring_product g.row.N (row_polynomial l.a) (row_polynomial l.b)) }
