use Rattle.std.proofs.Common.{ℕ, ℤ, ◌<◌, [], get_or}
use Rattle.std.specs.List.{SameFrom}
use Rattle.ring_law.specs.Polynomials.{ring_turn}
use Rattle.ring_law.specs.Rows.{IsReduced, RowRepresents}
use Rattle.key_switch.proofs.sources.turn_each.Given as goal

abbrev pub invariant-loop-i : goal.invariant-loop-i
invariant-loop-i g l = record {
  turned : (j : ℕ) → j < l.i → (x : ℕ → ℤ) → RowRepresents g.row.N (get_or l.moduli j 0) (get_or l.initial.rows j []) x
      → RowRepresents g.row.N (get_or l.moduli j 0) (get_or l.rows j []) (ring_turn g.row.N l.g x);
  reduced : (j : ℕ) → j < l.i → IsReduced g.row.N (get_or l.moduli j 0) (get_or l.rows j []);
  rest : SameFrom l.initial.rows l.rows l.i;
}
