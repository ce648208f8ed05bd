use Rattle.std.proofs.Common.{◌≡◌, length}
use Rattle.ring_law.specs.Polynomials.{ring_sum}
use Rattle.bfv_linear.specs.Signs.{signed}
use Rattle.bfv_linear.proofs.Operands.{IsOperand}
use Rattle.bfv_linear.proofs.Results.{Combines}
use Rattle.bfv_linear.proofs.Written.{WrittenTo}
use Rattle.bfv_linear.proofs.sums.add_signed.Given as goal

abbrev pub invariant-loop-i : goal.invariant-loop-i
invariant-loop-i g l = record {
  operand : IsOperand g.row.N l.ctx l.moduli l.a;
  second : IsOperand g.row.N l.ctx l.moduli l.b;
  over : IsOperand g.row.N l.ctx l.moduli l.initial.out;
  one : length l.row ≡ 1;
  written : WrittenTo l.initial.out (Combines g.row.N l.moduli l.level (λ x y. ring_sum x (signed l.sign y)) l.a.rows l.b.rows) l.i l.out;
}
