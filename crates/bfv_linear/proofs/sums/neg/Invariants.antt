use Rattle.std.proofs.Common.{◌≡◌, length}
use Rattle.ring_law.specs.Polynomials.{ring_negative}
use Rattle.bfv_linear.proofs.Operands.{IsOperand}
use Rattle.bfv_linear.proofs.Results.{Becomes}
use Rattle.bfv_linear.proofs.Written.{WrittenTo}
use Rattle.bfv_linear.proofs.sums.neg.Given as goal

abbrev pub invariant-loop-i : goal.invariant-loop-i
invariant-loop-i g l = record {
  operand : IsOperand g.row.N l.ctx l.moduli l.a;
  over : IsOperand g.row.N l.ctx l.moduli l.initial.out;
  one : length l.row ≡ 1;
  written : WrittenTo l.initial.out (Becomes g.row.N l.moduli l.level (λ j. ring_negative) l.a.rows) l.i l.out;
}
