use Rattle.std.proofs.Common.{◌≡◌, length, get_or}
use Rattle.ring_law.specs.Polynomials.{ring_sum}
use Rattle.bfv_linear.proofs.Operands.{IsOperand}
use Rattle.bfv_linear.specs.Parts.{at_first_part, scaled_polynomial}
use Rattle.bfv_linear.specs.Signs.{signed}
use Rattle.bfv_linear.proofs.Results.{Becomes}
use Rattle.bfv_linear.proofs.Written.{WrittenTo}
use Rattle.bfv_linear.proofs.plaintexts.add_signed_plain.Given as goal

abbrev pub invariant-loop-i : goal.invariant-loop-i
invariant-loop-i g l = record {
  operand : IsOperand g.row.N l.ctx l.moduli l.a;
  over : IsOperand g.row.N l.ctx l.moduli l.initial.out;
  one : length l.row ≡ 1;
  one_scaled : length l.scaled ≡ 1;
  written : WrittenTo l.initial.out
      (Becomes g.row.N l.moduli l.level (at_first_part (λ x. ring_sum x (signed l.sign (scaled_polynomial l.ctx (λ k. get_or l.plain k 0))))) l.a.rows) l.i l.out;
}
