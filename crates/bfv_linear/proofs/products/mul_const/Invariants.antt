use Rattle.std.proofs.Common.{◌≡◌, ◌*ℤ◌, length, pos}
use Rattle.set_table.specs.Sets.{plain_of}
use Rattle.ring_law.specs.Residues.{centred_residue}
use Rattle.bfv_linear.proofs.Operands.{IsOperand}
use Rattle.bfv_linear.proofs.Results.{Becomes}
use Rattle.bfv_linear.proofs.Written.{WrittenTo}
use Rattle.bfv_linear.proofs.products.mul_const.Given as goal

abbrev pub invariant-loop-i : goal.invariant-loop-i
invariant-loop-i g l = record {
  operand : IsOperand g.row.N l.ctx l.moduli l.a;
  over : IsOperand g.row.N l.ctx l.moduli l.initial.out;
  one : length l.row ≡ 1;
  written : WrittenTo l.initial.out (Becomes g.row.N l.moduli l.level (λ j x i. centred_residue (plain_of l.ctx.set) (pos l.k) *ℤ x i) l.a.rows) l.i l.out;
}
