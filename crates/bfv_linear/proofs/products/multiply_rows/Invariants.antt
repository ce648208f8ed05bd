use Rattle.std.proofs.Common.{◌≡◌, ℕ, ℤ, length, map}
use Rattle.ring_law.specs.Polynomials.{ring_product}
use Rattle.rns_poly.specs.Transforms.{AreTransforms}
use Rattle.bfv_params.specs.Moduli.{data_at}
use Rattle.bfv_params.specs.Transforms.{transform_of}
use Rattle.bfv_linear.proofs.Operands.{IsOperand}
use Rattle.bfv_linear.proofs.Results.{Becomes}
use Rattle.bfv_linear.proofs.Written.{WrittenTo}
use Rattle.bfv_linear.proofs.products.multiply_rows.Given as goal

abbrev pub invariant-loop-i : goal.invariant-loop-i
invariant-loop-i g l =
    let moduli = data_at l.ctx.set l.ctx.level in
    record {
      operand : IsOperand g.row.N l.ctx moduli l.a;
      over : IsOperand g.row.N l.ctx moduli l.initial.out;
      level : l.level ≡ length moduli;
      one : length l.row ≡ 1;
      one_product : length l.product ≡ 1;
      written : WrittenTo l.initial.out (λ i row. (y : ℕ → ℤ) → AreTransforms (map (transform_of l.ctx.set) moduli) l.factors.rows.now (λ j. y)
          → Becomes g.row.N moduli (length moduli) (λ j x. ring_product g.row.N x y) l.a.rows i row) l.i l.out;
    }
