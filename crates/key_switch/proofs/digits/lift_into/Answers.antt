use Rattle.std.proofs.Common.{List, ℕ, subst, sym}
use Rattle.ring_law.specs.Rows.{row_polynomial}
use Rattle.rns_poly.specs.Rows.{EachRepresents}
use Rattle.key_switch.proofs.digits.lift_into.Goals as goal

pub returns-clause-transforms : goal.returns-clause-transforms
returns-clause-transforms g c =
    c.forward_all.ensures.transforms (λ i. row_polynomial c.args.row.now)
    (subst (λ (qs : List ℕ). EachRepresents g.row.N qs c.reduce_into.new.out (λ i. row_polynomial c.args.row.now)) (sym c.requires.same_moduli)
    (λ i k within below. c.reduce_into.ensures.represents i within k below))
