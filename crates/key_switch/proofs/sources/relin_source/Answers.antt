use Rattle.std.proofs.Common.{List, ℤ, subst}
use Rattle.ring_law.specs.Rows.{listed_polynomial}
use Rattle.ring_law.specs.Polynomials.{ring_product}
use Rattle.rns_poly.specs.Transforms.{AreTransforms}
use Rattle.bfv_params.specs.Contexts.{transforms_in}
use Rattle.key_switch.proofs.sources.relin_source.Goals as goal

pub returns-clause-transforms : goal.returns-clause-transforms
returns-clause-transforms g c =
    subst (λ (small : List ℤ). AreTransforms (transforms_in c.args.ctx.now) c.square_rows.new.rows (λ i. ring_product g.row.N (listed_polynomial small) (listed_polynomial small)))
    c.small.ensures.value
    (c.square_rows.ensures.transforms (λ i. listed_polynomial c.small.result.now) c.transform_small_into.ensures.transforms)
