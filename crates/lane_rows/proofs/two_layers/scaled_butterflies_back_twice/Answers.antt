use Rattle.std.proofs.Common.{◌+◌, ◌*◌, arith}
use Rattle.lane_rows.proofs.Fours.{FoursDone-at, FoursDone-more, RowBelow-fours}
use Rattle.lane_rows.proofs.two_layers.scaled_butterflies_back_twice.Goals as goal

pub places-preserved : goal.places-preserved
places-preserved c =
    FoursDone-at _ _ _ _ _ (4 * c.chunks.k + c.places.r + 1) _ (omega arith)
    (FoursDone-more _ _ _ _ _ _ (4 * c.chunks.k + c.places.r) (omega arith) c.places.invariant
    (c.scaled_step_back.ensures.layers, c.scaled_step_back.ensures.reduced.a, c.scaled_step_back.ensures.reduced.b, c.scaled_step_back.ensures.reduced.c, c.scaled_step_back.ensures.reduced.d)
    c.scaled_step_back.ensures.below c.scaled_step_back.ensures.others)

pub chunks-preserved : goal.chunks-preserved
chunks-preserved c = FoursDone-at _ _ _ _ _ (4 * c.chunks.k + c.places.r) _ (omega arith) c.places.invariant

pub rest-init : goal.rest-init
rest-init c = FoursDone-at _ _ _ _ _ (4 * c.chunks.k) _ (omega arith) c.chunks.invariant

pub rest-preserved : goal.rest-preserved
rest-preserved c =
    FoursDone-more _ _ _ _ _ _ c.rest.i (omega arith) c.rest.invariant
    (c.scaled_step_back-in-rest.ensures.layers, c.scaled_step_back-in-rest.ensures.reduced.a, c.scaled_step_back-in-rest.ensures.reduced.b, c.scaled_step_back-in-rest.ensures.reduced.c, c.scaled_step_back-in-rest.ensures.reduced.d)
    c.scaled_step_back-in-rest.ensures.below c.scaled_step_back-in-rest.ensures.others

pub returns-clause-layers : goal.returns-clause-layers
returns-clause-layers c i inside = (c.rest.invariant.done i (omega arith)).0

pub returns-clause-below : goal.returns-clause-below
returns-clause-below c =
    RowBelow-fours c.args.q c.args.quarter c.rest.block (omega arith)
    (λ i inside. let four = c.rest.invariant.done i (omega arith) in record { a = four.1; b = four.2; c = four.3; d = four.4 })
