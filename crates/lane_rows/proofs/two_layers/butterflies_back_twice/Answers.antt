use Rattle.std.proofs.Common.{◌+◌, ◌*◌, arith}
use Rattle.lane_rows.proofs.Fours.{FoursDone-at, FoursDone-more}
use Rattle.lane_rows.proofs.two_layers.butterflies_back_twice.Goals as goal

pub places-preserved : goal.places-preserved
places-preserved c =
    FoursDone-at _ _ _ _ _ (4 * c.chunks.k + c.places.r + 1) _ (omega arith)
    (FoursDone-more _ _ _ _ _ _ (4 * c.chunks.k + c.places.r) (omega arith) c.places.invariant c.step_back.ensures.layers c.step_back.ensures.below c.step_back.ensures.others)

pub chunks-preserved : goal.chunks-preserved
chunks-preserved c = FoursDone-at _ _ _ _ _ (4 * c.chunks.k + c.places.r) _ (omega arith) c.places.invariant

pub rest-init : goal.rest-init
rest-init c = FoursDone-at _ _ _ _ _ (4 * c.chunks.k) _ (omega arith) c.chunks.invariant

pub rest-preserved : goal.rest-preserved
rest-preserved c =
    FoursDone-more _ _ _ _ _ _ c.rest.i (omega arith) c.rest.invariant c.step_back-in-rest.ensures.layers c.step_back-in-rest.ensures.below c.step_back-in-rest.ensures.others
