use Rattle.std.proofs.Common.{◌+◌, ◌*◌, ◌≤◌, arith}
use Rattle.lane_rows.proofs.Stores.{PairsTo-more}
use Rattle.lane_rows.proofs.pairs.scaled_butterflies_back.Goals as goal

pub places-preserved : goal.places-preserved
places-preserved c =
    let before = c.places.invariant in
    let place : 4 * c.chunks.k + c.places.r ≤ 4 * c.chunks.k + c.places.r = omega arith in
    let pair = rw (before.xs_rest (4 * c.chunks.k + c.places.r) place, before.ys_rest (4 * c.chunks.k + c.places.r) place) at c.scaled_step_back.ensures.pair in
    PairsTo-more _ _ _ _ _ _ _ (4 * c.chunks.k + c.places.r) _ (omega arith) before (pair, c.scaled_step_back.ensures.lo_below, c.scaled_step_back.ensures.hi_below) c.scaled_step_back.ensures.lo_others
    c.scaled_step_back.ensures.hi_others

pub rest-preserved : goal.rest-preserved
rest-preserved c =
    let before = c.rest.invariant in
    let place : c.rest.i ≤ c.rest.i = omega arith in
    let pair = rw (before.xs_rest (c.rest.i) place, before.ys_rest (c.rest.i) place) at c.scaled_step_back-in-rest.ensures.pair in
    PairsTo-more _ _ _ _ _ _ _ (c.rest.i) _ (omega arith) before (pair, c.scaled_step_back-in-rest.ensures.lo_below, c.scaled_step_back-in-rest.ensures.hi_below) c.scaled_step_back-in-rest.ensures.lo_others
    c.scaled_step_back-in-rest.ensures.hi_others
