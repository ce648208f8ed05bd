use Rattle.std.proofs.Common.{◌+◌, ◌*◌}
use Rattle.lane_rows.specs.Butterflies.{IsButterfly, TwoLayers}
use Rattle.lane_rows.proofs.Fours.{FoursDone}
use Rattle.lane_rows.proofs.two_layers.butterflies_twice.Given as goal

abbrev pub invariant-chunks : goal.invariant-chunks
invariant-chunks l = FoursDone (TwoLayers (IsButterfly l.q l.outer.w) (IsButterfly l.q l.first.w) (IsButterfly l.q l.second.w)) (4 * l.q) l.quarter l.fn.block l.block (4 * l.k)

abbrev pub invariant-places : goal.invariant-places
invariant-places l = FoursDone (TwoLayers (IsButterfly l.q l.outer.w) (IsButterfly l.q l.first.w) (IsButterfly l.q l.second.w)) (4 * l.q) l.quarter l.fn.block l.block (4 * l.k + l.r)

abbrev pub invariant-rest : goal.invariant-rest
invariant-rest l = FoursDone (TwoLayers (IsButterfly l.q l.outer.w) (IsButterfly l.q l.first.w) (IsButterfly l.q l.second.w)) (4 * l.q) l.quarter l.fn.block l.block l.i
