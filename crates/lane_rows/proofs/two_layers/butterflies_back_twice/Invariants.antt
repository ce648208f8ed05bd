use Rattle.std.proofs.Common.{◌+◌, ◌*◌}
use Rattle.lane_rows.specs.Butterflies.{IsButterflyBack, TwoLayersBack}
use Rattle.lane_rows.proofs.Fours.{FoursDone}
use Rattle.lane_rows.proofs.two_layers.butterflies_back_twice.Given as goal

abbrev pub invariant-chunks : goal.invariant-chunks
invariant-chunks l = FoursDone (TwoLayersBack (IsButterflyBack l.q l.outer.w) (IsButterflyBack l.q l.first.w) (IsButterflyBack l.q l.second.w)) (2 * l.q) l.quarter l.fn.block l.block (4 * l.k)

abbrev pub invariant-places : goal.invariant-places
invariant-places l = FoursDone (TwoLayersBack (IsButterflyBack l.q l.outer.w) (IsButterflyBack l.q l.first.w) (IsButterflyBack l.q l.second.w)) (2 * l.q) l.quarter l.fn.block l.block (4 * l.k + l.r)

abbrev pub invariant-rest : goal.invariant-rest
invariant-rest l = FoursDone (TwoLayersBack (IsButterflyBack l.q l.outer.w) (IsButterflyBack l.q l.first.w) (IsButterflyBack l.q l.second.w)) (2 * l.q) l.quarter l.fn.block l.block l.i
