use Rattle.std.proofs.Common.{ltb}
use Rattle.std.proofs.lemmas.Simd.{tops_compared}
use Rattle.std.specs.Int.{w64}
use Rattle.lane_rows.proofs.LaneLists.{HasLanes-sel_l}
use Rattle.lane_rows.proofs.lanes.least.Goals as goal

pub returns : goal.returns
returns c = rw (tops_compared w64 ltb c.args.x c.args.y) (HasLanes-sel_l c.args.x c.args.y c.fits-x.0 c.fits-y.0)
