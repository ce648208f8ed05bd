use Rattle.std.proofs.Math.Nat.{mod-eq_of_lt}
use Rattle.lane_rows.proofs.LaneLists.{HasLanes-zip2}
use Rattle.lane_rows.proofs.lanes.sum.Goals as goal

pub returns : goal.returns
returns c = HasLanes-zip2 _ c.args.x c.args.y _ c.fits-x.0 c.fits-y.0 (λ i h. mod-eq_of_lt (c.requires i h))
