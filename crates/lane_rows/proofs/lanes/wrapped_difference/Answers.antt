use Rattle.std.proofs.Common.{refl}
use Rattle.lane_rows.proofs.LaneLists.{HasLanes-zip2}
use Rattle.lane_rows.proofs.lanes.wrapped_difference.Goals as goal

pub returns : goal.returns
returns c = HasLanes-zip2 _ c.args.x c.args.y _ c.fits-x.0 c.fits-y.0 (λ i h. refl)
