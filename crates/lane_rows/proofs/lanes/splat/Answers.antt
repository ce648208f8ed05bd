use Rattle.lane_rows.proofs.LaneLists.{HasLanes-replicate}
use Rattle.lane_rows.proofs.lanes.splat.Goals as goal

pub returns : goal.returns
returns c = HasLanes-replicate c.args.x
