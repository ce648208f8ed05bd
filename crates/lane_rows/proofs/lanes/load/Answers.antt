use Rattle.lane_rows.proofs.LaneLists.{HasLanes-chunk}
use Rattle.lane_rows.proofs.lanes.load.Goals as goal

pub returns : goal.returns
returns c = HasLanes-chunk c.args.from c.args.row.now c.requires
