use Rattle.lane_rows.proofs.Residues.{mod-mod_multiple}
use Rattle.lane_rows.proofs.words.fold.Goals as goal

pub returns : goal.returns
returns c = rw (c.reduce_once-2.ensures, c.reduce_once.ensures) (mod-mod_multiple c.args.q 2 c.args.x)
