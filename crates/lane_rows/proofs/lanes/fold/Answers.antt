use Rattle.std.proofs.Common.{◌∙◌, ap, ℕ, ◌%◌, get_or}
use Rattle.lane_rows.proofs.Residues.{mod-mod_multiple}
use Rattle.lane_rows.proofs.lanes.fold.Goals as goal

pub returns : goal.returns
returns c = record {
  len = c.reduce_once-2.ensures.len;
  at = λ i h. c.reduce_once-2.ensures.at i h ∙ ap (λ (z : ℕ). z % c.args.q) (c.reduce_once.ensures.at i h) ∙ mod-mod_multiple c.args.q 2 (get_or c.args.x i 0);
}
