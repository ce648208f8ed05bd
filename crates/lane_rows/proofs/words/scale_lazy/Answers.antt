use Rattle.std.proofs.Common.{arith, refl}
use Rattle.lane_rows.proofs.Shoup.{IsLazyProduct-from_words}
use Rattle.lane_rows.proofs.words.scale_lazy.Goals as goal

pub returns : goal.returns
returns c =
    let is_lazy = IsLazyProduct-from_words c.args.q c.args.w c.args.shoup c.args.x _ c.requires.modulus c.requires.quotient (omega arith) refl in
    rw c.high_product.ensures (record { congruent = is_lazy.congruent; below = is_lazy.below })
