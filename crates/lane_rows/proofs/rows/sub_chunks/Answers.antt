use Rattle.std.proofs.Common.{◌≡◌, ◌+◌, ◌-◌, ◌%◌, ◌∙◌, get_or, arith}
use Rattle.lane_rows.proofs.Stores.{stored}
use Rattle.lane_rows.proofs.rows.sub_chunks.Goals as goal

pub loop-k-preserved : goal.loop-k-preserved
loop-k-preserved c =
    stored (λ j x. x ≡ (get_or c.args.a.now j 0 + (c.args.q - get_or c.args.b.now j 0)) % c.args.q) c.loop-k.out c.sub-differences.result c.loop-k.k c.sub-differences.ensures.len (omega arith) c.loop-k.invariant
    (λ i h. c.sub-differences.ensures.at i h ∙ rw (c.load.ensures.at i h, c.load-in-loop-k.ensures.at i h))
