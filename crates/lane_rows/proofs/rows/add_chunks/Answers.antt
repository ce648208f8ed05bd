use Rattle.std.proofs.Common.{◌≡◌, ◌+◌, ◌%◌, ◌∙◌, get_or, arith}
use Rattle.lane_rows.proofs.Stores.{stored}
use Rattle.lane_rows.proofs.rows.add_chunks.Goals as goal

pub loop-k-preserved : goal.loop-k-preserved
loop-k-preserved c =
    stored (λ j x. x ≡ (get_or c.args.a.now j 0 + get_or c.args.b.now j 0) % c.args.q) c.loop-k.out c.add-sums.result c.loop-k.k c.add-sums.ensures.len (omega arith) c.loop-k.invariant
    (λ i h. c.add-sums.ensures.at i h ∙ rw (c.load.ensures.at i h, c.load-in-loop-k.ensures.at i h))
