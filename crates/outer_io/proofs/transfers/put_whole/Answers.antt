use Rattle.std.proofs.Common.{rules, subst}
use Rattle.std.specs.Io.KnownBytes.{Appends}
use Rattle.std.proofs.KnownBytes.{Appends-trans}
use Rattle.outer_io.proofs.Buffers.{two_parts}
use Rattle.outer_io.proofs.transfers.put_whole.Goals as goal

pub put-preserved : goal.put-preserved
put-preserved g c =
    let before = c.put.invariant in
    record {
      within = search rules;
      bytes = subst (Appends _ _) (two_parts c.put.n c.in_ok-more.more c.args.piece.now) (Appends-trans _ _ _ _ _ before.bytes c.in_ok-more.ensures.ok);
    }
