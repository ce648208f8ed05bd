use Rattle.std.proofs.Common.{◌-◌, rules, length, subst}
use Rattle.std.specs.Io.KnownBytes.{Consumes}
use Rattle.std.proofs.KnownBytes.{Consumes-trans}
use Rattle.outer_io.proofs.Buffers.{front_filled}
use Rattle.outer_io.proofs.transfers.fill.Goals as goal

pub fill-preserved : goal.fill-preserved
fill-preserved g c =
    let before = c.fill.invariant in
    let joined = front_filled c.fill.n (length c.fill.buf - c.fill.n) c.in_ok-more.more c.fill.buf c.read_once.new.buf before.within (search rules) in
    record {
      within = search rules;
      room = search rules;
      bytes = subst (Consumes _ _) joined (Consumes-trans _ _ _ _ _ before.bytes c.in_ok-more.ensures.bytes);
    }
