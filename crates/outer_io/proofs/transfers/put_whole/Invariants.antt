use Rattle.std.proofs.Common.{◌≤◌, ◌-◌, length, take}
use Rattle.std.specs.Io.KnownBytes.{Appends}
use Rattle.outer_io.proofs.transfers.put_whole.Given as goal

abbrev pub invariant-put : goal.invariant-put
invariant-put g l = record {
  within : l.n ≤ length l.fn.piece;
  bytes : Appends (g.W.Write.contents l.fn.writer) (g.W.Write.contents l.writer) (take l.n l.fn.piece);
}

abbrev pub decreases-put : goal.decreases-put
decreases-put g l = length l.fn.piece - l.n
