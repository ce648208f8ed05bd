use Rattle.std.proofs.Common.{◌≡◌, length}
use Rattle.std.specs.Io.KnownBytes.{Keeps}
use Rattle.outer_io.proofs.transfers.read_once.Given as goal

abbrev pub invariant-tries : goal.invariant-tries
invariant-tries g l = record {
  room : length l.buf ≡ length l.fn.buf;
  kept : Keeps (g.R.Read.remaining l.fn.reader) (g.R.Read.remaining l.reader);
}
