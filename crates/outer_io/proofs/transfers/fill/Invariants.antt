use Rattle.std.proofs.Common.{◌≡◌, ◌≤◌, ◌-◌, length, take}
use Rattle.std.specs.Io.KnownBytes.{Consumes}
use Rattle.outer_io.proofs.transfers.fill.Given as goal

abbrev pub invariant-fill : goal.invariant-fill
invariant-fill g l = record {
  within : l.n ≤ length l.buf;
  room : length l.buf ≡ length l.fn.buf;
  bytes : Consumes (g.R.Read.remaining l.fn.reader) (g.R.Read.remaining l.reader) (take l.n l.buf);
}

abbrev pub decreases-fill : goal.decreases-fill
decreases-fill g l = length l.initial.buf - l.n
