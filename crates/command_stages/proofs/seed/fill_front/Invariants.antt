use Rattle.std.proofs.Common.{◌≤◌, ◌-◌, length}
use Rattle.std.specs.Option.{ForSome}
use Rattle.outer_io.specs.Store.{OnlyReads}
use Rattle.command_stages.proofs.SeedFiles.{FrontRead}
use Rattle.command_stages.proofs.seed.fill_front.Given as goal

abbrev pub invariant-pieces : goal.invariant-pieces
invariant-pieces g l =
    let state = g.S.Store.state in
    record {
      keeps : OnlyReads (state l.fn.store) (state l.store);
      within : l.filled ≤ length l.buffer;
      told : ForSome (state l.fn.store).files (λ files. FrontRead files l.name l.filled l.buffer);
    }

abbrev pub decreases-pieces : goal.decreases-pieces
decreases-pieces g l = length l.buffer - l.filled
