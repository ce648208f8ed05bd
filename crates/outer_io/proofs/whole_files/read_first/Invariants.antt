use Rattle.std.proofs.Common.{◌≤◌, ◌-◌, length}
use Rattle.std.specs.Option.{ForSome}
use Rattle.outer_io.specs.Store.{OnlyReads}
use Rattle.outer_io.proofs.Reading.{SoFar}
use Rattle.outer_io.proofs.whole_files.read_first.Given as goal

abbrev pub invariant-pieces : goal.invariant-pieces
invariant-pieces g l =
    let state = g.S.Store.state in
    record {
      keeps : OnlyReads (state l.fn.store) (state l.store);
      within : length l.front.items ≤ l.count;
      told : ForSome (state l.fn.store).files (λ files. SoFar files l.name l.count l.front.items);
    }

abbrev pub decreases-pieces : goal.decreases-pieces
decreases-pieces g l = l.count - length l.front.items
