use Rattle.std.proofs.Common.{◌≤◌, ◌-◌, length}
use Rattle.std.specs.Option.{ForSome}
use Rattle.outer_io.specs.Store.{OnlyReads}
use Rattle.cipher_files.proofs.FileRows.{WordsSoFar}
use Rattle.cipher_files.proofs.file_rows.read_words.Given as goal

abbrev pub invariant-pieces : goal.invariant-pieces
invariant-pieces g l =
    let state = g.S.Store.state in
    record {
      keeps : OnlyReads (state l.fn.store) (state l.store);
      within : l.done ≤ length l.initial.out;
      told : ForSome (state l.fn.store).files (λ files. WordsSoFar files l.name l.at l.done l.out);
    }

abbrev pub decreases-pieces : goal.decreases-pieces
decreases-pieces g l = length l.initial.out - l.done
