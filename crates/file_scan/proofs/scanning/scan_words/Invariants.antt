use Rattle.std.proofs.Common.{◌≡◌, ℕ, ◌<◌, ◌≤◌, ◌-◌, ◌*◌, ◌++◌, List}
use Rattle.std.specs.Prelude.{find, IfSome}
use Rattle.std.specs.List.{range_with_len}
use Rattle.std.specs.Option.{ForSome}
use Rattle.outer_io.specs.Store.{OnlyReads, contents}
use Rattle.sha2.specs.Hashers.{Holds256}
use Rattle.file_model.specs.Bytes.{bytes_from}
use Rattle.file_model.specs.Scan.{is_unreduced}
use Rattle.file_scan.proofs.scanning.scan_words.Given as goal

abbrev pub invariant-pieces : goal.invariant-pieces
invariant-pieces g l =
    let state = g.S.Store.state in
    record {
      keeps : OnlyReads (state l.fn.store) (state l.store);
      within : l.done ≤ l.words;
      below : IfSome l.unreduced (λ word. word < l.done);
      tested : ForSome (state l.fn.store).files (λ files.
          l.unreduced ≡ find (is_unreduced l.head.kind l.head.set (contents files l.name)) (range_with_len 0 l.done));
      hashed : ForSome (state l.fn.store).files (λ files. (m : List ℕ) → Holds256 l.fn.hasher m
          → Holds256 l.hasher (m ++ bytes_from 64 (8 * l.done) (contents files l.name)));
    }

abbrev pub decreases-pieces : goal.decreases-pieces
decreases-pieces g l = l.words - l.done
