use Rattle.std.proofs.Common.{◌≡◌, ℕ, ◌+◌, ◌*◌, List, length}
use Rattle.std.specs.Prelude.{find, None}
use Rattle.std.specs.List.{range_with_len}
use Rattle.file_model.specs.Bytes.{bytes_from}
use Rattle.file_model.specs.Scan as scan
use Rattle.file_scan.proofs.words.first_unreduced.Given as goal

abbrev pub invariant-words : goal.invariant-words
invariant-words l =
    (bytes : List ℕ) → l.piece ≡ bytes_from (64 + 8 * l.start) (length l.piece) bytes
    → find (scan.is_unreduced l.head.kind l.head.set bytes) (range_with_len l.start l.j) ≡ None
