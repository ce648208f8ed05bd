use Rattle.std.proofs.Common.{◌+◌, ◌*◌, ◌%◌, ◌<◌, ℕ, [], length}
use Rattle.std.specs.Prelude.{slice_index, slice_index_or}
use Rattle.std.specs.Option.{ForSome}
use Rattle.set_table.specs.Sets.{data_of, key_of}
use Rattle.ring_law.specs.Rows.{IsReduced}
use Rattle.outer_io.specs.Store.{OnlyReads}
use Rattle.bfv_params.specs.Rows.{ReducedInTurn}
use Rattle.cipher_files.proofs.FileRows.{RowsSoFar}
use Rattle.cipher_files.proofs.reading.read_digit.Given as goal

abbrev pub invariant-rows : goal.invariant-rows
invariant-rows g l =
    let state = g.S.Store.state in
    let count = length (data_of l.head.set) + 1 in
    record {
      keeps : OnlyReads (state l.fn.store) (state l.store);
      reduced : (r : ℕ) → r < l.r → IsReduced g.row.N (slice_index (key_of l.head.set) (r % count)) (slice_index_or l.into r []);
      kept : ReducedInTurn g.row.N count (key_of l.head.set) l.initial.into → ReducedInTurn g.row.N count (key_of l.head.set) l.into;
      told : ForSome (state l.fn.store).files (λ files. RowsSoFar files l.name g.row.N (l.i * (2 * count)) l.r (key_of l.head.set) l.into);
    }
