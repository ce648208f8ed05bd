use Rattle.std.proofs.Common.{◌≡◌, ◌*◌, length}
use Rattle.std.specs.Option.{ForSome}
use Rattle.set_table.specs.Sets.{data_of}
use Rattle.outer_io.specs.Store.{OnlyReads}
use Rattle.file_model.specs.FileText.{row_moduli}
use Rattle.cipher_files.proofs.FileRows.{RowsSoFar}
use Rattle.cipher_files.proofs.reading.read_public.Given as goal

abbrev pub invariant-rows : goal.invariant-rows
invariant-rows g l =
    let state = g.S.Store.state in
    record {
      keeps : OnlyReads (state l.fn.store) (state l.store);
      set : l.into.set ≡ l.fn.into.set;
      size : length l.into.rows ≡ 2 * length (data_of l.head.set);
      told : ForSome (state l.fn.store).files (λ files. RowsSoFar files l.name g.row.N 0 l.i (row_moduli l.head.kind l.head.set) l.into.rows);
    }
