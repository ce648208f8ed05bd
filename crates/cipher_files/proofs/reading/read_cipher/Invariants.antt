use Rattle.std.proofs.Common.{◌≡◌, ◌*◌, length}
use Rattle.std.specs.Option.{ForSome}
use Rattle.set_table.specs.Sets.{data_of}
use Rattle.outer_io.specs.Store.{OnlyReads}
use Rattle.bfv_params.specs.Rows.{ZeroFrom}
use Rattle.file_model.specs.FileText.{row_moduli}
use Rattle.cipher_files.proofs.FileRows.{RowsSoFar}
use Rattle.cipher_files.proofs.reading.read_cipher.Given as goal

abbrev pub invariant-rows : goal.invariant-rows
invariant-rows g l =
    let state = g.S.Store.state in
    record {
      keeps : OnlyReads (state l.fn.store) (state l.store);
      set : l.into.set ≡ l.fn.into.set;
      room : l.into.room ≡ l.fn.into.room;
      level : l.into.level ≡ l.fn.into.level;
      parts : l.into.parts ≡ l.head.parts;
      size : length l.into.rows ≡ 3 * length (data_of l.head.set);
      rest : ZeroFrom g.row.N (l.head.parts * length (data_of l.head.set)) l.into.rows;
      told : ForSome (state l.fn.store).files (λ files. RowsSoFar files l.name g.row.N 0 l.i (row_moduli l.head.kind l.head.set) l.into.rows);
    }
