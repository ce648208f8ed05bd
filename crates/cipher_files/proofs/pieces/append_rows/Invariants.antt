use Rattle.std.proofs.Common.{◌≡◌, ◌<◌, ◌++◌, ℕ, List, [], length, get_or, take}
use Rattle.std.specs.Prelude.{Ok}
use Rattle.std.specs.Option.{ForSome}
use Rattle.std.specs.List.{concat}
use Rattle.outer_io.specs.Store.{OnlyWrites}
use Rattle.sha2.specs.Hashers.{Holds256}
use Rattle.file_model.specs.Bytes.{word_bytes}
use Rattle.cipher_files.proofs.pieces.append_rows.Given as goal

abbrev pub invariant-rows : goal.invariant-rows
invariant-rows g l =
    let old = g.S.Store.state l.fn.store in
    let now = g.S.Store.state l.store in
    record {
      keeps : OnlyWrites {T = Unit {0}} old now (Ok tt);
      files : now.files ≡ old.files;
      pending : now.pending ≡ old.pending;
      written : ForSome old.files (λ _. now.written ≡ old.written ++ word_bytes (concat (take l.row-index l.rows.rows.now)));
      hashed : (text : List ℕ) → Holds256 l.fn.hasher text → Holds256 l.hasher (text ++ word_bytes (concat (take l.row-index l.rows.rows.now)));
      sizes : (i : ℕ) → i < l.row-index → length (get_or l.rows.rows.now i []) ≡ g.row.N;
    }
