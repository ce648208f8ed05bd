use Rattle.std.proofs.Common.{◌≡◌, ◌++◌, ◌≤◌, ◌-◌, ℕ, List, length, take, map}
use Rattle.std.specs.Prelude.{Ok}
use Rattle.std.specs.Option.{ForSome}
use Rattle.outer_io.specs.Store.{OnlyWrites}
use Rattle.sha2.specs.Hashers.{Holds256}
use Rattle.ring_law.specs.Residues.{residue}
use Rattle.file_model.specs.Bytes.{word_bytes}
use Rattle.cipher_files.proofs.pieces.append_residues.Given as goal

abbrev pub invariant-pieces : goal.invariant-pieces
invariant-pieces g l =
    let old = g.S.Store.state l.fn.store in
    let now = g.S.Store.state l.store in
    record {
      within : l.done ≤ length l.coefficients;
      keeps : OnlyWrites {T = Unit {0}} old now (Ok tt);
      files : now.files ≡ old.files;
      pending : now.pending ≡ old.pending;
      written : ForSome old.files (λ _. now.written ≡ old.written ++ word_bytes (take l.done (map (residue 3) l.coefficients)));
      hashed : (text : List ℕ) → Holds256 l.fn.hasher text → Holds256 l.hasher (text ++ word_bytes (take l.done (map (residue 3) l.coefficients)));
    }

abbrev pub decreases-pieces : goal.decreases-pieces
decreases-pieces g l = length l.coefficients - l.done
