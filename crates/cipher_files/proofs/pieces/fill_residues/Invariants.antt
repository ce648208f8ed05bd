use Rattle.std.proofs.Common.{◌≡◌, ℕ, ◌<◌, length}
use Rattle.std.specs.Prelude.{slice_index}
use Rattle.ring_law.specs.Residues.{residue}
use Rattle.ring_law.specs.Rows.{listed_polynomial}
use Rattle.cipher_files.proofs.pieces.fill_residues.Given as goal

abbrev pub invariant-coefficients : goal.invariant-coefficients
invariant-coefficients l = record {
  size : length l.words ≡ length l.coefficients;
  done : (i : ℕ) → i < l.i → slice_index l.words i ≡ residue 3 (listed_polynomial l.coefficients i);
}
