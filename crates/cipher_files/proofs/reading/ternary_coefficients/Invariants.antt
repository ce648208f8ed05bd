use Rattle.std.proofs.Common.{◌≡◌, ℕ, ◌<◌, length}
use Rattle.std.specs.Prelude.{slice_index}
use Rattle.ring_law.specs.Rows.{listed_polynomial}
use Rattle.bfv_model.specs.Holds.{ternary_coefficient}
use Rattle.cipher_files.proofs.reading.ternary_coefficients.Given as goal

abbrev pub invariant-loop-k : goal.invariant-loop-k
invariant-loop-k g l = record {
  size : length l.small ≡ g.row.N;
  value : (k : ℕ) → k < l.k → listed_polynomial l.small k ≡ ternary_coefficient (slice_index l.words k);
}
