use Rattle.std.proofs.Common.{◌≡◌, ℕ, ◌%◌, ◌<◌, length, slice_index}
use Rattle.ring_law.specs.Moduli.{product}
use Rattle.bfv_model.specs.Plaintexts.{scaled_plain}
use Rattle.bfv_params.proofs.scaled.scale_row.Given as goal

abbrev pub invariant-loop-k : goal.invariant-loop-k
invariant-loop-k g l = record {
  words : length l.out ≡ g.row.N;
  scaled : (j : ℕ) → j < l.k → slice_index l.out j ≡ scaled_plain (product l.base) l.t (slice_index l.plain j) % slice_index l.base l.i;
}
