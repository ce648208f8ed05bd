use Rattle.std.proofs.Common.{◌≡◌, ℕ, ◌%◌, ◌<◌, length, slice_index}
use Rattle.ring_law.specs.Moduli.{product}
use Rattle.ring_law.specs.Rows.{word_at}
use Rattle.bfv_model.specs.Plaintexts.{scaled_plain}
use Rattle.bfv_params.proofs.scaled.scale_rows.Given as goal

abbrev pub invariant-loop-i : goal.invariant-loop-i
invariant-loop-i g l = record {
  count : length l.out ≡ length l.fn.out;
  written : (j k : ℕ) → j < l.i → k < g.row.N → word_at l.out j k ≡ scaled_plain (product l.base) l.t (slice_index l.plain k) % slice_index l.base j;
}
