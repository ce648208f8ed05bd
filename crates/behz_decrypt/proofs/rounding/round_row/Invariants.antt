use Rattle.std.proofs.Common.{◌≡◌, ℕ, ◌<◌, length, slice_index}
use Rattle.behz_decrypt.proofs.RoundedWords.{Rounds}
use Rattle.behz_decrypt.proofs.rounding.round_row.Given as goal

abbrev pub invariant-loop-k : goal.invariant-loop-k
invariant-loop-k g l = record {
  count : length l.row ≡ g.row.N;
  rounds : (j : ℕ) → j < l.k → Rounds l.rounding (slice_index l.in_plain j) (slice_index l.in_gamma j) (slice_index l.row j);
}
