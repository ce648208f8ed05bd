use Rattle.std.proofs.Common.{◌≡◌, ℕ, ◌*◌, ◌%◌, ◌<◌, length, slice_index}
use Rattle.behz_decrypt.proofs.decrypting.set_factors.Given as goal

abbrev pub invariant-loop-i : goal.invariant-loop-i
invariant-loop-i l = record {
  count : length l.factors ≡ 32;
  set : (j : ℕ) → j < l.i → slice_index l.factors j ≡ l.gamma * l.t % slice_index l.moduli j;
}
