use Rattle.std.proofs.Common.{◌≡◌, ℕ, ◌*◌, ◌%◌, ◌<◌, length, get_or}
use Rattle.ring_law.specs.Moduli.{product_of_others}
use Rattle.fast_conv.proofs.outputs.OutputRow.new.Given as goal

abbrev pub invariant-loop-i : goal.invariant-loop-i
invariant-loop-i l = record {
  count : length l.factors.items ≡ l.i;
  value : (i : ℕ) → i < l.i → get_or l.factors.items i 0 ≡ l.constants.scale * product_of_others l.base i % l.modulus;
}
