use Rattle.std.proofs.Common.{ℕ, ◌<◌, length, slice_index}
use Rattle.word_mod.specs.Moduli.{IsModulus}
use Rattle.res_base.specs.Bases.{CoprimeFromTo}
use Rattle.res_base.proofs.base.first_not_coprime.Given as goal

abbrev pub invariant-loop-i : goal.invariant-loop-i
invariant-loop-i l = record {
  coprime : (k : ℕ) → k < l.i → CoprimeFromTo l.moduli k (length l.moduli);
  each : (k : ℕ) → k < l.i → IsModulus (slice_index l.moduli k);
}
