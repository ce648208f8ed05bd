use Rattle.std.proofs.Common.{ℕ, ◌<◌, get_or}
use Rattle.std.specs.Int.{IsGcd}
use Rattle.ring_law.specs.Moduli.{product}
use Rattle.fast_conv.proofs.tests.are_coprime.Given as goal

abbrev pub invariant-loop-p : goal.invariant-loop-p
invariant-loop-p l = (j : ℕ) → j < l.p-index → IsGcd (product l.base) (get_or l.moduli j 0) 1
