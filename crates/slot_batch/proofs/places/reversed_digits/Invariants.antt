use Rattle.std.proofs.Common.{◌≡◌, ℕ, ◌+◌, ◌*◌, ◌^◌, ◌<◌, ◌≤◌}
use Rattle.slot_batch.proofs.Digits.{IsReversing}
use Rattle.slot_batch.proofs.places.reversed_digits.Given as goal

abbrev pub invariant-loop-span : goal.invariant-loop-span
invariant-loop-span l = record {
  some : 0 < l.span;
  within : (l.reversed + 1) * l.span ≤ l.n;
  digits : (k : ℕ) → l.n ≡ 2 ^ k → IsReversing l.n l.j l.reversed l.rest l.span k;
}

abbrev pub decreases-loop-span : goal.decreases-loop-span
decreases-loop-span l = l.span
