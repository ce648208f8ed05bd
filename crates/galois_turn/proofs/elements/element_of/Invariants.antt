use Rattle.std.proofs.Common.{◌≡◌, ◌<◌, ◌%◌, ◌^◌}
use Rattle.galois_turn.proofs.elements.element_of.Given as goal

abbrev pub invariant-loop-i : goal.invariant-loop-i
invariant-loop-i l = record {
  value : l.element ≡ 3 ^ l.i % l.order;
  odd : l.element % 2 ≡ 1;
  below : l.element < l.order;
}
