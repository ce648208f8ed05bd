use Rattle.std.proofs.Common.{◌≡◌, ◌+◌, ◌*◌, length}
use Rattle.key_switch.proofs.tests.draw_key.Given as goal

abbrev pub invariant-loop-i : goal.invariant-loop-i
invariant-loop-i g l = record {
  set : l.key.set ≡ l.initial.key.set;
  kind : l.key.kind ≡ l.initial.key.kind;
  element : l.key.element ≡ l.initial.key.element;
  scratch : length l.scratch ≡ length l.initial.scratch;
  digit : length l.digit ≡ 2 * (l.level + 1);
}
