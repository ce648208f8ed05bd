use Rattle.std.proofs.Common.{◌≡◌}
use Rattle.key_switch.proofs.tests.put_digit.Given as goal

abbrev pub invariant-loop-r : goal.invariant-loop-r
invariant-loop-r g l = record { set : l.key.set ≡ l.initial.key.set; kind : l.key.kind ≡ l.initial.key.kind; element : l.key.element ≡ l.initial.key.element }
