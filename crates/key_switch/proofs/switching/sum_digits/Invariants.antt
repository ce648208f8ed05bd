use Rattle.std.proofs.Common.{◌≡◌, ◌+◌}
use Rattle.key_switch.specs.Providers.{Digits, Keeps}
use Rattle.key_switch.specs.Sums.{AreDigitSums, AreSumsOf}
use Rattle.key_switch.proofs.switching.sum_digits.Given as goal

abbrev pub invariant-loop-i : goal.invariant-loop-i
invariant-loop-i g l =
    let keys = g.K.Keys in
    record {
      keeps : Keeps (keys.state l.initial.keys) (keys.state l.keys);
      last : (keys.state l.keys).last ≡ (keys.state l.initial.keys).last;
      origin : keys.origin l.keys ≡ keys.origin l.initial.keys;
      tells : (digits : Digits) → keys.Tells l.initial.keys digits → keys.Tells l.keys digits;
      small : AreSumsOf g.row.N (l.ctx.level + 1) l.i l.sums;
      sums : (digits : Digits) → keys.Tells l.initial.keys digits → AreDigitSums g.row.N l.ctx l.part.rows.now (digits l.kind l.element) l.i l.sums;
    }
