use Rattle.std.proofs.Common.{◌≡◌, ◌*◌, ◌%◌, ◌^◌, ◌<◌}
use Rattle.word_mod.proofs.Modulus.pow.Given as goal

abbrev pub invariant-loop-left : goal.invariant-loop-left
invariant-loop-left l = record {
  power_below : l.power < l.self;
  square_below : l.square < l.self;
  whole : l.power * l.square ^ l.left % l.self ≡ l.fn.a ^ l.fn.e % l.self;
}

abbrev pub decreases-loop-left : goal.decreases-loop-left
decreases-loop-left l = l.left
