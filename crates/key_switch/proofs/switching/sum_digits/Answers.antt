use Rattle.std.proofs.Common.{ℕ, ◌+◌, arith, refl}
use Rattle.key_switch.proofs.ZeroSums.{AreDigitSums-zero, AreSumsOf-zero}
use Rattle.key_switch.proofs.switching.sum_digits.Goals as goal

pub loop-i-init : goal.loop-i-init
loop-i-init g c =
    let n : ℕ = g.row.N in
    let level : ℕ = c.args.ctx.now.level in record {
      keeps = record { set = refl; pairs = refl; faults = omega arith };
      last = refl;
      origin = refl;
      tells = λ digits told. told;
      small = AreSumsOf-zero n (level + 1) c.args.sums.now c.requires.count c.requires.zero;
      sums = λ digits told. AreDigitSums-zero n c.args.ctx.now c.args.part.rows.now (digits c.args.kind c.args.element) c.args.sums.now c.requires.count c.requires.zero;
    }
