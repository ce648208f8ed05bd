use Rattle.std.proofs.Common.{◌/◌, ◌<◌, ◌^◌, arith, ℕ, sym, subst}
use Rattle.word_mod.proofs.Shift.{IsShift-of, power_fits, short_ratio_fits}
use Rattle.word_mod.proofs.Modulus.new.Goals as goal

pub overflow_sub-shift : goal.overflow_sub-shift
overflow_sub-shift c = (IsShift-of c.args.q (omega arith) (omega arith)).zeros

pub overflow_cast-result-4 : goal.overflow_cast-result-4
overflow_cast-result-4 c =
    let fits = short_ratio_fits c.args.q (omega arith) (omega arith) in
    let word = subst (λ (p : ℕ). p / c.args.q < 2 ^ 64) (sym (power_fits c.args.q (omega arith) (omega arith))) fits in
    omega (arith, word)
