use Rattle.std.proofs.Common.{◌-◌, ℕ, ap, arith}
use Rattle.behz_decrypt.proofs.RoundedWords.{great_error_taken, small_error_taken}
use Rattle.behz_decrypt.proofs.rounding.less_error.Goals as goal

pub returns-then-error-whole-clause-value : goal.returns-then-error-whole-clause-value
returns-then-error-whole-clause-value c =
    small_error_taken c.args.plain.now c.args.gamma.now c.args.quotient c.args.error c.reduce.result c.sub.result c.requires.quotient_below
    c.requires.error_below (omega (arith, c.value-whole.ensures.value)) c.reduce.ensures.value c.sub.ensures.value

pub returns-else-error-whole-clause-value : goal.returns-else-error-whole-clause-value
returns-else-error-whole-clause-value c =
    great_error_taken c.args.plain.now c.args.gamma.now c.args.quotient c.args.error (c.value-whole.result - c.args.error)
    c.reduce-else-error-whole.result c.add.result c.requires.quotient_below c.requires.error_below (omega (arith, c.value-whole.ensures.value))
    (ap (λ (g : ℕ). g - c.args.error) c.value-whole.ensures.value) c.reduce-else-error-whole.ensures.value c.add.ensures.value
