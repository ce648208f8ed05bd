use Rattle.std.proofs.Common.{◌-◌, ap, ◌∙◌, arith}
use Rattle.bound_num.proofs.Digits.{bit_length-le, sub-leading_zeros}
use Rattle.bound_num.proofs.excess_digits.Goals as goal

pub returns-clause-value : goal.returns-clause-value
returns-clause-value c = c.saturating_sub.ensures ∙ ap (λ k. k - 32) (sub-leading_zeros c.args.n c.ranges.n.fits)

pub returns-clause-most : goal.returns-clause-most
returns-clause-most c =
    let digits = sub-leading_zeros c.args.n c.ranges.n.fits in
    let most = bit_length-le c.args.n 128 c.ranges.n.fits in
    omega (arith, c.saturating_sub.ensures)
