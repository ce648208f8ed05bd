use Rattle.std.proofs.Common.{◌<◌, pos, arith}
use Rattle.behz_decrypt.proofs.RoundedWords.{divided_is, quotient_is}
use Rattle.behz_decrypt.proofs.rounding.Rounding.rounded.Goals as goal

pub returns-clause-rounded : goal.returns-clause-rounded
returns-clause-rounded c = λ q y constants in_plain in_gamma.
    let s = c.args.self.now in
    let t_positive : 0 < s.plain = omega (arith, c.mul_factor-quotient.ensures.below) in
    let g_positive : 0 < s.gamma = omega (arith, c.mul_factor-error.ensures.below) in
    record {
      in_plain = pos c.mul_factor-quotient.result;
      in_gamma = pos c.mul_factor-error.result;
      gamma_inverse = pos s.gamma_inverse.w;
      in_plain_is = quotient_is s.plain q s.plain_factor.w c.args.in_plain c.mul_factor-quotient.result y t_positive constants.plain_factor_is
          in_plain c.mul_factor-quotient.ensures.value;
      in_gamma_is = quotient_is s.gamma q s.gamma_factor.w c.args.in_gamma c.mul_factor-error.result y g_positive constants.gamma_factor_is
          in_gamma c.mul_factor-error.ensures.value;
      gamma_inverse_is = constants.gamma_inverse_is;
      word_is = divided_is s.plain c.less_error-exact.result s.gamma_inverse.w c.mul_factor.result _ t_positive c.less_error-exact.ensures.value
          c.mul_factor.ensures.value;
    }
