use Rattle.std.proofs.Common.{◌<◌, arith, subst}
use Rattle.neg_ntt.proofs.PowersReversed.{power_in_word}
use Rattle.neg_ntt.proofs.Steps.{IsPower-from_IsDegree, log_next}
use Rattle.neg_ntt.proofs.transform.log_of.Goals as goal

pub loop-log-init : goal.loop-log-init
loop-log-init c = let degree = IsPower-from_IsDegree c.args.n c.requires in (omega arith, omega (arith, degree.from_four), omega arith)

pub loop-log-preserved : goal.loop-log-preserved
loop-log-preserved c =
    let less = subst (λ p. p < c.args.n) (power_in_word c.loop-log.log (omega arith)) c.loop-log-test.true in
    let degree = IsPower-from_IsDegree c.args.n c.requires in
    let next = log_next c.loop-log.log c.args.n degree.log_degree degree.power degree.to_limit less in
    (next.0, next.1, omega arith)
