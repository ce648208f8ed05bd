use Rattle.std.proofs.Common.{ap, ◌∙◌, add_comm, arith}
use Rattle.bound_num.specs.Bound.{up}
use Rattle.bound_num.proofs.Grid.{up_exponent-le, greatest_canonical}
use Rattle.bound_num.proofs.Closed.{up_value}
use Rattle.bound_num.proofs.Operations.{sum-le}
use Rattle.bound_num.proofs.Bound.add_up.Goals as goal

pub returns-then-self-other-clause-value : goal.returns-then-self-other-clause-value
returns-then-self-other-clause-value c = up_value _ _ _ c.add_ordered.ensures ∙ ap up (add_comm _ _)

pub returns-then-self-other-clause-exponent : goal.returns-then-self-other-clause-exponent
returns-then-self-other-clause-exponent c =
    let most = up_exponent-le _ _ _ _ _ c.add_ordered.ensures (greatest_canonical _) (sum-le c.args.other.m c.args.other.e c.args.self.m c.args.self.e c.requires.other_canonical.word c.requires.canonical.word) in
    omega arith

pub returns-else-self-other-clause-value : goal.returns-else-self-other-clause-value
returns-else-self-other-clause-value c = up_value _ _ _ c.add_ordered-else-self-other.ensures

pub returns-else-self-other-clause-exponent : goal.returns-else-self-other-clause-exponent
returns-else-self-other-clause-exponent c = up_exponent-le _ _ _ _ _ c.add_ordered-else-self-other.ensures (greatest_canonical _) (sum-le _ _ _ _ c.requires.canonical.word c.requires.other_canonical.word)
