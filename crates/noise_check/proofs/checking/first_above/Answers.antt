use Rattle.std.proofs.Common.{◌≡◌, ◌<◌, false, nat_lt, sym, ap, ◌∙◌, subst, arith, get_or, ⊎_elim}
use Rattle.std.proofs.lemmas.Bool.{cases_lt}
use Rattle.bound_num.specs.Bound.{bound_value}
use Rattle.noise_check.specs.Numbers.{numbers}
use Rattle.noise_check.proofs.BoundLists.{length-numbers, numbers_at}
use Rattle.noise_check.proofs.Firsts.{position_at, position_none}
use Rattle.noise_check.proofs.Comparisons.{greater-above}
use Rattle.noise_check.proofs.checking.first_above.Goals as goal

pub returns-then-eq : goal.returns-then-eq
returns-then-eq c =
    position_at (nat_lt (bound_value c.args.limit.m c.args.limit.e)) (numbers c.args.bounds.now) c.loop-i.i
    (let same = length-numbers c.args.bounds.now in omega arith)
    c.loop-i.invariant
    (ap (nat_lt (bound_value c.args.limit.m c.args.limit.e)) (numbers_at c.args.bounds.now c.loop-i.i c.loop-i-test.true)
    ∙ sym (greater-above _ _ _ c.cmp.ensures) ∙ sym c.eq.ensures ∙ c.if-eq.true)

pub loop-i-preserved : goal.loop-i-preserved
loop-i-preserved c = λ k below. ⊎_elim
    (λ (before : k < c.loop-i.i). c.loop-i.invariant k before)
    (λ after.
    subst (λ i. nat_lt (bound_value c.args.limit.m c.args.limit.e) (get_or (numbers c.args.bounds.now) i 0) ≡ false) (omega arith)
    (ap (nat_lt (bound_value c.args.limit.m c.args.limit.e)) (numbers_at c.args.bounds.now c.loop-i.i c.loop-i-test.true)
    ∙ sym (greater-above _ _ _ c.cmp.ensures) ∙ sym c.eq.ensures ∙ c.if-eq.false))
    (cases_lt k c.loop-i.i)

pub returns : goal.returns
returns c =
    position_none (nat_lt (bound_value c.args.limit.m c.args.limit.e)) (numbers c.args.bounds.now)
    (λ k below. c.loop-i.invariant k (let same = length-numbers c.args.bounds.now in omega arith))
