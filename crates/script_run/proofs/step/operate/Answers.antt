use Rattle.std.proofs.Common.{rules, length, slice_index}
use Rattle.script_run.specs.Premises.{no_digits}
use Rattle.script_run.specs.Steps.{other_at}
use Rattle.script_run.proofs.Results.{add_result, sub_result, neg_result, mul_const_result, add_plain_result, sub_plain_result, mul_plain_result, multiply_result, square_result}
use Rattle.script_run.proofs.step.operate.Goals as goal

pub returns-in-Add-clause-carries : goal.returns-in-Add-clause-carries
returns-in-Add-clause-carries g c =
    add_result g.row.N c.args.ctx.now no_digits c.args.plains.now (λ r. other_at c.args.front.now c.args.back.now (slice_index c.args.plan.now r))
    c.other.result.now c.add.new.out c.args.op c.in-Add.a c.other.ensures
    c.other-in-Add.result.now c.in-Add.b c.in-Add.is c.other-in-Add.ensures c.add.ensures.sum

pub returns-in-Sub-clause-carries : goal.returns-in-Sub-clause-carries
returns-in-Sub-clause-carries g c =
    sub_result g.row.N c.args.ctx.now no_digits c.args.plains.now (λ r. other_at c.args.front.now c.args.back.now (slice_index c.args.plan.now r))
    c.other-in-Sub.result.now c.sub.new.out c.args.op c.in-Sub.a c.other-in-Sub.ensures
    c.other-in-Sub-2.result.now c.in-Sub.b c.in-Sub.is c.other-in-Sub-2.ensures c.sub.ensures.difference

pub returns-in-Neg-clause-carries : goal.returns-in-Neg-clause-carries
returns-in-Neg-clause-carries g c =
    neg_result g.row.N c.args.ctx.now no_digits c.args.plains.now (λ r. other_at c.args.front.now c.args.back.now (slice_index c.args.plan.now r))
    c.other-in-Neg.result.now c.neg.new.out c.args.op c.in-Neg.a c.other-in-Neg.ensures c.in-Neg.is c.neg.ensures.negative

pub returns-in-MulConst-clause-carries : goal.returns-in-MulConst-clause-carries
returns-in-MulConst-clause-carries g c =
    mul_const_result g.row.N c.args.ctx.now no_digits c.args.plains.now (λ r. other_at c.args.front.now c.args.back.now (slice_index c.args.plan.now r))
    c.other-in-MulConst.result.now c.mul_const.new.out c.args.op c.in-MulConst.a c.other-in-MulConst.ensures
    c.in-MulConst.k c.in-MulConst.is c.mul_const.ensures.multiple

pub returns-in-AddPlain-clause-carries : goal.returns-in-AddPlain-clause-carries
returns-in-AddPlain-clause-carries g c =
    add_plain_result g.row.N c.args.ctx.now no_digits c.args.plains.now (λ r. other_at c.args.front.now c.args.back.now (slice_index c.args.plan.now r))
    c.other-in-AddPlain.result.now c.add_plain.new.out c.args.op c.in-AddPlain.a c.other-in-AddPlain.ensures
    c.in-AddPlain.p (length c.args.plan.now) c.encode.new.row c.index-plains-p.result c.in-AddPlain.is c.requires.within c.index-plains-p.is
    c.encode.ensures.slots c.add_plain.ensures.sum

pub returns-in-SubPlain-clause-carries : goal.returns-in-SubPlain-clause-carries
returns-in-SubPlain-clause-carries g c =
    sub_plain_result g.row.N c.args.ctx.now no_digits c.args.plains.now (λ r. other_at c.args.front.now c.args.back.now (slice_index c.args.plan.now r))
    c.other-in-SubPlain.result.now c.sub_plain.new.out c.args.op c.in-SubPlain.a c.other-in-SubPlain.ensures
    c.in-SubPlain.p (length c.args.plan.now) c.encode-in-SubPlain.new.row c.index-plains-p-in-SubPlain.result c.in-SubPlain.is c.requires.within c.index-plains-p-in-SubPlain.is
    c.encode-in-SubPlain.ensures.slots c.sub_plain.ensures.difference

pub returns-in-MulPlain-clause-carries : goal.returns-in-MulPlain-clause-carries
returns-in-MulPlain-clause-carries g c =
    mul_plain_result g.row.N c.args.ctx.now no_digits c.args.plains.now (λ r. other_at c.args.front.now c.args.back.now (slice_index c.args.plan.now r))
    c.other-in-MulPlain.result.now c.mul_plain.new.out c.args.op c.in-MulPlain.a c.other-in-MulPlain.ensures
    c.in-MulPlain.p (length c.args.plan.now) c.encode-in-MulPlain.new.row c.index-plains-p-in-MulPlain.result c.in-MulPlain.is c.requires.within c.requires.degree c.index-plains-p-in-MulPlain.is
    c.encode-in-MulPlain.ensures.slots c.mul_plain.ensures.product

pub returns-in-Mul-clause-carries : goal.returns-in-Mul-clause-carries
returns-in-Mul-clause-carries g c =
    square_result g.row.N c.args.ctx.now no_digits c.args.plains.now (λ r. other_at c.args.front.now c.args.back.now (slice_index c.args.plan.now r))
    c.other-in-Mul.result.now c.square.new.out c.args.op c.in-Mul.a c.other-in-Mul.ensures c.requires.degree c.requires.level
    (search rules) c.square.ensures.product

pub returns-in-Mul-2-clause-carries : goal.returns-in-Mul-2-clause-carries
returns-in-Mul-2-clause-carries g c =
    multiply_result g.row.N c.args.ctx.now no_digits c.args.plains.now (λ r. other_at c.args.front.now c.args.back.now (slice_index c.args.plan.now r))
    c.other-in-Mul-2.result.now c.multiply.new.out c.args.op c.in-Mul-2.a c.other-in-Mul-2.ensures c.requires.degree c.requires.level
    c.other-in-Mul-2-2.result.now c.in-Mul-2.b c.in-Mul-2.is c.other-in-Mul-2-2.ensures c.multiply.ensures.product
