use Rattle.std.proofs.Common.{◌+◌, arith}
use Rattle.res_base.proofs.Products.{drop_whole, product_mod-others}
use Rattle.res_base.proofs.base.Base.hat_mod.Goals as goal

pub returns-clause-value : goal.returns-clause-value
returns-clause-value c =
    rw (c.mul.ensures.value, c.product_modulo-before.ensures.value, c.product_modulo-after.ensures.value, c.deref.ensures.value, c.deref-2.ensures.value, c.self.view_is, drop_whole c.args.self.now (c.args.i + 1))
    (product_mod-others c.args.self.now c.args.m.now c.args.i (c.args.i + 1) c.requires (omega arith))
