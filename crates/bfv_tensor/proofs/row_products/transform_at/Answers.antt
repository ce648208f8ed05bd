use Rattle.std.proofs.Common.{arith}
use Rattle.bfv_tensor.proofs.ProductModuli.{listed_behind, listed_first}
use Rattle.bfv_tensor.proofs.row_products.transform_at.Goals as goal

pub returns-then-i-count : goal.returns-then-i-count
returns-then-i-count g c =
    listed_first c.args.ctx.now c.data_transforms-transforms.result.now c.args.i c.index-transforms-i.result c.data_transforms-transforms.ensures.value c.if-i-count.true c.index-transforms-i.is

pub returns-else-i-count : goal.returns-else-i-count
returns-else-i-count g c =
    listed_behind c.args.ctx.now c.data_transforms-transforms.result.now c.aux_transforms.result.now c.args.i c.index-aux_transforms-i.result
    c.data_transforms-transforms.ensures.value c.aux_transforms.ensures c.if-i-count.false (omega (arith, c.data_transforms-transforms.ensures.count)) c.index-aux_transforms-i.is
