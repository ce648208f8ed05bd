use Rattle.std.proofs.Common.{length}
use Rattle.neg_ntt.proofs.Steps.{layer_row}
use Rattle.neg_ntt.proofs.transform.Transform.split_blocks.Goals as goal

pub forward_layer-requires-clause-blocks : goal.forward_layer-requires-clause-blocks
forward_layer-requires-clause-blocks g c =
    layer_row g.row.N c.args.self.now.log_degree c.args.s (length c.layer_roots.result.now) c.layer_half.result (length c.args.row.now) c.requires.len
    c.modulus.ensures.parameters.power c.requires.layer c.layer_roots.ensures.len c.layer_half.ensures
