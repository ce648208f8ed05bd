use Rattle.lane_rows.proofs.ButterflyLemmas.{IsButterfly-from_lazy}
use Rattle.lane_rows.proofs.words.butterfly.Goals as goal

pub returns-clause-pair : goal.returns-clause-pair
returns-clause-pair c =
    let product = c.scale_lazy-product.ensures in
    IsButterfly-from_lazy _ _ _ _ _ _ c.reduce_once-x.ensures product.congruent product.below
