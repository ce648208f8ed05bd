use Rattle.lane_rows.proofs.ButterflyLemmas.{IsButterflyBack-from_lazy}
use Rattle.lane_rows.proofs.words.butterfly_back.Goals as goal

pub returns-clause-pair : goal.returns-clause-pair
returns-clause-pair c =
    rw c.reduce_once-sum.ensures (IsButterflyBack-from_lazy _ _ _ _ _ c.requires.y_below c.scale_lazy.ensures.congruent)
