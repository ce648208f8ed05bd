use Rattle.std.proofs.Common.{◌*◌}
use Rattle.lane_rows.specs.Butterflies.{IsButterfly, TwoLayers}
use Rattle.lane_rows.proofs.Fours.{FourAt-set, four_set_below, four_set_others}
use Rattle.lane_rows.proofs.two_layers.step.Goals as goal

pub returns-clause-layers : goal.returns-clause-layers
returns-clause-layers c =
    FourAt-set c.args.block.now c.args.quarter c.args.i c.butterfly-new_a.result.0 c.butterfly-new_a.result.1 c.butterfly-new_c.result.0 c.butterfly-new_c.result.1 c.requires.quarters c.requires.inside
    (TwoLayers (IsButterfly c.args.q c.args.outer.w) (IsButterfly c.args.q c.args.first.w) (IsButterfly c.args.q c.args.second.w))
    (record {
      middle_a = c.butterfly-a.result.0;
      middle_b = c.butterfly-b.result.0;
      middle_c = c.butterfly-a.result.1;
      middle_d = c.butterfly-b.result.1;
      outer_a = c.butterfly-a.ensures.pair;
      outer_b = c.butterfly-b.ensures.pair;
      first_half = c.butterfly-new_a.ensures.pair;
      second_half = c.butterfly-new_c.ensures.pair;
    })

pub returns-clause-below : goal.returns-clause-below
returns-clause-below c =
    four_set_below c.args.block.now c.args.quarter c.args.i c.butterfly-new_a.result.0 c.butterfly-new_a.result.1 c.butterfly-new_c.result.0 c.butterfly-new_c.result.1 c.requires.quarters c.requires.inside
    (4 * c.args.q) c.requires.below c.butterfly-new_a.ensures.sum_below c.butterfly-new_a.ensures.difference_below c.butterfly-new_c.ensures.sum_below c.butterfly-new_c.ensures.difference_below

pub returns-clause-others : goal.returns-clause-others
returns-clause-others c = four_set_others c.args.block.now c.args.quarter c.args.i c.butterfly-new_a.result.0 c.butterfly-new_a.result.1 c.butterfly-new_c.result.0 c.butterfly-new_c.result.1 c.requires.quarters c.requires.inside
