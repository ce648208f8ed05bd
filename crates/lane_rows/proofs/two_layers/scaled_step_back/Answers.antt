use Rattle.std.proofs.Common.{ℕ, ◌*◌, ◌<◌, arith}
use Rattle.lane_rows.specs.Butterflies.{IsButterflyBack, IsScaledButterflyBack, TwoLayersBack}
use Rattle.lane_rows.proofs.Fours.{FourAt-set, FourBelow-set, four_set_below, four_set_others}
use Rattle.lane_rows.proofs.two_layers.scaled_step_back.Goals as goal

pub returns-clause-layers : goal.returns-clause-layers
returns-clause-layers c =
    FourAt-set c.args.block.now c.args.quarter c.args.i c.scaled_butterfly_back-new_a.result.0 c.scaled_butterfly_back-new_b.result.0 c.scaled_butterfly_back-new_a.result.1 c.scaled_butterfly_back-new_b.result.1 c.requires.quarters c.requires.inside
    (TwoLayersBack (IsScaledButterflyBack c.args.q c.args.scale.w c.args.outer.w) (IsButterflyBack c.args.q c.args.first.w) (IsButterflyBack c.args.q c.args.second.w))
    (record {
      middle_a = c.butterfly_back-a.result.0;
      middle_b = c.butterfly_back-a.result.1;
      middle_c = c.butterfly_back-c.result.0;
      middle_d = c.butterfly_back-c.result.1;
      first_half = c.butterfly_back-a.ensures.pair;
      second_half = c.butterfly_back-c.ensures.pair;
      outer_a = c.scaled_butterfly_back-new_a.ensures.pair;
      outer_b = c.scaled_butterfly_back-new_b.ensures.pair;
    })

pub returns-clause-reduced : goal.returns-clause-reduced
returns-clause-reduced c =
    FourBelow-set c.args.block.now c.args.quarter c.args.i c.scaled_butterfly_back-new_a.result.0 c.scaled_butterfly_back-new_b.result.0 c.scaled_butterfly_back-new_a.result.1 c.scaled_butterfly_back-new_b.result.1 c.requires.quarters c.requires.inside
    c.args.q c.scaled_butterfly_back-new_a.ensures.sum_below c.scaled_butterfly_back-new_b.ensures.sum_below c.scaled_butterfly_back-new_a.ensures.difference_below c.scaled_butterfly_back-new_b.ensures.difference_below

pub returns-clause-below : goal.returns-clause-below
returns-clause-below c =
    let more : (x : ℕ) → x < c.args.q → x < 2 * c.args.q = λ x l. omega arith in
    four_set_below c.args.block.now c.args.quarter c.args.i c.scaled_butterfly_back-new_a.result.0 c.scaled_butterfly_back-new_b.result.0 c.scaled_butterfly_back-new_a.result.1 c.scaled_butterfly_back-new_b.result.1 c.requires.quarters c.requires.inside
    (2 * c.args.q) c.requires.below (more _ c.scaled_butterfly_back-new_a.ensures.sum_below) (more _ c.scaled_butterfly_back-new_b.ensures.sum_below) (more _ c.scaled_butterfly_back-new_a.ensures.difference_below) (more _ c.scaled_butterfly_back-new_b.ensures.difference_below)

pub returns-clause-others : goal.returns-clause-others
returns-clause-others c = four_set_others c.args.block.now c.args.quarter c.args.i c.scaled_butterfly_back-new_a.result.0 c.scaled_butterfly_back-new_b.result.0 c.scaled_butterfly_back-new_a.result.1 c.scaled_butterfly_back-new_b.result.1 c.requires.quarters c.requires.inside
