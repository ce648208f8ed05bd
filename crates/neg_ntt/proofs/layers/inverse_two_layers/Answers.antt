use Rattle.std.proofs.Common.{ℕ, ◌*◌, length, sym, subst}
use Rattle.lane_rows.specs.Butterflies.{IsButterflyBack}
use Rattle.neg_ntt.specs.Butterflies.{ByMiddleRow, EachBlock}
use Rattle.neg_ntt.specs.Roots.{negative_from_last}
use Rattle.neg_ntt.proofs.MiddleRows.{ByMiddleRow-fours_back}
use Rattle.neg_ntt.proofs.layers.inverse_two_layers.Goals as goal

pub returns-in-1-clause-layers : goal.returns-in-1-clause-layers
returns-in-1-clause-layers c =
    subst (λ (quarter : ℕ). ByMiddleRow (EachBlock (λ i. IsButterflyBack c.args.q (negative_from_last c.args.q c.args.inner.now i)) (length c.args.inner.now) quarter) (EachBlock (λ i. IsButterflyBack c.args.q (negative_from_last c.args.q c.args.outer.now i)) (length c.args.outer.now) (2 * quarter)) c.args.row.now c.inverse_blocks.new.row)
    (sym c.in-1.is)
    (ByMiddleRow-fours_back (λ i. IsButterflyBack c.args.q (negative_from_last c.args.q c.args.outer.now i)) (λ i. IsButterflyBack c.args.q (negative_from_last c.args.q c.args.inner.now i))
    (length c.args.outer.now) (length c.args.inner.now) 1 c.args.row.now c.inverse_blocks.new.row c.requires.twice_as_many c.inverse_blocks.ensures.fours)

pub returns-in-4-clause-layers : goal.returns-in-4-clause-layers
returns-in-4-clause-layers c =
    subst (λ (quarter : ℕ). ByMiddleRow (EachBlock (λ i. IsButterflyBack c.args.q (negative_from_last c.args.q c.args.inner.now i)) (length c.args.inner.now) quarter) (EachBlock (λ i. IsButterflyBack c.args.q (negative_from_last c.args.q c.args.outer.now i)) (length c.args.outer.now) (2 * quarter)) c.args.row.now c.inverse_blocks-in-4.new.row)
    (sym c.in-4.is)
    (ByMiddleRow-fours_back (λ i. IsButterflyBack c.args.q (negative_from_last c.args.q c.args.outer.now i)) (λ i. IsButterflyBack c.args.q (negative_from_last c.args.q c.args.inner.now i))
    (length c.args.outer.now) (length c.args.inner.now) 4 c.args.row.now c.inverse_blocks-in-4.new.row c.requires.twice_as_many c.inverse_blocks-in-4.ensures.fours)

pub returns-in_default-clause-layers : goal.returns-in_default-clause-layers
returns-in_default-clause-layers c =
    ByMiddleRow-fours_back (λ i. IsButterflyBack c.args.q (negative_from_last c.args.q c.args.outer.now i)) (λ i. IsButterflyBack c.args.q (negative_from_last c.args.q c.args.inner.now i))
    (length c.args.outer.now) (length c.args.inner.now) c.args.quarter c.args.row.now c.inverse_blocks-in_default.new.row c.requires.twice_as_many c.inverse_blocks-in_default.ensures.fours
