use Rattle.std.proofs.Common.{◌≡◌, ℕ, ◌+◌, ◌-◌, ◌*◌, length, refl, arith, subst}
use Rattle.lane_rows.specs.Butterflies.{EachFour, IsButterflyBack, IsScaledButterflyBack, TwoLayersBack}
use Rattle.neg_ntt.specs.Roots.{factor_at, negative_from_last}
use Rattle.neg_ntt.proofs.MiddleRows.{ByMiddleRow-fours_back, EachPart-one}
use Rattle.neg_ntt.proofs.layers.inverse_last_two_layers.Goals as goal

pub returns-clause-layers : goal.returns-clause-layers
returns-clause-layers c =
    let inner = c.args.inner.now in
    let four : ℕ → ℕ → Type 0 = λ u v.
    EachFour (TwoLayersBack (IsScaledButterflyBack c.args.q c.args.scale.now.w c.args.outer.now.w) (IsButterflyBack c.args.q (c.args.q - (factor_at inner u).w))
    (IsButterflyBack c.args.q (c.args.q - (factor_at inner v).w))) c.args.quarter c.args.row.now c.scaled_butterflies_back_twice.new.block in
    let last : 1 ≡ length inner - 1 - 0 = omega (arith, c.requires.two) in
    let first : 0 ≡ length inner - 1 - 1 = omega (arith, c.requires.two) in
    let told = rw (c.root_of.ensures.w, c.root_of-2.ensures.w, c.negative_of-first.ensures.w, c.negative_of-second.ensures.w)
    at c.scaled_butterflies_back_twice.ensures.layers in
    let layers = subst (λ v. four (length inner - 1 - 0) v) first (subst (λ u. four u 0) last told) in
    ByMiddleRow-fours_back (λ i. IsScaledButterflyBack c.args.q c.args.scale.now.w c.args.outer.now.w) (λ i. IsButterflyBack c.args.q (negative_from_last c.args.q c.args.inner.now i))
    1 2 c.args.quarter c.args.row.now c.scaled_butterflies_back_twice.new.block refl
    (EachPart-one
    (λ i. EachFour (TwoLayersBack (IsScaledButterflyBack c.args.q c.args.scale.now.w c.args.outer.now.w) (IsButterflyBack c.args.q (negative_from_last c.args.q c.args.inner.now (2 * i)))
    (IsButterflyBack c.args.q (negative_from_last c.args.q c.args.inner.now (2 * i + 1)))) c.args.quarter)
    (4 * c.args.quarter) c.args.row.now c.scaled_butterflies_back_twice.new.block c.requires.quarters (omega arith) layers)
