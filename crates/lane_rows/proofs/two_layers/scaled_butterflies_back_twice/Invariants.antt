use Rattle.std.proofs.Common.{ℕ, ◌+◌, ◌*◌, ◌<◌}
use Rattle.lane_rows.specs.Butterflies.{IsButterflyBack, IsScaledButterflyBack, TwoLayersBack}
use Rattle.lane_rows.proofs.Fours.{FoursDone}
use Rattle.lane_rows.proofs.two_layers.scaled_butterflies_back_twice.Given as goal

abbrev pub invariant-chunks : goal.invariant-chunks
invariant-chunks l =
    let P : ℕ → ℕ → ℕ → ℕ → ℕ → ℕ → ℕ → ℕ → Type 0 = λ a b c d x y z w. TwoLayersBack (IsScaledButterflyBack l.q l.scale.w l.outer.w) (IsButterflyBack l.q l.first.w) (IsButterflyBack l.q l.second.w) a b c d x y z w × (x < l.q) × (y < l.q) × (z < l.q) × (w < l.q) in
    FoursDone P (2 * l.q) l.quarter l.fn.block l.block (4 * l.k)

abbrev pub invariant-places : goal.invariant-places
invariant-places l =
    let P : ℕ → ℕ → ℕ → ℕ → ℕ → ℕ → ℕ → ℕ → Type 0 = λ a b c d x y z w. TwoLayersBack (IsScaledButterflyBack l.q l.scale.w l.outer.w) (IsButterflyBack l.q l.first.w) (IsButterflyBack l.q l.second.w) a b c d x y z w × (x < l.q) × (y < l.q) × (z < l.q) × (w < l.q) in
    FoursDone P (2 * l.q) l.quarter l.fn.block l.block (4 * l.k + l.r)

abbrev pub invariant-rest : goal.invariant-rest
invariant-rest l =
    let P : ℕ → ℕ → ℕ → ℕ → ℕ → ℕ → ℕ → ℕ → Type 0 = λ a b c d x y z w. TwoLayersBack (IsScaledButterflyBack l.q l.scale.w l.outer.w) (IsButterflyBack l.q l.first.w) (IsButterflyBack l.q l.second.w) a b c d x y z w × (x < l.q) × (y < l.q) × (z < l.q) × (w < l.q) in
    FoursDone P (2 * l.q) l.quarter l.fn.block l.block l.i
