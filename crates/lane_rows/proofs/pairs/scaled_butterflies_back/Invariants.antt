use Rattle.std.proofs.Common.{ℕ, ◌+◌, ◌*◌, ◌<◌, get_or}
use Rattle.lane_rows.specs.Butterflies.{IsScaledButterflyBack}
use Rattle.lane_rows.proofs.Stores.{PairsTo}
use Rattle.lane_rows.proofs.pairs.scaled_butterflies_back.Given as goal

abbrev pub invariant-chunks : goal.invariant-chunks
invariant-chunks l =
    let P : ℕ → ℕ → ℕ → Type 0 = λ j x y. IsScaledButterflyBack l.q l.scale.w l.root.w (get_or l.fn.lo j 0) (get_or l.fn.hi j 0) x y × (x < l.q) × (y < l.q) in
    PairsTo P l.fn.lo l.fn.hi l.lo l.hi (4 * l.k)

abbrev pub invariant-places : goal.invariant-places
invariant-places l =
    let P : ℕ → ℕ → ℕ → Type 0 = λ j x y. IsScaledButterflyBack l.q l.scale.w l.root.w (get_or l.fn.lo j 0) (get_or l.fn.hi j 0) x y × (x < l.q) × (y < l.q) in
    PairsTo P l.fn.lo l.fn.hi l.lo l.hi (4 * l.k + l.r)

abbrev pub invariant-rest : goal.invariant-rest
invariant-rest l =
    let P : ℕ → ℕ → ℕ → Type 0 = λ j x y. IsScaledButterflyBack l.q l.scale.w l.root.w (get_or l.fn.lo j 0) (get_or l.fn.hi j 0) x y × (x < l.q) × (y < l.q) in
    PairsTo P l.fn.lo l.fn.hi l.lo l.hi l.i
