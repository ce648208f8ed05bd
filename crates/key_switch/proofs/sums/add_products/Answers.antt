use Rattle.std.proofs.Common.{◌≡◌, ℕ, ◌+◌, ◌*◌, ◌^◌, ◌<◌, subst, sym, arith, slice_index}
use Rattle.key_switch.proofs.sums.add_products.Goals as goal

pub overflow_add-sum-in-loop-k : goal.overflow_add-sum-in-loop-k
overflow_add-sum-in-loop-k g c =
    let k : ℕ = c.loop-k.k in
    let room = c.requires.room k (omega arith) in
    let high : slice_index c.loop-k.high k ≡ slice_index c.args.high.now k = c.loop-k.invariant.rest_high k 0 (omega arith) in
    let low : slice_index c.loop-k.low k ≡ slice_index c.args.low.now k = c.loop-k.invariant.rest_low k 0 (omega arith) in
    let sum : slice_index c.loop-k.high k * 2 ^ 64 + slice_index c.loop-k.low k + slice_index c.args.a.now k * slice_index c.args.b.now k < 2 ^ 128
    = subst (λ h. h * 2 ^ 64 + slice_index c.loop-k.low k + slice_index c.args.a.now k * slice_index c.args.b.now k < 2 ^ 128) (sym high)
    (subst (λ l. slice_index c.args.high.now k * 2 ^ 64 + l + slice_index c.args.a.now k * slice_index c.args.b.now k < 2 ^ 128) (sym low) room) in
    omega (arith, sum)
