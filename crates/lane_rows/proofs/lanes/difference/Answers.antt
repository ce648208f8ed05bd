use Rattle.std.proofs.Common.{ℕ, ◌≡◌, ◌≤◌, ◌<◌, ◌+◌, ◌-◌, ◌%◌, ◌^◌, get_or, arith, Fits, w64}
use Rattle.lane_rows.proofs.LaneLists.{HasLanes-zip2, lane_fits}
use Rattle.lane_rows.proofs.lanes.difference.Goals as goal

no_wrap : (x y : ℕ) → Fits w64 x → y ≤ x → (x + (2 ^ 64 - y)) % 2 ^ 64 ≡ x - y
no_wrap x y fits le =
    let small : x < 2 ^ 64 = fits.fits in
    omega arith

pub returns : goal.returns
returns c = HasLanes-zip2 _ c.args.x c.args.y _ c.fits-x.0 c.fits-y.0
    (λ i h. no_wrap (get_or c.args.x i 0) (get_or c.args.y i 0) (lane_fits c.args.x c.fits-x.0 c.fits-x.1 i h) (c.requires i h))
