use Rattle.std.proofs.Common.{◌<◌, length, arith}
use Rattle.bfv_params.proofs.scaled.scale_rows.Goals as goal

pub scale_row-requires : goal.scale_row-requires
scale_row-requires g c =
    let place : c.loop-i.i < length c.args.base.now = omega arith in
    (omega (arith, c.requires.degree), (c.requires.degree, (place, (c.requires.small, (c.requires.coprime c.loop-i.i place, c.requires.below)))))
