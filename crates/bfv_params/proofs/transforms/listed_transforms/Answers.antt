use Rattle.std.proofs.Common.{Contains, sym, subst, arith}
use Rattle.set_table.specs.Sets.{transform_moduli_of}
use Rattle.bfv_params.proofs.transforms.listed_transforms.Goals as goal

pub listed_transform-requires : goal.listed_transform-requires
listed_transform-requires g c =
    let listed = c.requires.listed c.loop-modulus.modulus-index c.modulus-item.result c.loop-modulus-test.true in
    (omega arith, (c.requires.degree, subst (Contains (transform_moduli_of c.args.set)) (sym c.modulus-item.is) listed))
