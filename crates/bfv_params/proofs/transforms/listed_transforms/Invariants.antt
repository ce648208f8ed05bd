use Rattle.std.proofs.Common.{◌≡◌, map, take}
use Rattle.bfv_params.specs.Transforms.{transform_of}
use Rattle.bfv_params.proofs.transforms.listed_transforms.Given as goal

abbrev pub invariant-loop-modulus : goal.invariant-loop-modulus
invariant-loop-modulus g l = l.transforms.items ≡ map (transform_of l.set) (take l.modulus-index l.moduli)
