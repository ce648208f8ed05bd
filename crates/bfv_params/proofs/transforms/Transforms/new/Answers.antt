use Rattle.std.proofs.Common.{All, Contains, sym, subst, ◌∙◌, arith}
use Rattle.set_table.specs.Sets.{transform_moduli_of}
use Rattle.bfv_params.proofs.Tables.{key_listed, plain_listed, wide_listed}
use Rattle.bfv_params.proofs.transforms.Transforms.new.Goals as goal

pub listed_transforms-requires : goal.listed_transforms-requires
listed_transforms-requires g c =
    (omega arith, (c.requires.degree, subst (All (Contains (transform_moduli_of c.args.set))) (sym (c.deref.ensures.value ∙ c.requires.moduli.keys_are)) (key_listed c.args.set _)))

pub listed_transforms-requires-2 : goal.listed_transforms-requires-2
listed_transforms-requires-2 g c =
    (omega arith, (c.requires.degree, subst (All (Contains (transform_moduli_of c.args.set))) (sym (c.deref-2.ensures.value ∙ c.requires.moduli.wide_is)) (wide_listed c.args.set)))

pub listed_transform-requires : goal.listed_transform-requires
listed_transform-requires g c = (omega arith, (c.requires.degree, subst (Contains (transform_moduli_of c.args.set)) (sym c.requires.moduli.plain_is) (plain_listed c.args.set)))
