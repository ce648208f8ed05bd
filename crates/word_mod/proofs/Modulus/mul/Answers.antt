use Rattle.std.proofs.Common.{◌*◌, ◌∙◌, refl, arith}
use Rattle.word_mod.proofs.Remainder.{without_multiple}
use Rattle.word_mod.proofs.Shift.{short_quotient}
use Rattle.word_mod.proofs.Modulus.mul.Goals as goal

pub overflow_cast-upper-2 : goal.overflow_cast-upper-2
overflow_cast-upper-2 c =
    let near = short_quotient c.self.inside.q c.self.inside.shift c.self.inside.short_ratio c.args.a c.args.b _ _ c.self.invariant.0.from_three c.self.invariant.0.below c.self.invariant.2 c.self.invariant.3 (omega arith) (omega arith) refl refl in
    omega (arith, near.0)

pub overflow_sub-product : goal.overflow_sub-product
overflow_sub-product c =
    let near = short_quotient c.self.inside.q c.self.inside.shift c.self.inside.short_ratio c.args.a c.args.b _ _ c.self.invariant.0.from_three c.self.invariant.0.below c.self.invariant.2 c.self.invariant.3 (omega arith) (omega arith) refl refl in
    near.1

pub overflow_cast-product-3 : goal.overflow_cast-product-3
overflow_cast-product-3 c =
    let near = short_quotient c.self.inside.q c.self.inside.shift c.self.inside.short_ratio c.args.a c.args.b _ _ c.self.invariant.0.from_three c.self.invariant.0.below c.self.invariant.2 c.self.invariant.3 (omega arith) (omega arith) refl refl in
    omega (arith, near.1, near.2)

pub reduce_once-requires : goal.reduce_once-requires
reduce_once-requires c =
    let near = short_quotient c.self.inside.q c.self.inside.shift c.self.inside.short_ratio c.args.a c.args.b _ _ c.self.invariant.0.from_three c.self.invariant.0.below c.self.invariant.2 c.self.invariant.3 (omega arith) (omega arith) refl refl in
    omega (arith, near.1, near.2)

pub returns-clause-value : goal.returns-clause-value
returns-clause-value c =
    let near = short_quotient c.self.inside.q c.self.inside.shift c.self.inside.short_ratio c.args.a c.args.b _ _ c.self.invariant.0.from_three c.self.invariant.0.below c.self.invariant.2 c.self.invariant.3 (omega arith) (omega arith) refl refl in
    rw (← c.self.view_is) (c.reduce_once.ensures.value ∙ without_multiple (c.args.a * c.args.b) _ c.self.inside.q near.1)
