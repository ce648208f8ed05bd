use Rattle.std.proofs.Common.{ℕ, sym, subst}
use Rattle.std.specs.Int.{IsGcd}
use Rattle.fast_conv.proofs.dropping.KeptRow.new.Goals as goal

pub unwrap-inverse-requires : goal.unwrap-inverse-requires
unwrap-inverse-requires c =
    let ToModulus : ℕ → Type 0 = λ a. IsGcd a c.args.modulus 1 in
    c.inverse.ensures.coprime.1 (subst ToModulus (sym c.value-2.ensures.value) c.requires)
