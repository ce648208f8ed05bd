use Rattle.std.proofs.Common.{◌≡◌, ℕ, ◌*◌, ◌%◌, ◌∙◌, arith, sym, subst}
use Rattle.std.specs.Int.{IsGcd}
use Rattle.std.proofs.lemmas.Nat.{mul-mod_second}
use Rattle.ring_law.specs.Moduli.{product}
use Rattle.fast_conv.proofs.Words.{IsGcd-residue}
use Rattle.fast_conv.proofs.inverses.inverse_of_product.Goals as goal

pub unwrap-requires : goal.unwrap-requires
unwrap-requires c =
    let below = c.product_mod.ensures.below in
    let ToModulus : ℕ → Type 0 = λ a. IsGcd a c.args.p.now 1 in
    c.inverse.ensures.coprime.1 (subst ToModulus (sym c.product_mod.ensures.value) (IsGcd-residue c.args.p.now (product c.args.base.now) (omega arith) c.requires))

pub returns-clause-value : goal.returns-clause-value
returns-clause-value c =
    let found : c.unwrap.result * c.product_mod.result % c.args.p.now ≡ 1 = rw c.unwrap.ensures at c.inverse.ensures.value in
    let reduced : c.unwrap.result * (product c.args.base.now % c.args.p.now) % c.args.p.now ≡ 1 = rw c.product_mod.ensures.value at found in
    sym (mul-mod_second c.unwrap.result (product c.args.base.now) c.args.p.now) ∙ reduced
