use Rattle.std.proofs.Common.{◌≡◌, ℕ, ◌*◌, ◌%◌, ◌∙◌, sym, subst, slice_index}
use Rattle.std.specs.Int.{IsGcd}
use Rattle.std.proofs.lemmas.Nat.{mul-mod_second}
use Rattle.std.proofs.lemmas.List.{get_or_default}
use Rattle.ring_law.specs.Moduli.{product_of_others}
use Rattle.res_base.specs.Bases.{IsBase}
use Rattle.res_base.proofs.Bases.{coprime_to_others}
use Rattle.res_base.proofs.base.Base.hat_inverse.Goals as goal

pub unwrap-requires : goal.unwrap-requires
unwrap-requires c =
    let m : ℕ = c.index.result.now in
    let others : ℕ = product_of_others c.args.self.now c.args.i in
    let within = c.requires in
    let item : m ≡ slice_index c.args.self.now c.args.i =
    rw (← c.self.view_is) (c.index.ensures ∙ get_or_default c.self.inside.moduli.items c.args.i m 0 (rw c.self.view_is within)) in
    let base : IsBase c.args.self.now = subst IsBase c.self.view_is c.self.invariant in
    let Reduced : ℕ → Type 0 = λ q. IsGcd (others % q) q 1 in
    let ToModulus : ℕ → Type 0 = λ x. IsGcd x m 1 in
    c.inverse.ensures.coprime.1 (subst ToModulus (sym c.hat_mod.ensures.value) (subst Reduced (sym item) (coprime_to_others c.args.self.now base c.args.i within)))

pub returns-clause-value : goal.returns-clause-value
returns-clause-value c =
    let m : ℕ = c.index.result.now in
    let others : ℕ = product_of_others c.args.self.now c.args.i in
    let within = c.requires in
    let item : m ≡ slice_index c.args.self.now c.args.i =
    rw (← c.self.view_is) (c.index.ensures ∙ get_or_default c.self.inside.moduli.items c.args.i m 0 (rw c.self.view_is within)) in
    let found : c.unwrap.result * c.hat_mod.result % m ≡ 1 = rw c.unwrap.ensures at c.inverse.ensures.value in
    let reduced : c.unwrap.result * (others % m) % m ≡ 1 = rw c.hat_mod.ensures.value at found in
    let Modulo : ℕ → Type 0 = λ q. c.unwrap.result * others % q ≡ 1 in
    subst Modulo item (sym (mul-mod_second c.unwrap.result others m) ∙ reduced)
