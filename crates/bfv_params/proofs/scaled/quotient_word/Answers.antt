use Rattle.std.proofs.Common.{◌≡◌, ℕ, ◌*◌, ◌%◌, arith, sym, subst, ◌∙◌, ap}
use Rattle.std.specs.Int.{IsGcd}
use Rattle.bfv_params.proofs.ScaledPlaintexts.{quotient_found}
use Rattle.bfv_params.proofs.scaled.quotient_word.Goals as goal

pub unwrap-inverse-requires : goal.unwrap-inverse-requires
unwrap-inverse-requires c = c.inverse.ensures.coprime.1 (subst (λ a. IsGcd a c.args.modulus.now 1) (sym c.value.ensures.value) c.requires)

pub returns-clause-value : goal.returns-clause-value
returns-clause-value c = λ q multiple rest_is.
    let M : ℕ = c.args.modulus.now in
    let v : ℕ = c.unwrap-inverse.result in
    let inverse : v * c.args.t.now % M ≡ 1 = rw (← c.value.ensures.value) (rw c.unwrap-inverse.ensures at c.inverse.ensures.value) in
    let product : c.mul.result ≡ c.args.rest % M * v % M = c.mul.ensures.value ∙ ap (λ (x : ℕ). x * v % M) c.reduce.ensures.value in
    quotient_found q c.args.t.now M v c.args.rest c.mul.result c.neg.result (omega (arith, c.reduce.ensures.below)) multiple rest_is inverse product c.neg.ensures.value
