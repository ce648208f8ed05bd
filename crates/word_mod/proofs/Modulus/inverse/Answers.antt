use Rattle.std.proofs.Common.{◌≡◌, ℕ, ◌+◌, ◌-◌, ◌*◌, ◌/◌, ◌%◌, ◌<◌, true, false, arith, ap, sym, refl, ◌∙◌, subst}
use Rattle.std.specs.Int.{IsGcd}
use Rattle.std.proofs.lemmas.Nat.Gcd.{same_from_IsGcd}
use Rattle.std.proofs.Math.Nat.{mul_comm, mul-one, mod_self, mod-mod, mod-lt}
use Rattle.word_mod.proofs.Euclid.{euclid_step, divisors_first, divisors_next, divisors_last}
use Rattle.word_mod.proofs.Modulus.inverse.Goals as goal

pub loop-rest-init : goal.loop-rest-init
loop-rest-init c =
    let q : ℕ = c.self.inside.q in
    let rest : c.reduce-rest.result ≡ c.args.a % q =
    c.reduce-rest.ensures.value ∙ ap (λ (x : ℕ). c.args.a % x) (sym c.self.view_is) in
    let whole : q % q ≡ 0 = mod_self q in
    record {
      divisor_at_most = omega arith;
      rest_below = omega arith;
      divisor_factor_below = omega arith;
      rest_factor_below = omega arith;
      divisor_is = rw whole (omega arith);
      rest_is = rw (rest, mod-mod, mul_comm 1 c.args.a, mul-one) refl;
      divisors = divisors_first c.args.a q c.reduce-rest.result rest;
    }

pub loop-rest-preserved : goal.loop-rest-preserved
loop-rest-preserved c =
    let q : ℕ = c.self.inside.q in
    let divisor : ℕ = c.loop-rest.divisor in
    let rest : ℕ = c.loop-rest.rest in
    let k : ℕ = divisor / rest in
    let positive : 0 < rest = c.loop-rest-test.true in
    let split : k * rest + divisor % rest ≡ divisor = omega arith in
    let next : divisor - k * rest ≡ divisor % rest = omega arith in
    let less : divisor % rest < rest = mod-lt divisor positive in
    let next_factor : c.sub-next_factor.result ≡ (c.loop-rest.divisor_factor + (q - k * c.loop-rest.rest_factor % q)) % q =
    c.sub-next_factor.ensures.value ∙ rw (c.reduce_wide-taken.ensures.value, c.self.view_is) refl in
    record {
      divisor_at_most = omega arith;
      rest_below = omega arith;
      divisor_factor_below = omega arith;
      rest_factor_below = omega arith;
      divisor_is = c.loop-rest.invariant.rest_is;
      rest_is = euclid_step q c.args.a c.loop-rest.divisor_factor c.loop-rest.rest_factor divisor rest k (divisor - k * rest) c.sub-next_factor.result (omega arith) c.loop-rest.invariant.divisor_is c.loop-rest.invariant.rest_is (omega arith) next_factor;
      divisors = divisors_next c.args.a q divisor rest (divisor - k * rest) next c.loop-rest.invariant.divisors;
    }

pub returns-then-divisor-eq1-clause-coprime : goal.returns-then-divisor-eq1-clause-coprime
returns-then-divisor-eq1-clause-coprime c =
    let last : IsGcd c.args.a c.self.inside.q c.loop-rest.divisor =
    divisors_last c.args.a c.self.inside.q c.loop-rest.divisor c.loop-rest.rest (omega arith) c.loop-rest.invariant.divisors in
    let AtOne : ℕ → Type 0 = λ x. IsGcd c.args.a c.self.inside.q x in
    let Modulo : ℕ → Type 0 = λ x. IsGcd c.args.a x 1 in
    (λ _. subst Modulo c.self.view_is (subst AtOne c.if-divisor-eq1.true last), λ _. refl)

pub returns-else-divisor-eq1-clause-coprime : goal.returns-else-divisor-eq1-clause-coprime
returns-else-divisor-eq1-clause-coprime c =
    let last : IsGcd c.args.a c.self.inside.q c.loop-rest.divisor =
    divisors_last c.args.a c.self.inside.q c.loop-rest.divisor c.loop-rest.rest (omega arith) c.loop-rest.invariant.divisors in
    let Modulo : ℕ → Type 0 = λ x. IsGcd c.args.a x c.loop-rest.divisor in
    let differ : IsGcd c.args.a c.args.self.now 1 → ⊥ =
    λ one. c.if-divisor-eq1.false (same_from_IsGcd c.args.a c.args.self.now c.loop-rest.divisor 1 (subst Modulo c.self.view_is last) one) in
    (λ (e : false ≡ true). absurd (let wrong : ⊥ = cc in wrong), λ one. absurd (differ one))
