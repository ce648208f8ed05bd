use Rattle.std.proofs.Common.{◌≡◌, ℕ, ◌*◌, ◌%◌, ◌<◌, ◌≤◌}
use Rattle.std.specs.Int.{IsGcd}
use Rattle.word_mod.proofs.Modulus.inverse.Given as goal

abbrev pub invariant-loop-rest : goal.invariant-loop-rest
invariant-loop-rest l = record {
  divisor_at_most : l.divisor ≤ l.q;
  rest_below : l.rest < l.q;
  divisor_factor_below : l.divisor_factor < l.q;
  rest_factor_below : l.rest_factor < l.q;
  divisor_is : l.divisor_factor * l.fn.a % l.q ≡ l.divisor % l.q;
  rest_is : l.rest_factor * l.fn.a % l.q ≡ l.rest % l.q;
  divisors : (g : ℕ) → IsGcd l.divisor l.rest g → IsGcd l.fn.a l.q g;
}

abbrev pub decreases-loop-rest : goal.decreases-loop-rest
decreases-loop-rest l = l.rest
