use Rattle.std.proofs.Common.{◌≡◌, ℕ, ◌+◌, ◌-◌, ◌*◌, ◌/◌, ◌%◌, ◌<◌, arith, ap, sym, ◌∙◌, div-add-mod'}
use Rattle.std.proofs.Math.Nat.{mul-div_left, mul-mod_left}
use Rattle.set_table.specs.Sets.{m_tilde}
use Rattle.fast_conv.proofs.lift.negative_inverse_mod_m_tilde.Goals as goal

-- v * M - 1 is divisible by q, and one more than it by M
divided : (v q M : ℕ) → 0 < q → v * M % q ≡ 1 → ((v * M - 1) / q * q + 1) % M ≡ 0
divided v q M positive one =
    ap (λ n. (n / q * q + 1) % M) less ∙ ap (λ n. (n * q + 1) % M) (mul-div_left (v * M / q) positive) ∙ ap (λ n. n % M) more ∙ mul-mod_left v M
  where
    more : v * M / q * q + 1 ≡ v * M
    more = ap (λ r. v * M / q * q + r) (sym one) ∙ div-add-mod' (v * M) q

    less : v * M - 1 ≡ v * M / q * q
    less = let e = more in omega arith

pub returns-clause-value : goal.returns-clause-value
returns-clause-value c =
    let three = c.value.ensures.modulus.from_three in
    rw c.value.ensures.value (divided c.inverse_of_m_tilde.result c.args.q m_tilde (omega arith) c.inverse_of_m_tilde.ensures.value)
