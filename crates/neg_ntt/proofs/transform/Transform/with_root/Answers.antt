use Rattle.std.proofs.Common.{◌≡◌, ℕ, suc, ◌+◌, ◌-◌, ◌*◌, ◌/◌, ◌%◌, ◌^◌, ◌<◌, arith, sym, subst, ap, ap₂, ◌∙◌}
use Rattle.word_mod.specs.Moduli.{shoup_of}
use Rattle.neg_ntt.specs.Roots.{ArePowersReversed}
use Rattle.ring_law.specs.Transform.{bit_reversal}
use Rattle.neg_ntt.proofs.PowersReversed.{first_exponent, power_in_word}
use Rattle.neg_ntt.proofs.Steps.{IsPower-from_IsDegree, power_of_half}
use Rattle.neg_ntt.proofs.transform.Transform.with_root.Goals as goal

pub invariant_of-result : goal.invariant_of-result
invariant_of-result g c =
    let q = c.args.m.now in
    let degree = IsPower-from_IsDegree g.row.N c.requires.degree in
    let k = c.log_of-log_degree.result in
    let power = c.log_of-log_degree.ensures.power in
    let half : c.pow-inverse_degree.result ≡ (q / 2 + 1) ^ k % q = c.pow-inverse_degree.ensures.value ∙ ap (λ (v : ℕ). (v / 2 + 1) ^ k % q) c.value.ensures.value in
    let small : k - 1 < 64 = omega (arith, c.log_of-log_degree.ensures.to_limit) in
    let exponent : 1 * 2 ^ (k - 1) % 2 ^ 64 ≡ 2 ^ (k - suc 0) * (2 * bit_reversal 0 0 + 1) = power_in_word (k - 1) small ∙ sym (first_exponent (2 ^ (k - 1))) in
    let last_root : c.pow-last_root.result ≡ (c.args.psi ^ (2 * g.row.N - 1) % q) ^ (2 ^ (k - suc 0) * (2 * bit_reversal 0 0 + 1)) % q =
    c.pow-last_root.ensures.value ∙ ap₂ (λ (x e : ℕ). x ^ e % q) c.pow-inverse_root.ensures.value exponent in
    record {
      parameters = record {
        modulus = c.value.ensures.modulus;
        root_below = c.requires.root_below;
        minus_one = c.requires.minus_one;
        power = power;
        from_four = degree.from_four;
        to_limit = degree.to_limit;
      };
      root_powers = subst (λ n. ArePowersReversed q k c.args.psi n c.in_ok-powers_reversed.field-0.items) (sym power) c.in_ok-powers_reversed.ensures;
      inverse_degree_is = ap (λ (w : ℕ). w * g.row.N % q) (c.factor.ensures.w ∙ half) ∙ ap (λ (n : ℕ). ((q / 2 + 1) ^ k % q) * n % q) power ∙ power_of_half q k c.value.ensures.modulus.odd c.value.ensures.modulus.from_three;
      inverse_degree_shoup = c.factor.ensures.shoup ∙ ap (shoup_of q) (sym c.factor.ensures.w);
      scaled_root_is = c.factor-2.ensures.w ∙ c.mul.ensures.value ∙ ap₂ (λ (w r : ℕ). w * r % q) (sym c.factor.ensures.w) last_root;
      scaled_root_shoup = c.factor-2.ensures.shoup ∙ ap (shoup_of q) (sym c.factor-2.ensures.w);
    }
