use Rattle.std.proofs.Common.{◌≡◌, ℕ, suc, ◌+◌, ◌-◌, ◌%◌, ◌^◌, ◌<◌, [], ◌∷◌, ◌++◌, arith, ap, sym, subst, ◌∙◌}
use Rattle.neg_ntt.specs.Roots.{ArePowersReversed}
use Rattle.neg_ntt.proofs.PowersReversed.{ArePowersReversed-one, ArePowersReversed-twice, power_in_word}
use Rattle.neg_ntt.proofs.roots.powers_reversed.Goals as goal

pub loop-digits-init : goal.loop-digits-init
loop-digits-init c =
    let q = c.args.m.now in
    let k = c.args.log_degree in
    let items : c.push.new.self.items ≡ c.factor.result ∷ [] = c.in_ok-push.ensures.items ∙ ap (λ xs. xs ++ c.factor.result ∷ []) c.in_ok-powers.ensures.items in
    let none : 0 ≡ k - k = omega arith in
    record {
      within = omega arith;
      powers = subst (λ xs. ArePowersReversed q k c.args.x (2 ^ (k - k)) xs) (sym items)
          (subst (λ e. ArePowersReversed q k c.args.x (2 ^ e) (c.factor.result ∷ [])) none
          (ArePowersReversed-one q k c.args.x c.reduce.result c.factor.result c.reduce.ensures.value c.factor.ensures.w c.factor.ensures.shoup));
    }

pub loop-digits-preserved : goal.loop-digits-preserved
loop-digits-preserved c =
    let q = c.args.m.now in
    let k = c.args.log_degree in
    let x = c.args.x in
    let d : ℕ = c.loop-digits.digits - 1 in
    let s : ℕ = k - c.loop-digits.digits in
    let after = c.in_ok-append_products.ensures in
    let digits : d + suc s ≡ k = omega (arith, c.loop-digits.invariant.within) in
    let next : suc s ≡ k - d = omega (arith, c.loop-digits.invariant.within) in
    let small : d < 64 = omega (arith, c.loop-digits.invariant.within) in
    let is_power = c.pow.ensures.value ∙ ap (λ e. x ^ e % q) (power_in_word d small) in
    record {
      within = omega (arith, c.loop-digits.invariant.within);
      powers = subst (λ e. ArePowersReversed q k x (2 ^ e) c.append_products.new.factors.items) next
          (ArePowersReversed-twice q k x d s c.pow.result c.loop-digits.powers.items c.append_products.new.factors.items digits is_power
          c.loop-digits.invariant.powers after.len after.kept after.products);
    }
