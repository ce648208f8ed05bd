use Rattle.std.proofs.Common.{rules, ◌≡◌, refl, ◌+◌, ◌*◌, ◌%◌, ◌^◌, ◌<◌, ◌∙◌, arith, ap, [], ◌∷◌, mod-lt}
use Rattle.std.proofs.lemmas.List.{length-append}
use Rattle.std.proofs.lemmas.List.Elements.{All-from_get_or}
use Rattle.std.proofs.lemmas.Nat.{mul-mod_second}
use Rattle.word_mod.specs.Moduli.{IsModulus}
use Rattle.ring_law.specs.Moduli.{product_of_others}
use Rattle.fast_conv.proofs.Lists.{each_pushed}
use Rattle.fast_conv.proofs.outputs.OutputRow.new.Goals as goal

pub loop-i-preserved : goal.loop-i-preserved
loop-i-preserved c = rw c.in_ok-push.ensures.items (record {
  count = length-append c.loop-i.factors.items (c.mul.result ∷ []) ∙ ap (λ n. n + 1) c.loop-i.invariant.count;
  value = each_pushed (λ i f. f ≡ c.args.constants.scale * product_of_others c.args.base.now i % c.args.modulus) c.loop-i.factors.items c.mul.result 0 c.loop-i.i
      c.loop-i.invariant.count c.loop-i.invariant.value
      (c.mul.ensures.value ∙ rw c.hat_mod.ensures.value (mul-mod_second c.args.constants.scale (product_of_others c.args.base.now c.loop-i.i) c.args.modulus));
})

pub invariant_of-result : goal.invariant_of-result
invariant_of-result c =
    let is : IsModulus c.args.modulus = search rules in
    let three = is.from_three in
    let word = is.below in
    record {
      modulus = is;
      few = (let few = c.len-i-end.ensures.base.few in let count = c.loop-i.invariant.count in omega arith);
      factors = All-from_get_or (λ f. f < 2 ^ 61) c.loop-i.factors.items 0 (λ i within.
          let less : c.args.constants.scale * product_of_others c.args.base.now i % c.args.modulus < c.args.modulus = mod-lt (c.args.constants.scale * product_of_others c.args.base.now i) (omega arith) in
          rw (c.loop-i.invariant.value i (rw (← c.loop-i.invariant.count) within)) (omega arith));
      last_factor = omega arith;
      added = omega arith;
    }

pub returns : goal.returns
returns c =
    let is : IsModulus c.args.modulus = search rules in
    record {
      is_modulus = is;
      same = refl;
      count = c.loop-i.invariant.count ∙ (let end = c.loop-i-test.false in let most = c.loop-i.auto.i-end in omega (arith, c.len-i-end.ensures.value));
      factors = λ i within. c.loop-i.invariant.value i (omega (arith, c.len-i-end.ensures.value));
      last = refl;
      constant = refl;
    }
