use Rattle.std.proofs.Common.{◌*◌, ◌/◌, ◌+◌, arith, ap, ◌∙◌, sym, drop}
use Rattle.std.proofs.lemmas.List.{drop_all}
use Rattle.set_table.specs.Sets.{data_of}
use Rattle.bound_num.specs.Bound.{bound_value, down}
use Rattle.bfv_model.proofs.Sets.{data_count_pos, data_count_lt}
use Rattle.noise_check.proofs.SetNumbers.{rounded_product, fold-drop, limit-rounded_product}
use Rattle.noise_check.proofs.sets.limit.Goals as goal

pub data_modulus-requires : goal.data_modulus-requires
data_modulus-requires c = data_count_pos c.args.set

pub loop-i-init : goal.loop-i-init
loop-i-init c =
    let product = c.down_of-product.ensures in
    let exponent = product.exponent in
    record {
      canonical = product.rounded.canonical;
      exponent = omega arith;
      value = ap (λ start. rounded_product start (drop 1 (data_of c.args.set))) (product.value ∙ ap down c.data_modulus.ensures);
    }

pub mul_down-product-requires-clause-small : goal.mul_down-product-requires-clause-small
mul_down-product-requires-clause-small c =
    let few = data_count_lt c.args.set in
    let exponent = c.loop-i.invariant.exponent in
    omega arith

pub loop-i-preserved : goal.loop-i-preserved
loop-i-preserved c =
    let product = c.mul_down-product.ensures in
    let exponent = product.exponent in
    let before = c.loop-i.invariant.exponent in
    record {
      canonical = product.rounded.canonical;
      exponent = omega arith;
      value =
          ap (λ start. rounded_product start (drop (c.loop-i.i + 1) (data_of c.args.set)))
          (product.value ∙ ap (λ q. down (bound_value c.loop-i.product.m c.loop-i.product.e * q)) c.data_modulus-in-loop-i.ensures)
          ∙ sym (fold-drop (λ start q. down (start * q)) (bound_value c.loop-i.product.m c.loop-i.product.e) (data_of c.args.set) c.loop-i.i (omega arith))
          ∙ c.loop-i.invariant.value;
    }

pub returns-clause-value : goal.returns-clause-value
returns-clause-value c =
    c.quarter.ensures.value
    ∙ ap (λ product. down (product / 4))
    (sym (ap (rounded_product (bound_value c.loop-i.product.m c.loop-i.product.e)) (drop_all c.loop-i.i (data_of c.args.set) (omega arith))) ∙ c.loop-i.invariant.value)
    ∙ sym (limit-rounded_product (data_of c.args.set) (data_count_pos c.args.set))
