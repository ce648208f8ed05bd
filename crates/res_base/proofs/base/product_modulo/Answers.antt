use Rattle.std.proofs.Common.{◌≡◌, ℕ, ◌+◌, ◌∙◌, arith, slice_index}
use Rattle.std.proofs.lemmas.List.{get_or_default}
use Rattle.res_base.proofs.Products.{product_empty, product_mod-next}
use Rattle.res_base.proofs.base.product_modulo.Goals as goal

pub loop-q-init : goal.loop-q-init
loop-q-init c = record {
  value = rw product_empty c.reduce-so_far.ensures.value;
  below = c.reduce-so_far.ensures.below;
}

pub loop-q-preserved : goal.loop-q-preserved
loop-q-preserved c =
    let i : ℕ = c.loop-q.q-index in
    let m : ℕ = c.args.m.now in
    let item : c.value.result ≡ slice_index c.args.moduli.now i =
    c.value.ensures.value ∙ c.q-item.is ∙ get_or_default c.args.moduli.now i c.q-item.result 0 (omega arith) in
    record {
      value = rw (c.mul-so_far.ensures.value, c.reduce.ensures.value, item, c.loop-q.invariant.value) (product_mod-next c.args.moduli.now m i (i + 1) (omega arith) (omega arith));
      below = c.mul-so_far.ensures.below;
    }
