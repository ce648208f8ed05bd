use Rattle.std.proofs.Common.{◌≡◌, ◌+◌, ◌*◌, ◌^◌, ◌≤◌, ◌<◌, length, arith, subst, sym, ◌∙◌}
use Rattle.lane_rows.specs.Butterflies.{IsButterflyBack}
use Rattle.neg_ntt.specs.Butterflies.{ByMiddleRow, EachBlock}
use Rattle.neg_ntt.specs.Parameters.{inverse_root, layer_root}
use Rattle.neg_ntt.specs.Roots.{HaveNegatives, negative_from_last}
use Rattle.neg_ntt.proofs.InverseRoots.{EachBlock-layer_back, HaveNegatives-layer}
use Rattle.neg_ntt.proofs.Steps.{layer_row, log_limit, two_quarters}
use Rattle.neg_ntt.proofs.transform.Transform.join_twice.Goals as goal

pub overflow_add-next : goal.overflow_add-next
overflow_add-next g c =
    let t = c.args.self.now in
    let parameters = c.modulus.ensures.parameters in
    let limit = log_limit t.log_degree (subst (λ n. n ≤ 32768) parameters.power parameters.to_limit) in
    let below : c.args.s + 1 < t.log_degree = c.requires.layers in
    omega (arith, limit, below)

pub inverse_two_layers-requires-clause-outer_negatives : goal.inverse_two_layers-requires-clause-outer_negatives
inverse_two_layers-requires-clause-outer_negatives g c =
    let t = c.args.self.now in
    let modulus : c.value-q.result ≡ t.modulus = c.value-q.ensures.value ∙ c.modulus.ensures.value in
    subst (λ q. HaveNegatives q c.layer_roots-outer.result.now) (sym modulus)
    (HaveNegatives-layer g.row.N t c.modulus.ensures.parameters c.args.s c.layer_roots-outer.result.now (let l = c.requires.layers in omega arith) c.layer_roots-outer.ensures)

pub inverse_two_layers-requires-clause-inner_negatives : goal.inverse_two_layers-requires-clause-inner_negatives
inverse_two_layers-requires-clause-inner_negatives g c =
    let t = c.args.self.now in
    let modulus : c.value-q.result ≡ t.modulus = c.value-q.ensures.value ∙ c.modulus.ensures.value in
    subst (λ q. HaveNegatives q c.layer_roots-inner.result.now) (sym modulus)
    (HaveNegatives-layer g.row.N t c.modulus.ensures.parameters (c.args.s + 1) c.layer_roots-inner.result.now (let l = c.requires.layers in omega arith) c.layer_roots-inner.ensures)

pub inverse_two_layers-requires-clause-blocks : goal.inverse_two_layers-requires-clause-blocks
inverse_two_layers-requires-clause-blocks g c =
    let t = c.args.self.now in
    let half = c.layer_half.result in
    let below : c.args.s < t.log_degree = (let l = c.requires.layers in omega arith) in
    let row = layer_row g.row.N t.log_degree c.args.s (length c.layer_roots-outer.result.now) (2 * half) (length c.args.row.now) c.requires.len
    c.modulus.ensures.parameters.power below c.layer_roots-outer.ensures.len (two_quarters t.log_degree c.args.s half c.requires.layers c.layer_half.ensures) in
    let four : 2 * (2 * half) ≡ 4 * half = omega arith in
    subst (λ width. length c.args.row.now ≡ length c.layer_roots-outer.result.now * width) four row

pub returns-clause-layers : goal.returns-clause-layers
returns-clause-layers g c =
    let t = c.args.self.now in
    let s = c.args.s in
    let half = c.layer_half.result in
    let below : s + 1 < t.log_degree = c.requires.layers in
    let outer = c.layer_roots-outer.result.now in
    let inner = c.layer_roots-inner.result.now in
    let old = c.args.row.now in
    let new = c.inverse_two_layers.new.row in
    let modulus : c.value-q.result ≡ t.modulus = c.value-q.ensures.value ∙ c.modulus.ensures.value in
    let layers = subst (λ q. ByMiddleRow (EachBlock (λ i. IsButterflyBack q (negative_from_last q inner i)) (length inner) half) (EachBlock (λ i. IsButterflyBack q (negative_from_last q outer i)) (length outer) (2 * half)) old new) modulus c.inverse_two_layers.ensures.layers in
    record {
      middle = layers.middle;
      first = subst (λ h. EachBlock (λ i. IsButterflyBack t.modulus (layer_root (inverse_root g.row.N t) t (s + 1) i)) (2 ^ (s + 1)) h old layers.middle) c.layer_half.ensures
          (EachBlock-layer_back g.row.N t c.modulus.ensures.parameters (s + 1) inner below c.layer_roots-inner.ensures (IsButterflyBack t.modulus) half old layers.middle layers.first);
      second = subst (λ h. EachBlock (λ i. IsButterflyBack t.modulus (layer_root (inverse_root g.row.N t) t s i)) (2 ^ s) h layers.middle new) (two_quarters t.log_degree s half c.requires.layers c.layer_half.ensures)
          (EachBlock-layer_back g.row.N t c.modulus.ensures.parameters s outer (omega arith) c.layer_roots-outer.ensures (IsButterflyBack t.modulus) (2 * half) layers.middle new layers.second);
    }
