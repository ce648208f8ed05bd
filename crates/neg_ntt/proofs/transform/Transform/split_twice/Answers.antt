use Rattle.std.proofs.Common.{◌≡◌, ◌+◌, ◌*◌, ◌^◌, ◌≤◌, ◌<◌, length, arith, subst, ◌∙◌}
use Rattle.lane_rows.specs.Butterflies.{IsButterfly}
use Rattle.neg_ntt.specs.Butterflies.{ByMiddleRow, EachBlock}
use Rattle.neg_ntt.specs.Parameters.{layer_root}
use Rattle.neg_ntt.specs.Roots.{factor_at}
use Rattle.neg_ntt.proofs.PowersReversed.{EachBlock-layer}
use Rattle.neg_ntt.proofs.Steps.{layer_row, log_limit, two_quarters}
use Rattle.neg_ntt.proofs.transform.Transform.split_twice.Goals as goal

pub overflow_add-next : goal.overflow_add-next
overflow_add-next g c =
    let t = c.args.self.now in
    let parameters = c.modulus.ensures.parameters in
    let limit = log_limit t.log_degree (subst (λ n. n ≤ 32768) parameters.power parameters.to_limit) in
    let below : c.args.s + 1 < t.log_degree = c.requires.layers in
    omega (arith, limit, below)

pub forward_two_layers-requires-clause-blocks : goal.forward_two_layers-requires-clause-blocks
forward_two_layers-requires-clause-blocks g c =
    let t = c.args.self.now in
    let half = c.layer_half.result in
    let below : c.args.s < t.log_degree = (let l = c.requires.layers in omega arith) in
    let row = layer_row g.row.N t.log_degree c.args.s (length c.layer_roots-outer.result.now) (2 * half) (length c.args.row.now) c.requires.len
    c.modulus.ensures.parameters.power below c.layer_roots-outer.ensures.len (two_quarters t.log_degree c.args.s half c.requires.layers c.layer_half.ensures) in
    let four : 2 * (2 * half) ≡ 4 * half = omega arith in
    subst (λ width. length c.args.row.now ≡ length c.layer_roots-outer.result.now * width) four row

pub returns-clause-layers : goal.returns-clause-layers
returns-clause-layers g c =
    let t = c.args.self.now in
    let s = c.args.s in
    let half = c.layer_half.result in
    let outer = c.layer_roots-outer.result.now in
    let inner = c.layer_roots-inner.result.now in
    let old = c.args.row.now in
    let new = c.forward_two_layers.new.row in
    let modulus : c.value-q.result ≡ t.modulus = c.value-q.ensures.value ∙ c.modulus.ensures.value in
    let layers = subst (λ q. ByMiddleRow (EachBlock (λ i. IsButterfly q (factor_at outer i).w) (length outer) (2 * half)) (EachBlock (λ i. IsButterfly q (factor_at inner i).w) (length inner) half) old new) modulus c.forward_two_layers.ensures.layers in
    record {
      middle = layers.middle;
      first = subst (λ h. EachBlock (λ i. IsButterfly t.modulus (layer_root t.root t s i)) (2 ^ s) h old layers.middle) (two_quarters t.log_degree s half c.requires.layers c.layer_half.ensures)
          (EachBlock-layer t t.root s outer c.layer_roots-outer.ensures (IsButterfly t.modulus) (2 * half) old layers.middle layers.first);
      second = subst (λ h. EachBlock (λ i. IsButterfly t.modulus (layer_root t.root t (s + 1) i)) (2 ^ (s + 1)) h layers.middle new) c.layer_half.ensures
          (EachBlock-layer t t.root (s + 1) inner c.layer_roots-inner.ensures (IsButterfly t.modulus) half layers.middle new layers.second);
    }
