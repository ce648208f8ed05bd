use Rattle.std.proofs.Common.{◌≡◌, ◌+◌, ◌*◌, ◌^◌, ◌<◌, length, arith, refl, sym, subst, ap, ◌∙◌}
use Rattle.lane_rows.specs.Butterflies.{IsButterflyBack}
use Rattle.neg_ntt.specs.Butterflies.{EachBlock}
use Rattle.neg_ntt.specs.Parameters.{inverse_root, layer_root}
use Rattle.neg_ntt.specs.Roots.{HaveNegatives, negative_from_last}
use Rattle.neg_ntt.specs.Tables.{AreTables}
use Rattle.neg_ntt.proofs.InverseRoots.{EachBlock-layer_back, HaveNegatives-layer}
use Rattle.neg_ntt.proofs.Steps.{IsJoinedLast-from, layer_row, log_from_two, two_quarters}
use Rattle.neg_ntt.proofs.transform.Transform.join_last_twice.Goals as goal

pub inverse_last_two_layers-requires-clause-quarters : goal.inverse_last_two_layers-requires-clause-quarters
inverse_last_two_layers-requires-clause-quarters g c =
    let t = c.args.self.now in
    let tables = subst (λ t. AreTables g.row.N t c.self.inside.roots.items c.self.inside.inverse_degree c.self.inside.scaled_root) c.self.view_is c.self.invariant in
    let two = log_from_two g.row.N t.log_degree tables.parameters.power tables.parameters.from_four in
    let second : 1 < t.log_degree = omega (arith, two) in
    let row = layer_row g.row.N t.log_degree 1 2 c.layer_half.result (length c.args.row.now) c.requires.len tables.parameters.power second refl c.layer_half.ensures in
    omega (arith, row)

pub inverse_last_two_layers-requires-clause-inner_negatives : goal.inverse_last_two_layers-requires-clause-inner_negatives
inverse_last_two_layers-requires-clause-inner_negatives g c =
    let t = c.args.self.now in
    let tables = subst (λ t. AreTables g.row.N t c.self.inside.roots.items c.self.inside.inverse_degree c.self.inside.scaled_root) c.self.view_is c.self.invariant in
    let two = log_from_two g.row.N t.log_degree tables.parameters.power tables.parameters.from_four in
    let modulus : c.value-q.result ≡ t.modulus = c.value-q.ensures.value ∙ ap (λ t. t.modulus) c.self.view_is in
    subst (λ q. HaveNegatives q c.layer_roots-inner.result.now) (sym modulus)
    (HaveNegatives-layer g.row.N t tables.parameters 1 c.layer_roots-inner.result.now (omega (arith, two)) c.layer_roots-inner.ensures)

pub returns-clause-layers : goal.returns-clause-layers
returns-clause-layers g c =
    let t = c.args.self.now in
    let tables = subst (λ t. AreTables g.row.N t c.self.inside.roots.items c.self.inside.inverse_degree c.self.inside.scaled_root) c.self.view_is c.self.invariant in
    let two = log_from_two g.row.N t.log_degree tables.parameters.power tables.parameters.from_four in
    let second : 0 + 1 < t.log_degree = omega (arith, two) in
    let modulus : c.value-q.result ≡ t.modulus = c.value-q.ensures.value ∙ ap (λ t. t.modulus) c.self.view_is in
    let layers = c.inverse_last_two_layers.ensures.layers in
    let quarter = c.layer_half.result in
    let inner = c.layer_roots-inner.result.now in
    let old = c.args.row.now in
    let pairs = subst (λ q. EachBlock (λ i. IsButterflyBack q (negative_from_last q inner i)) (length inner) quarter old layers.middle) modulus
    (subst (λ n. EachBlock (λ i. IsButterflyBack c.value-q.result (negative_from_last c.value-q.result inner i)) n quarter old layers.middle) (sym c.layer_roots-inner.ensures.len) layers.first) in
    record {
      middle = layers.middle;
      first = subst (λ h. EachBlock (λ i. IsButterflyBack t.modulus (layer_root (inverse_root g.row.N t) t 1 i)) (2 ^ 1) h old layers.middle) c.layer_half.ensures
          (EachBlock-layer_back g.row.N t tables.parameters 1 inner second c.layer_roots-inner.ensures (IsButterflyBack t.modulus) quarter old layers.middle pairs);
      second = IsJoinedLast-from g.row.N t c.value-q.result c.self.inside.inverse_degree.w c.self.inside.scaled_root.w (2 * quarter) layers.middle
          c.inverse_last_two_layers.new.row modulus tables.inverse_degree_is tables.scaled_root_is
          (two_quarters t.log_degree 0 quarter second c.layer_half.ensures) layers.second;
    }
