use Rattle.std.proofs.Common.{◌≡◌, ◌<◌, length, arith, refl, subst, ap, ◌∙◌}
use Rattle.neg_ntt.specs.Tables.{AreTables}
use Rattle.neg_ntt.proofs.Steps.{IsJoinedLast-from, layer_row, log_from_two}
use Rattle.neg_ntt.proofs.transform.Transform.join_last.Goals as goal

pub inverse_last_layer-requires-clause-halves : goal.inverse_last_layer-requires-clause-halves
inverse_last_layer-requires-clause-halves g c =
    let t = c.args.self.now in
    let tables = subst (λ t. AreTables g.row.N t c.self.inside.roots.items c.self.inside.inverse_degree c.self.inside.scaled_root) c.self.view_is c.self.invariant in
    let two = log_from_two g.row.N t.log_degree tables.parameters.power tables.parameters.from_four in
    let first : 0 < t.log_degree = omega (arith, two) in
    let row = layer_row g.row.N t.log_degree 0 1 c.layer_half.result (length c.args.row.now) c.requires.len tables.parameters.power first refl c.layer_half.ensures in
    omega (arith, row)

pub returns-clause-joined : goal.returns-clause-joined
returns-clause-joined g c =
    let t = c.args.self.now in
    let tables = subst (λ t. AreTables g.row.N t c.self.inside.roots.items c.self.inside.inverse_degree c.self.inside.scaled_root) c.self.view_is c.self.invariant in
    let modulus : c.value-q.result ≡ t.modulus = c.value-q.ensures.value ∙ ap (λ t. t.modulus) c.self.view_is in
    IsJoinedLast-from g.row.N t c.value-q.result c.self.inside.inverse_degree.w c.self.inside.scaled_root.w c.layer_half.result c.args.row.now c.inverse_last_layer.new.row
    modulus tables.inverse_degree_is tables.scaled_root_is c.layer_half.ensures c.inverse_last_layer.ensures.pairs
