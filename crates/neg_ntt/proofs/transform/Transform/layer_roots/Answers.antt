use Rattle.std.proofs.Common.{◌≡◌, ◌^◌, ◌≤◌, length, arith, subst, ap, ◌∙◌, take, drop}
use Rattle.neg_ntt.specs.Tables.{AreTables}
use Rattle.neg_ntt.proofs.PowersReversed.{AreLayerRoots-table}
use Rattle.neg_ntt.proofs.Steps.{layer_within, length-layer, log_limit}
use Rattle.neg_ntt.proofs.transform.Transform.layer_roots.Goals as goal

pub layer_factors-requires-clause-layer : goal.layer_factors-requires-clause-layer
layer_factors-requires-clause-layer g c =
    let t = c.args.self.now in
    let tables = subst (λ t. AreTables g.row.N t c.self.inside.roots.items c.self.inside.inverse_degree c.self.inside.scaled_root) c.self.view_is c.self.invariant in
    let limit = log_limit t.log_degree (subst (λ n. n ≤ 32768) tables.parameters.power tables.parameters.to_limit) in
    omega (arith, c.requires.layer)

pub layer_factors-requires-clause-len : goal.layer_factors-requires-clause-len
layer_factors-requires-clause-len g c =
    let t = c.args.self.now in
    let tables = subst (λ t. AreTables g.row.N t c.self.inside.roots.items c.self.inside.inverse_degree c.self.inside.scaled_root) c.self.view_is c.self.invariant in
    let within = layer_within t.log_degree c.args.s c.requires.layer in
    omega (arith, tables.root_powers.len, tables.parameters.power, ap length c.deref.ensures.value)

pub returns : goal.returns
returns g c =
    let t = c.args.self.now in
    let tables = subst (λ t. AreTables g.row.N t c.self.inside.roots.items c.self.inside.inverse_degree c.self.inside.scaled_root) c.self.view_is c.self.invariant in
    let s = c.args.s in
    let table = c.self.inside.roots.items in
    let factors = c.layer_factors.result.now in
    let are : factors ≡ take (2 ^ s) (drop (2 ^ s) table) = c.layer_factors.ensures ∙ ap (λ table. take (2 ^ s) (drop (2 ^ s) table)) c.deref.ensures.value in
    AreLayerRoots-table t t.root g.row.N s table factors c.requires.layer tables.parameters.power tables.root_powers are
    (length-layer table factors g.row.N t.log_degree s tables.root_powers.len tables.parameters.power c.requires.layer are)
