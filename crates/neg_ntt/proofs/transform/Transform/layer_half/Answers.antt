use Rattle.std.proofs.Common.{◌≡◌, suc, ◌+◌, ◌-◌, ◌^◌, ◌≤◌, arith, subst, ap, ◌∙◌}
use Rattle.neg_ntt.specs.Tables.{AreTables}
use Rattle.neg_ntt.proofs.PowersReversed.{power_in_word}
use Rattle.neg_ntt.proofs.Steps.{log_limit}
use Rattle.neg_ntt.proofs.transform.Transform.layer_half.Goals as goal

pub overflow_shl-result : goal.overflow_shl-result
overflow_shl-result g c =
    let t = c.args.self.now in
    let tables = subst (λ t. AreTables g.row.N t c.self.inside.roots.items c.self.inside.inverse_degree c.self.inside.scaled_root) c.self.view_is c.self.invariant in
    let limit = log_limit t.log_degree (subst (λ n. n ≤ 32768) tables.parameters.power tables.parameters.to_limit) in
    omega (arith, limit, ap (λ t. t.log_degree) c.self.view_is)

pub returns : goal.returns
returns g c =
    let t = c.args.self.now in
    let tables = subst (λ t. AreTables g.row.N t c.self.inside.roots.items c.self.inside.inverse_degree c.self.inside.scaled_root) c.self.view_is c.self.invariant in
    let limit = log_limit t.log_degree (subst (λ n. n ≤ 32768) tables.parameters.power tables.parameters.to_limit) in
    let log_degree : c.self.inside.log_degree ≡ t.log_degree = ap (λ t. t.log_degree) c.self.view_is in
    let digits : c.self.inside.log_degree - (c.args.s + 1) ≡ t.log_degree - suc c.args.s = omega (arith, log_degree) in
    power_in_word (c.self.inside.log_degree - (c.args.s + 1)) (omega (arith, limit, log_degree)) ∙ ap (λ e. 2 ^ e) digits
