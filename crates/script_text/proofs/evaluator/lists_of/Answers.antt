use Rattle.std.proofs.Common.{◌≡◌, ℕ, ◌*◌, length, take, drop, ap, sym, ◌∙◌, arith}
use Rattle.set_table.specs.Sets.{degree_of, plain_of}
use Rattle.script_text.specs.Scripts.{Script}
use Rattle.script_text.specs.Evaluating.{kind_test}
use Rattle.script_text.proofs.InputLists.{lists_step}
use Rattle.script_text.proofs.evaluator.lists_of.Goals as goal

pub loop-i-preserved : goal.loop-i-preserved
loop-i-preserved c =
    let inputs = ap (λ (s : Script). length s.inputs) c.script.view_is in
    let degree : c.degree-n.result ≡ degree_of c.args.script.now.set = c.degree-n.ensures ∙ ap (λ (s : Script). degree_of s.set) c.script.view_is in
    lists_step (kind_test c.args.kind) c.script.inside.inputs.items (degree_of c.args.script.now.set) (plain_of c.args.script.now.set) c.loop-i.i c.args.values.now c.index-input.result.now c.is_of_kind.result
    c.loop-i.lists.items c.push_list.new.lists.items c.list_at-list.result.now
    (omega (arith, c.script.inside.inputs.ok.0)) c.index-input.ensures c.is_of_kind.ensures
    (c.list_at-list.ensures ∙ ap (λ (n : ℕ). take n (drop (n * c.loop-i.i) c.args.values.now)) degree)
    (c.requires.size ∙ ap (λ (k : ℕ). degree_of c.args.script.now.set * k) (sym inputs))
    c.requires.below c.loop-i.invariant.0 c.loop-i.invariant.1 c.in_ok-push_list.ensures
