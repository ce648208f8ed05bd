use Rattle.std.proofs.Common.{◌≡◌, ◌%◌, ◌-◌, ℕ, sym, ap, ◌∙◌, arith, pos, mod-eq_of_lt}
use Rattle.ring_law.proofs.Residues.{residue-neg}
use Rattle.script_text.proofs.evaluator.negative.Goals as goal

pub returns-clause-value : goal.returns-clause-value
returns-clause-value c =
    let small : c.args.a % c.args.t ≡ c.args.a = mod-eq_of_lt c.requires.below in
    ap (λ (r : ℕ). (c.args.t - r) % c.args.t) (sym small) ∙ sym (residue-neg c.args.t (pos c.args.a) (omega arith))
