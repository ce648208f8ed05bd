use Rattle.std.proofs.Common.{ℕ, ◌+◌, ◌-◌, ◌*◌, ◌%◌, ◌∙◌, ap}
use Rattle.std.proofs.Math.Nat.{mod-mod}
use Rattle.lane_rows.proofs.ButterflyLemmas.{IsButterflyBack-from_lazy}
use Rattle.lane_rows.proofs.words.scaled_butterfly_back.Goals as goal

pub returns-clause-pair : goal.returns-clause-pair
returns-clause-pair c =
    let difference = ap (λ (z : ℕ). z % c.args.q) c.scale-2.ensures ∙ mod-mod (c.args.root.w * (c.args.x + 2 * c.args.q - c.args.y)) c.args.q in
    record {
      adds = ap (λ (z : ℕ). z % c.args.q) c.scale.ensures ∙ mod-mod (c.args.scale.w * (c.args.x + c.args.y)) c.args.q;
      subtracts = (IsButterflyBack-from_lazy c.args.q c.args.root.w c.args.x c.args.y c.scale-2.result c.requires.y_below difference).subtracts;
    }
