use Rattle.std.proofs.Common.{◌≡◌, true, false, ℕ, ◌+◌, ◌*◌, ◌%◌, ◌<◌, ◌≤◌, ◌∙◌, ap, arith, length-set, nat_lt, subst}
use Rattle.std.proofs.Math.Nat.{mod-add-mod}
use Rattle.galois_turn.proofs.TurnedRows.{IsReduced-all, TurnedBefore, TurnedBefore-next, Turns-all}
use Rattle.galois_turn.proofs.rows.turn_row.Goals as goal

pub loop-i-preserved : goal.loop-i-preserved
loop-i-preserved g c =
    let n : ℕ = g.row.N in
    let within : c.loop-i.i < n = omega arith in
    let reduced = c.requires.from_reduced c.loop-i.i within in
    let positive : 0 < c.args.m.now = omega (arith, reduced) in record {
      words = length-set _ _ _ ∙ c.loop-i.invariant.words;
      power = ap (λ p. (p + c.args.g) % (2 * n)) c.loop-i.invariant.power ∙ mod-add-mod (c.args.g * c.loop-i.i) (2 * n) c.args.g
          ∙ ap (λ p. p % (2 * n)) (more c.args.g c.loop-i.i);
      turned = TurnedBefore-next n c.args.m.now c.args.g c.requires.degree.0 positive c.requires.unit c.args.from.now c.loop-i.to c.loop-i.i c.loop-i.power
          c.turned_word.result within c.loop-i.invariant.words reduced c.loop-i.invariant.power
          (λ less. c.turned_word.ensures.low (is_low c.loop-i.power n less)) (λ most. c.turned_word.ensures.high (is_high c.loop-i.power n most)) c.loop-i.invariant.turned;
    }
  where
    more : (g i : ℕ) → g * i + g ≡ g * (i + 1)
    more g i = omega arith

    is_low : (a b : ℕ) → a < b → nat_lt a b ≡ true
    is_low a b less = grind arith

    is_high : (a b : ℕ) → b ≤ a → nat_lt a b ≡ false
    is_high a b most = grind arith

pub returns-clause-represents : goal.returns-clause-represents
returns-clause-represents g c =
    let n : ℕ = g.row.N in
    let all : c.loop-i.i ≡ n = omega arith in
    let reduced = c.requires.from_reduced 0 c.requires.degree.0 in
    Turns-all n c.args.m.now c.args.g c.requires.degree.0 (omega (arith, reduced)) c.requires.unit c.args.from.now c.loop-i.to
    (subst (TurnedBefore n c.args.m.now c.args.g c.args.from.now c.loop-i.to) all c.loop-i.invariant.turned)

pub returns-clause-reduced : goal.returns-clause-reduced
returns-clause-reduced g c =
    let n : ℕ = g.row.N in
    let all : c.loop-i.i ≡ n = omega arith in
    let reduced = c.requires.from_reduced 0 c.requires.degree.0 in
    IsReduced-all n c.args.m.now c.args.g c.requires.degree.0 (omega (arith, reduced)) c.requires.unit c.args.from.now c.loop-i.to
    (subst (TurnedBefore n c.args.m.now c.args.g c.args.from.now c.loop-i.to) all c.loop-i.invariant.turned)
