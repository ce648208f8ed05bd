use Rattle.std.proofs.Common.{ℕ, ◌<◌, arith, subst}
use Rattle.ring_law.specs.Polynomials.{ring_turn}
use Rattle.ring_law.specs.Rows.{RowRepresents, row_polynomial}
use Rattle.key_switch.proofs.TurnedWords.{turn_of_row}
use Rattle.key_switch.proofs.sources.turn_row.Goals as goal

pub returns-clause-turned : goal.returns-clause-turned
returns-clause-turned g c = λ x represents.
    let n : ℕ = g.row.N in
    let q : ℕ = c.args.m.now in
    let positive : 0 < q = omega (arith, c.value.ensures.value, c.value.ensures.modulus.from_three) in
    turn_of_row n q c.args.g c.args.row.now c.turn_plain.new.to x positive
    (subst (λ m. RowRepresents n m c.turn_plain.new.to (ring_turn n c.args.g (row_polynomial c.args.row.now))) c.value.ensures.value c.turn_plain.ensures) represents
