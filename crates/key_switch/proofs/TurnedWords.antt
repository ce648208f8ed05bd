-- The turn of a row, from that of its words.
use Rattle.std.proofs.Common.{ℕ, ◌<◌, ◌∙◌, ap, ℤ, pos, List}
use Rattle.ring_law.specs.Polynomials.{ring_turn}
use Rattle.ring_law.specs.Rows.{RowRepresents, row_polynomial}
use Rattle.ring_law.proofs.Congruence.{Congruent-equal, Congruent-sym, Congruent-trans}
use Rattle.ring_law.proofs.Residues.{Congruent-residue, residue_equal}
use Rattle.ring_law.proofs.RingTurn.{ring_turn_congruent}

-- what is the turn of a row's words is the turn of all that the row represents
pub turn_of_row : (n q g : ℕ) (row turned : List ℕ) (x : ℕ → ℤ) → 0 < q → RowRepresents n q turned (ring_turn n g (row_polynomial row)) → RowRepresents n q row x
    → RowRepresents n q turned (ring_turn n g x)
turn_of_row n q g row turned x positive of_words represents k within =
    of_words k within
    ∙ residue_equal q (ring_turn n g (row_polynomial row) k) (ring_turn n g x k) positive
    (ring_turn_congruent q n g (row_polynomial row) x
    (λ i below. Congruent-trans q (Congruent-equal q (ap pos (represents i below))) (Congruent-sym q (Congruent-residue q (x i) positive))) k)
