use Rattle.std.proofs.Common.{◌≡◌, ◌+◌, ◌*◌, ◌≤◌, ℕ, List, length, slice_range, ap, subst, sym, ◌∙◌}
use Rattle.set_table.specs.Sets.{data_of, key_of}
use Rattle.bfv_params.specs.Rows.{ReducedInTurn}
use Rattle.key_switch.proofs.DigitRows.{digit_within, digit_reduced, digit_words}
use Rattle.key_switch.proofs.memory.write_digit.Goals as goal

pub returns-clause-below : goal.returns-clause-below
returns-clause-below g c =
    let from : ℕ = c.args.i * 2 * c.args.count in
    let is : c.copy_from_slice.new.self ≡ slice_range c.args.key.now.rows from (from + 2 * c.args.count)
    = c.copy_from_slice.ensures.after ∙ c.slice.ensures ∙ c.rows_from_to-digit.ensures
    ∙ ap (λ (rows : List (List ℕ)). slice_range rows from (from + 2 * c.args.count)) c.view.ensures.value in
    digit_reduced g.row.N c.args.count c.args.i (key_of c.args.key.now.set) c.args.key.now.rows c.copy_from_slice.new.self
    (subst (λ (count : ℕ). ReducedInTurn g.row.N count (key_of c.args.key.now.set) c.args.key.now.rows) (sym c.requires.count) c.view.ensures.kept.reduced)
    (subst (λ (count : ℕ). from + 2 * c.args.count ≤ count) (sym c.view.ensures.kept.size)
    (digit_within (length (data_of c.args.key.now.set)) c.args.count c.args.i c.requires.index c.requires.count))
    is
    (c.copy_from_slice.ensures.len ∙ c.requires.rows)

pub returns-clause-words : goal.returns-clause-words
returns-clause-words g c =
    let from : ℕ = c.args.i * 2 * c.args.count in
    digit_words g.row.N c.args.count c.args.i c.args.key.now.rows c.copy_from_slice.new.self
    (c.copy_from_slice.ensures.after ∙ c.slice.ensures ∙ c.rows_from_to-digit.ensures
    ∙ ap (λ (rows : List (List ℕ)). slice_range rows from (from + 2 * c.args.count)) c.view.ensures.value)
