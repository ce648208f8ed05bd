use Rattle.std.proofs.Common.{rules, ◌≡◌, ℕ, ◌+◌, ◌*◌, ◌<◌, ◌∙◌, ap, arith, subst, length, drop}
use Rattle.std.proofs.lemmas.List.{length-drop, length-take-le}
use Rattle.ring_law.specs.Rows.{WordsRepresent}
use Rattle.bfv_model.specs.Holds.{listed_word}
use Rattle.bfv_model.specs.Keys.{digit_sum, switched_part}
use Rattle.bfv_params.specs.Contexts.{data_in}
use Rattle.bfv_params.specs.Values.{ContextValue}
use Rattle.bfv_params.proofs.Coprimality.{data_length}
use Rattle.key_switch.proofs.ScratchRows.{enough_rows}
use Rattle.key_switch.proofs.SwitchedPairs.{PairStandsFor-switched, digit_sum_entries}
use Rattle.key_switch.proofs.switching.apply.Goals as goal

pub split-sums-requires : goal.split-sums-requires
split-sums-requires g c =
    let ctx : ContextValue = c.args.ctx.now in
    let rows = enough_rows ctx in
    (search rules, omega (arith, rows, c.data_moduli.ensures.count, ap length c.view_mut.ensures.value, c.requires.room))

pub clear-requires : goal.clear-requires
clear-requires g c = (omega (arith, c.data_moduli.ensures.limit), c.data_moduli.ensures.limit)

pub sum_digits-requires : goal.sum_digits-requires
sum_digits-requires g c =
    let ctx : ContextValue = c.args.ctx.now in
    let rows = enough_rows ctx in
    let whole : length c.view_mut.result.now ≡ length c.args.scratch.now = ap length c.view_mut.ensures.value in
    let count : 4 * (length c.data_moduli.result.now + 1) ≡ 4 * (ctx.level + 1) = ap (λ l. 4 * (l + 1)) c.data_moduli.ensures.count in
    let front : length c.split-sums.result.0.now ≡ 4 * (ctx.level + 1)
    = ap length c.split-sums.ensures.first ∙ length-take-le (4 * (length c.data_moduli.result.now + 1)) c.view_mut.result.now (omega (arith, rows, whole, count, c.requires.room)) ∙ count in
    let back : length c.split-sums.result.1.now ≡ length (drop (4 * (length c.data_moduli.result.now + 1)) c.view_mut.result.now) = ap length c.split-sums.ensures.second in
    let dropped = length-drop (4 * (length c.data_moduli.result.now + 1)) c.view_mut.result.now in (
      search rules,
      (
        search rules,
        (
          omega (arith, c.data_moduli.ensures.limit),
          (
            c.requires.special,
            (
              c.requires.keys_set,
              (
                c.requires.has,
                (
                  c.requires.part_count,
                  (
                    c.clear.auto.rows ∙ front,
                    (c.clear.ensures, omega (arith, rows, whole, count, back, dropped, c.requires.room)),
                  ),
                ),
              ),
            ),
          ),
        ),
      ),
    )

pub write_pair-requires : goal.write_pair-requires
write_pair-requires g c =
    let ctx : ContextValue = c.args.ctx.now in
    let rows = enough_rows ctx in
    let whole : length c.view_mut.result.now ≡ length c.args.scratch.now = ap length c.view_mut.ensures.value in
    let count : 4 * (length c.data_moduli.result.now + 1) ≡ 4 * (ctx.level + 1) = ap (λ l. 4 * (l + 1)) c.data_moduli.ensures.count in
    let front : length c.split-sums.result.0.now ≡ 4 * (ctx.level + 1)
    = ap length c.split-sums.ensures.first ∙ length-take-le (4 * (length c.data_moduli.result.now + 1)) c.view_mut.result.now (omega (arith, rows, whole, count, c.requires.room)) ∙ count in
    (search rules, (omega (arith, c.data_moduli.ensures.limit), (c.requires.special, (c.sum_digits.auto.sums ∙ c.clear.auto.rows ∙ front, c.requires.count))))

pub returns-clause-words : goal.returns-clause-words
returns-clause-words g c = λ digits P key polynomial told special transforms represents.
    let n : ℕ = g.row.N in
    let ctx : ContextValue = c.args.ctx.now in
    let named = c.data_moduli.ensures in
    let pair = c.write_pair.ensures.represents P (λ j. digit_sum n (data_in ctx) polynomial (key j)) special
    (digit_sum_entries n ctx P special named.degree named.within c.args.part.rows.now c.sum_digits.new.sums (digits c.args.kind c.args.element) key polynomial
    (c.in_ok-sum_digits.ensures.sums digits told) transforms represents) in
    subst (λ l. (j : ℕ) → j < 2 → WordsRepresent n (data_in ctx) (listed_word l c.write_pair.new.out j) (switched_part n (data_in ctx) P polynomial (key j)))
    (data_length ctx.set ctx.level named.within) pair

pub returns-clause-stands : goal.returns-clause-stands
returns-clause-stands g c = λ digits P polynomial source s told special of_key ternary represents.
    PairStandsFor-switched g.row.N c.args.ctx.now P special c.data_moduli.ensures.degree c.data_moduli.ensures.within (digits c.args.kind c.args.element) polynomial source s
    c.write_pair.new.out of_key ternary (λ key transforms. returns-clause-words g c digits P key polynomial told special transforms represents)
