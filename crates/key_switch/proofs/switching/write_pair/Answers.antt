use Rattle.std.proofs.Common.{rules, ◌≡◌, ℕ, zero, suc, ◌+◌, ◌*◌, ◌%◌, ◌<◌, ◌∙◌, ap, arith, sym, ℤ, List, ◌++◌, length, take, drop, slice_index}
use Rattle.std.proofs.lemmas.List.{length-drop, length-take-le}
use Rattle.ring_law.specs.Rows.{Represents, WordsRepresent}
use Rattle.bfv_model.specs.Holds.{listed_word}
use Rattle.bfv_model.specs.Keys.{dropped_quotient}
use Rattle.bfv_params.specs.Contexts.{data_in}
use Rattle.bfv_params.specs.Values.{ContextValue}
use Rattle.bfv_params.proofs.Coprimality.{data_length}
use Rattle.key_switch.specs.Sums.{key_in, sum_word}
use Rattle.key_switch.proofs.JoinedParts.{ReducedInTurn-joined, word_of_first, word_of_second}
use Rattle.key_switch.proofs.KeyLevels.{keys_count, special_modulus}
use Rattle.key_switch.proofs.SumRows.{sum_of_first, sum_of_second}
use Rattle.key_switch.proofs.switching.write_pair.Goals as goal

pub write_part-requires : goal.write_part-requires
write_part-requires g c =
    let ctx : ContextValue = c.args.ctx.now in
    let found = special_modulus ctx.set c.requires.special in
    let count : length c.key_moduli.result.now ≡ ctx.level + 1 = ap length c.key_moduli.ensures ∙ keys_count ctx.set ctx.level found.0 found.1 c.data_moduli.ensures.within in (
      search rules,
      (
        omega (arith, c.data_moduli.ensures.limit),
        (
          c.data_moduli.ensures.degree,
          (
            c.data_moduli.ensures.within,
            (
              c.requires.special,
              (
                ap length c.split-first.ensures.first ∙ length-take-le (2 * length c.key_moduli.result.now) c.args.sums.now (omega (arith, count, c.requires.sums_count)) ∙ ap (λ m. 2 * m) count,
                ap length c.split-first_out.ensures.first ∙ length-take-le (length c.data_moduli.result.now) c.args.out.now (omega (arith, c.data_moduli.ensures.count, c.requires.count)) ∙ c.data_moduli.ensures.count,
              ),
            ),
          ),
        ),
      ),
    )

pub write_part-requires-2 : goal.write_part-requires-2
write_part-requires-2 g c =
    let ctx : ContextValue = c.args.ctx.now in
    let found = special_modulus ctx.set c.requires.special in
    let count : length c.key_moduli.result.now ≡ ctx.level + 1 = ap length c.key_moduli.ensures ∙ keys_count ctx.set ctx.level found.0 found.1 c.data_moduli.ensures.within in (
      search rules,
      (
        omega (arith, c.data_moduli.ensures.limit),
        (
          c.data_moduli.ensures.degree,
          (
            c.data_moduli.ensures.within,
            (
              c.requires.special,
              (
                ap length c.split-first.ensures.second ∙ length-drop (2 * length c.key_moduli.result.now) c.args.sums.now ∙ omega (arith, count, c.requires.sums_count),
                ap length c.split-first_out.ensures.second ∙ length-drop (length c.data_moduli.result.now) c.args.out.now ∙ omega (arith, c.data_moduli.ensures.count, c.requires.count),
              ),
            ),
          ),
        ),
      ),
    )

-- what the rows of each part represent, both do
both : (n level : ℕ) (moduli : List ℕ) (first second : List (List ℕ)) (y : ℕ → ℕ → ℤ) → length first ≡ level → length moduli ≡ level
    → Represents n moduli first (y 0) → Represents n moduli second (y 1) → (j : ℕ) → j < 2 → WordsRepresent n moduli (listed_word level (first ++ second) j) (y j)
both n level moduli first second y size counted of_first of_second zero in_key i k within below =
    word_of_first level first second size i k (omega (arith, counted, within)) ∙ of_first i k within below
both n level moduli first second y size counted of_first of_second (suc zero) in_key i k within below =
    word_of_second level first second size i k ∙ of_second i k within below
both n level moduli first second y size counted of_first of_second (suc (suc j)) in_key i k within below = absurd (omega arith)

pub returns-clause-represents : goal.returns-clause-represents
returns-clause-represents g c = λ P y special entries.
    let n : ℕ = g.row.N in
    let ctx : ContextValue = c.args.ctx.now in
    let rows : ℕ = ctx.level + 1 in
    let sums : List (List ℕ) = c.args.sums.now in
    let count : length c.key_moduli.result.now ≡ rows = ap length c.key_moduli.ensures ∙ keys_count ctx.set ctx.level P special c.data_moduli.ensures.within in
    let front : c.split-first.result.0.now ≡ take (2 * rows) sums = c.split-first.ensures.first ∙ ap (λ m. take (2 * m) sums) count in
    let back : c.split-first.result.1.now ≡ drop (2 * rows) sums = c.split-first.ensures.second ∙ ap (λ m. drop (2 * m) sums) count in
    let size : length c.write_part.new.out ≡ ctx.level
    = c.write_part.auto.out ∙ ap length c.split-first_out.ensures.first
    ∙ length-take-le (length c.data_moduli.result.now) c.args.out.now (omega (arith, c.data_moduli.ensures.count, c.requires.count)) ∙ c.data_moduli.ensures.count in
    both n ctx.level (data_in ctx) c.write_part.new.out c.write_part-2.new.out (λ j k. dropped_quotient P (y j k)) size (sym (data_length ctx.set ctx.level c.data_moduli.ensures.within))
    (c.write_part.ensures.represents P (y 0) special (λ r k within below.
    ap (λ s. s % slice_index (key_in ctx) r) (ap (λ rs. sum_word rows rs 0 r k) front ∙ sum_of_first rows sums r k within) ∙ entries 0 r k (omega arith) within below))
    (c.write_part-2.ensures.represents P (y 1) special (λ r k within below.
    ap (λ s. s % slice_index (key_in ctx) r) (ap (λ rs. sum_word rows rs 0 r k) back ∙ sum_of_second rows sums r k within) ∙ entries 1 r k (omega arith) within below))

pub returns-clause-reduced : goal.returns-clause-reduced
returns-clause-reduced g c =
    let n : ℕ = g.row.N in
    let ctx : ContextValue = c.args.ctx.now in
    let size : length c.write_part.new.out ≡ ctx.level
    = c.write_part.auto.out ∙ ap length c.split-first_out.ensures.first
    ∙ length-take-le (length c.data_moduli.result.now) c.args.out.now (omega (arith, c.data_moduli.ensures.count, c.requires.count)) ∙ c.data_moduli.ensures.count in
    let second_size : length c.write_part-2.new.out ≡ ctx.level
    = c.write_part-2.auto.out ∙ ap length c.split-first_out.ensures.second
    ∙ length-drop (length c.data_moduli.result.now) c.args.out.now ∙ omega (arith, c.data_moduli.ensures.count, c.requires.count) in
    ReducedInTurn-joined ctx.level c.write_part.new.out c.write_part-2.new.out size n (data_in ctx) second_size (sym (data_length ctx.set ctx.level c.data_moduli.ensures.within))
    c.write_part.ensures.reduced c.write_part-2.ensures.reduced
