use Rattle.std.proofs.Common.{rules, ◌≡◌, ℕ, ◌+◌, ◌*◌, ◌/◌, ◌^◌, ◌<◌, ◌≤◌, ◌∙◌, ap, arith, sym, subst, List, [], length, map, drop, slice_index_or}
use Rattle.std.proofs.lemmas.List.{length-drop, length-take-le}
use Rattle.neg_ntt.specs.Parameters.{Parameters}
use Rattle.set_table.specs.declared.SetName.{SetName}
use Rattle.set_table.specs.Sets.{data_of, key_of}
use Rattle.ring_law.specs.Rows.{row_polynomial, word_at}
use Rattle.rns_poly.specs.Rows.{AreReduced}
use Rattle.rns_poly.specs.Transforms.{AreTransforms, moduli_of}
use Rattle.bfv_params.specs.Moduli.{key_at}
use Rattle.bfv_params.specs.Rows.{ReducedInTurn}
use Rattle.bfv_params.specs.Transforms.{transform_of}
use Rattle.bfv_params.specs.Values.{ContextValue}
use Rattle.bfv_params.proofs.Parts.{moduli_of_transforms}
use Rattle.bfv_params.proofs.Products.{transforms_length}
use Rattle.bfv_params.proofs.Tables.{degree_of-limit}
use Rattle.key_switch.specs.Providers.{AreDigitRows}
use Rattle.key_switch.specs.Sums.{digit_row, key_in, sum_word}
use Rattle.key_switch.proofs.DigitStep.{AreDigitSums-next, AreSumsOf-next, level_few, sum_has_room}
use Rattle.key_switch.proofs.KeyLevels.{keys_count, special_modulus}
use Rattle.key_switch.proofs.switching.sum_digit.Goals as goal

pub lift_into-requires : goal.lift_into-requires
lift_into-requires g c =
    let ctx : ContextValue = c.args.ctx.now in
    let special = special_modulus ctx.set c.requires.special in
    let keys : List ℕ = key_at ctx.set ctx.level in
    let limit : g.row.N ≤ 32768 = subst (λ m. m ≤ 32768) (sym c.requires.degree) (degree_of-limit ctx.set) in
    let count : length keys ≡ ctx.level + 1 = keys_count ctx.set ctx.level special.0 special.1 c.requires.within in
    let moduli_count : length c.key_moduli-moduli.result.now ≡ ctx.level + 1 = ap length c.key_moduli-moduli.ensures ∙ count in
    let same : moduli_of c.key_transforms-transforms.result.now ≡ c.key_moduli-moduli.result.now
    = ap moduli_of c.key_transforms-transforms.ensures ∙ moduli_of_transforms ctx.set keys ∙ sym c.key_moduli-moduli.ensures in
    let counted : length c.key_transforms-transforms.result.now ≡ length c.key_moduli-moduli.result.now
    = transforms_length ctx.set keys c.key_transforms-transforms.result.now c.key_transforms-transforms.ensures ∙ sym (ap length c.key_moduli-moduli.ensures) in
    let size : length c.split-lifted.result.0.now ≡ length c.key_moduli-moduli.result.now
    = ap length c.split-lifted.ensures.first ∙ length-take-le (length c.key_moduli-moduli.result.now) c.args.work.now (omega (arith, moduli_count, c.requires.room)) in
    (search rules, (omega (arith, limit), (limit, (same, (counted, size)))))

-- what holds of two numbers holds of two that are equal to them
along : (P : ℕ → ℕ → Type 0) (a b d e : ℕ) → a ≡ b → d ≡ e → P a d → P b e
along P a b d e first second holds = subst (λ x. P x e) first (subst (P a) second holds)

-- the sums that a digit is added to, the numbers of rows being those of the two lists
abbrev Room : ℕ → List (List ℕ) → List (List ℕ) → List (List ℕ) → ℕ → ℕ → Type 0
Room n lifted digit sums count half = (j r k : ℕ) → j < 2 → r < count → k < n
    → sum_word count sums (j * (2 * count)) r k + word_at lifted r k * word_at digit (j * half + digit_row count half r) k < 2 ^ 128

-- and what is added
abbrev Added : ℕ → List (List ℕ) → List (List ℕ) → List (List ℕ) → List (List ℕ) → ℕ → ℕ → Type 0
Added n lifted digit old new count half = (j r k : ℕ) → j < 2 → r < count → k < n
    → sum_word count new (j * (2 * count)) r k ≡ sum_word count old (j * (2 * count)) r k + word_at lifted r k * word_at digit (j * half + digit_row count half r) k

pub add_digit-requires : goal.add_digit-requires
add_digit-requires g c =
    let n : ℕ = g.row.N in
    let ctx : ContextValue = c.args.ctx.now in
    let found = special_modulus ctx.set c.requires.special in
    let limit : n ≤ 32768 = subst (λ m. m ≤ 32768) (sym c.requires.degree) (degree_of-limit ctx.set) in
    let moduli : List ℕ = c.key_moduli-moduli.result.now in
    let moduli_count : length moduli ≡ ctx.level + 1 = ap length c.key_moduli-moduli.ensures ∙ keys_count ctx.set ctx.level found.0 found.1 c.requires.within in
    let lifted : List (List ℕ) = c.lift_into.new.out in
    let digit : List (List ℕ) = c.digit.new.into in
    let lifted_size : length lifted ≡ ctx.level + 1
    = c.lift_into.auto.out ∙ ap length c.split-lifted.ensures.first ∙ length-take-le (length moduli) c.args.work.now (omega (arith, moduli_count, c.requires.room)) ∙ moduli_count in
    let rows : c.data_count.result ≡ length (data_of ctx.set) = c.data_count.ensures ∙ ap (λ (set : SetName). length (data_of set)) c.set.ensures.value in
    let rest_size : length c.split-lifted.result.1.now ≡ length (drop (length moduli) c.args.work.now) = ap length c.split-lifted.ensures.second in
    let dropped = length-drop (length moduli) c.args.work.now in
    let digit_size : length digit ≡ 2 * (length (data_of ctx.set) + 1)
    = c.digit.auto.into ∙ ap length c.split-digit.ensures.first
    ∙ length-take-le (2 * (c.data_count.result + 1)) c.split-lifted.result.1.now (omega (arith, rest_size, dropped, rows, moduli_count, c.requires.room)) ∙ ap (λ m. 2 * (m + 1)) rows in
    let half_size : length digit / 2 ≡ length (data_of ctx.set) + 1 = omega (arith, digit_size) in
    let lifted_reduced : AreReduced n (key_in ctx) lifted = subst (λ (qs : List ℕ). AreReduced n qs lifted) c.key_moduli-moduli.ensures c.lift_into.ensures.reduced in
    let digit_reduced : ReducedInTurn n (length (data_of ctx.set) + 1) (key_of ctx.set) digit
    = subst (λ (set : SetName). ReducedInTurn n (length (data_of set) + 1) (key_of set) digit) c.requires.keys_set c.in_ok-digit.ensures.below in
    let room : Room n lifted digit c.args.sums.now (ctx.level + 1) (length (data_of ctx.set) + 1)
    = sum_has_room n ctx found.0 found.1 c.requires.degree c.requires.within lifted digit c.args.sums.now c.args.sums.now c.args.i
    (level_few ctx.set ctx.level c.args.i c.requires.within c.requires.index) lifted_reduced digit_reduced digit_size c.requires.small in (
      search rules,
      (
        search rules,
        (
          omega (arith, limit),
          (
            limit,
            (
              omega (arith, lifted_size),
              (
                omega (arith, lifted_size, digit_size, c.requires.within),
                (
                  omega (arith, lifted_size, c.requires.count),
                  along (Room n lifted digit c.args.sums.now) (ctx.level + 1) (length lifted) (length (data_of ctx.set) + 1) (length digit / 2) (sym lifted_size) (sym half_size) room,
                ),
              ),
            ),
          ),
        ),
      ),
    )

pub returns-clause-small : goal.returns-clause-small
returns-clause-small g c =
    let n : ℕ = g.row.N in
    let ctx : ContextValue = c.args.ctx.now in
    let found = special_modulus ctx.set c.requires.special in
    let moduli : List ℕ = c.key_moduli-moduli.result.now in
    let moduli_count : length moduli ≡ ctx.level + 1 = ap length c.key_moduli-moduli.ensures ∙ keys_count ctx.set ctx.level found.0 found.1 c.requires.within in
    let lifted : List (List ℕ) = c.lift_into.new.out in
    let digit : List (List ℕ) = c.digit.new.into in
    let lifted_size : length lifted ≡ ctx.level + 1
    = c.lift_into.auto.out ∙ ap length c.split-lifted.ensures.first ∙ length-take-le (length moduli) c.args.work.now (omega (arith, moduli_count, c.requires.room)) ∙ moduli_count in
    let rows : c.data_count.result ≡ length (data_of ctx.set) = c.data_count.ensures ∙ ap (λ (set : SetName). length (data_of set)) c.set.ensures.value in
    let rest_size : length c.split-lifted.result.1.now ≡ length (drop (length moduli) c.args.work.now) = ap length c.split-lifted.ensures.second in
    let dropped = length-drop (length moduli) c.args.work.now in
    let digit_size : length digit ≡ 2 * (length (data_of ctx.set) + 1)
    = c.digit.auto.into ∙ ap length c.split-digit.ensures.first
    ∙ length-take-le (2 * (c.data_count.result + 1)) c.split-lifted.result.1.now (omega (arith, rest_size, dropped, rows, moduli_count, c.requires.room)) ∙ ap (λ m. 2 * (m + 1)) rows in
    let half_size : length digit / 2 ≡ length (data_of ctx.set) + 1 = omega (arith, digit_size) in
    let lifted_reduced : AreReduced n (key_in ctx) lifted = subst (λ (qs : List ℕ). AreReduced n qs lifted) c.key_moduli-moduli.ensures c.lift_into.ensures.reduced in
    let digit_reduced : ReducedInTurn n (length (data_of ctx.set) + 1) (key_of ctx.set) digit
    = subst (λ (set : SetName). ReducedInTurn n (length (data_of set) + 1) (key_of set) digit) c.requires.keys_set c.in_ok-digit.ensures.below in
    let added : Added n lifted digit c.args.sums.now c.add_digit.new.sums (ctx.level + 1) (length (data_of ctx.set) + 1)
    = along (Added n lifted digit c.args.sums.now c.add_digit.new.sums) (length lifted) (ctx.level + 1) (length digit / 2) (length (data_of ctx.set) + 1) lifted_size half_size c.add_digit.ensures in
    AreSumsOf-next n ctx found.0 found.1 c.requires.degree c.requires.within lifted digit c.args.sums.now c.add_digit.new.sums c.args.i
    (level_few ctx.set ctx.level c.args.i c.requires.within c.requires.index) lifted_reduced digit_reduced digit_size c.requires.small added

pub returns-clause-sums : goal.returns-clause-sums
returns-clause-sums g c = λ digits told before.
    let n : ℕ = g.row.N in
    let ctx : ContextValue = c.args.ctx.now in
    let found = special_modulus ctx.set c.requires.special in
    let moduli : List ℕ = c.key_moduli-moduli.result.now in
    let moduli_count : length moduli ≡ ctx.level + 1 = ap length c.key_moduli-moduli.ensures ∙ keys_count ctx.set ctx.level found.0 found.1 c.requires.within in
    let lifted : List (List ℕ) = c.lift_into.new.out in
    let digit : List (List ℕ) = c.digit.new.into in
    let lifted_size : length lifted ≡ ctx.level + 1
    = c.lift_into.auto.out ∙ ap length c.split-lifted.ensures.first ∙ length-take-le (length moduli) c.args.work.now (omega (arith, moduli_count, c.requires.room)) ∙ moduli_count in
    let rows : c.data_count.result ≡ length (data_of ctx.set) = c.data_count.ensures ∙ ap (λ (set : SetName). length (data_of set)) c.set.ensures.value in
    let rest_size : length c.split-lifted.result.1.now ≡ length (drop (length moduli) c.args.work.now) = ap length c.split-lifted.ensures.second in
    let dropped = length-drop (length moduli) c.args.work.now in
    let digit_size : length digit ≡ 2 * (length (data_of ctx.set) + 1)
    = c.digit.auto.into ∙ ap length c.split-digit.ensures.first
    ∙ length-take-le (2 * (c.data_count.result + 1)) c.split-lifted.result.1.now (omega (arith, rest_size, dropped, rows, moduli_count, c.requires.room)) ∙ ap (λ m. 2 * (m + 1)) rows in
    let half_size : length digit / 2 ≡ length (data_of ctx.set) + 1 = omega (arith, digit_size) in
    let lifted_reduced : AreReduced n (key_in ctx) lifted = subst (λ (qs : List ℕ). AreReduced n qs lifted) c.key_moduli-moduli.ensures c.lift_into.ensures.reduced in
    let digit_reduced : ReducedInTurn n (length (data_of ctx.set) + 1) (key_of ctx.set) digit
    = subst (λ (set : SetName). ReducedInTurn n (length (data_of set) + 1) (key_of set) digit) c.requires.keys_set c.in_ok-digit.ensures.below in
    let added : Added n lifted digit c.args.sums.now c.add_digit.new.sums (ctx.level + 1) (length (data_of ctx.set) + 1)
    = along (Added n lifted digit c.args.sums.now c.add_digit.new.sums) (length lifted) (ctx.level + 1) (length digit / 2) (length (data_of ctx.set) + 1) lifted_size half_size c.add_digit.ensures in
    let transforms : AreTransforms (map (transform_of ctx.set) (key_in ctx)) lifted (λ r. row_polynomial (slice_index_or c.args.part.rows.now c.args.i []))
    = subst (λ (ts : List Parameters). AreTransforms ts lifted (λ r. row_polynomial (slice_index_or c.args.part.rows.now c.args.i []))) c.key_transforms-transforms.ensures c.lift_into.ensures.transforms in
    let words : AreDigitRows n (length (data_of ctx.set) + 1) digit (digits c.args.kind c.args.element c.args.i)
    = subst (λ (set : SetName). AreDigitRows n (length (data_of set) + 1) digit (digits c.args.kind c.args.element c.args.i)) c.requires.keys_set (c.in_ok-digit.ensures.told digits told) in
    AreDigitSums-next n ctx found.0 found.1 c.requires.degree c.requires.within lifted digit c.args.sums.now c.add_digit.new.sums c.args.i
    (level_few ctx.set ctx.level c.args.i c.requires.within c.requires.index) lifted_reduced digit_reduced digit_size c.requires.small added
    c.args.part.rows.now (digits c.args.kind c.args.element) transforms words before
