use Rattle.std.proofs.Common.{rules, ◌≡◌, ◌∙◌, ◌+◌, ◌*◌, ◌%◌, ◌<◌, ℕ, List, [], ap, arith, get_or, length, slice_index, subst, sym}
use Rattle.std.proofs.Math.Nat.{mul-add-mod_self_right}
use Rattle.std.proofs.lemmas.Option.{get_or_from_slice_get}
use Rattle.set_table.specs.declared.SetName.{SetName}
use Rattle.set_table.specs.Sets.{data_of, key_of}
use Rattle.ring_law.specs.Rows.{IsReduced}
use Rattle.key_switch.proofs.DigitRows.{digit_within}
use Rattle.key_switch.proofs.tests.put_digit.Goals as goal

pub set_row-requires : goal.set_row-requires
set_row-requires g c =
    let n : ℕ = g.row.N in
    let set : SetName = c.args.key.now.set in
    let digit : List (List ℕ) = c.args.digit.rows.now in
    let moduli : ℕ = length (data_of set) in
    let place : ℕ = c.args.i * 2 * c.args.count + c.loop-r.r in
    let within : c.loop-r.r < 2 * c.args.count = omega (arith, c.rows-r-end.ensures, c.requires.rows) in
    let last = digit_within moduli c.args.count c.args.i c.requires.index c.requires.count in
    let in_range : place < 2 * moduli * (moduli + 1) = omega (arith, last, within) in
    let row : get_or digit c.loop-r.r [] ≡ c.row.result.now = get_or_from_slice_get digit c.loop-r.r c.row.result.now [] c.row.ensures in
    let turn : c.loop-r.r % c.args.count ≡ place % (moduli + 1)
    = sym (mul-add-mod_self_right (c.args.i * 2) c.args.count c.loop-r.r) ∙ ap (λ m. place % m) c.requires.count in
    let reduced : IsReduced n (slice_index (key_of set) (place % (moduli + 1))) c.row.result.now
    = subst (λ found. IsReduced n (slice_index (key_of set) (place % (moduli + 1))) found) row
    (subst (λ p. IsReduced n (slice_index (key_of set) p) (get_or digit c.loop-r.r [])) turn (c.requires.reduced c.loop-r.r (omega (arith, within, c.requires.rows)))) in (
      search rules,
      (
        omega (arith, c.requires.degree),
        (
          subst (λ (s : SetName). place < 2 * length (data_of s) * (length (data_of s) + 1)) (sym c.loop-r.invariant.set) in_range,
          subst (λ (s : SetName). IsReduced n (slice_index (key_of s) (place % (length (data_of s) + 1))) c.row.result.now) (sym c.loop-r.invariant.set) reduced,
        ),
      ),
    )
