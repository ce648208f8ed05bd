use Rattle.std.proofs.Common.{rules, ◌≡◌, ℕ, ◌+◌, ◌%◌, ◌^◌, ◌<◌, ◌≤◌, ◌∙◌, ap, ap₂, arith, sym, subst, List, [], ◌∷◌, ◌++◌, length, map, slice_index, Option, Some, unwrap_or}
use Rattle.std.proofs.lemmas.List.{length-drop, length-take-le}
use Rattle.set_table.specs.Sets.{log_degree_of, special_of}
use Rattle.ring_law.specs.Moduli.{AllAboveOne}
use Rattle.ring_law.specs.Rows.{Represents, word_at}
use Rattle.ring_law.specs.Transform.{transform_entry}
use Rattle.ring_law.proofs.Moduli.{AllAboveOne-append_left}
use Rattle.rns_poly.specs.Rows.{AreReduced, EachRepresents}
use Rattle.rns_poly.specs.Transforms.{AreTransforms, moduli_of}
use Rattle.bfv_model.specs.Keys.{dropped_quotient}
use Rattle.bfv_params.specs.Contexts.{data_in}
use Rattle.bfv_params.specs.Transforms.{transform_of}
use Rattle.bfv_params.specs.Values.{ContextValue}
use Rattle.bfv_params.proofs.Coprimality.{data_length}
use Rattle.bfv_params.proofs.Parts.{moduli_of_transforms}
use Rattle.bfv_params.proofs.Products.{reduced_by_transforms, rows_of_transforms, transforms_length}
use Rattle.bfv_params.proofs.Tables.{degree_of-limit, degree_of-power}
use Rattle.key_switch.specs.Sums.{key_in, sum_word}
use Rattle.key_switch.proofs.DroppedRows.{AreReduced-represented, divided, sum_of_rows}
use Rattle.key_switch.proofs.Entries.{transforms_from_words}
use Rattle.key_switch.proofs.KeyLevels.{keys_above_one, keys_are, keys_count, keys_invertible, special_modulus}
use Rattle.key_switch.proofs.switching.write_part.Goals as goal

pub reduce_sums-requires : goal.reduce_sums-requires
reduce_sums-requires g c =
    let ctx : ContextValue = c.args.ctx.now in
    let found = special_modulus ctx.set c.requires.special in
    let limit : g.row.N ≤ 32768 = subst (λ m. m ≤ 32768) (sym c.requires.degree) (degree_of-limit ctx.set) in
    let count : length c.key_moduli-moduli.result.now ≡ ctx.level + 1 = ap length c.key_moduli-moduli.ensures ∙ keys_count ctx.set ctx.level found.0 found.1 c.requires.within in (
      search rules,
      (
        omega (arith, limit),
        (
          limit,
          (
            ap length c.split-high.ensures.first ∙ length-take-le (length c.key_moduli-moduli.result.now) c.args.sums.now (omega (arith, count, c.requires.sums_count)),
            ap length c.split-high.ensures.second ∙ length-drop (length c.key_moduli-moduli.result.now) c.args.sums.now ∙ omega (arith, count, c.requires.sums_count),
          ),
        ),
      ),
    )

pub inverse_all-requires : goal.inverse_all-requires
inverse_all-requires g c =
    let ctx : ContextValue = c.args.ctx.now in
    let keys : List ℕ = key_in ctx in
    let found = special_modulus ctx.set c.requires.special in
    let limit : g.row.N ≤ 32768 = subst (λ m. m ≤ 32768) (sym c.requires.degree) (degree_of-limit ctx.set) in
    let named : c.key_moduli-moduli.result.now ≡ keys = c.key_moduli-moduli.ensures in
    let count : length c.key_moduli-moduli.result.now ≡ ctx.level + 1 = ap length named ∙ keys_count ctx.set ctx.level found.0 found.1 c.requires.within in
    let low_size : length c.split-high.result.1.now ≡ length c.key_moduli-moduli.result.now
    = ap length c.split-high.ensures.second ∙ length-drop (length c.key_moduli-moduli.result.now) c.args.sums.now ∙ omega (arith, count, c.requires.sums_count) in (
      search rules,
      (
        omega (arith, limit),
        (
          limit,
          (
            c.reduce_sums.auto.low ∙ low_size ∙ ap length named ∙ sym (transforms_length ctx.set keys c.key_transforms.result.now c.key_transforms.ensures),
            reduced_by_transforms g.row.N ctx.set keys c.key_transforms.result.now c.reduce_sums.new.low c.key_transforms.ensures
                (subst (λ (qs : List ℕ). AreReduced g.row.N qs c.reduce_sums.new.low) named c.reduce_sums.ensures.reduced),
          ),
        ),
      ),
    )

pub drop_last-requires : goal.drop_last-requires
drop_last-requires g c =
    let ctx : ContextValue = c.args.ctx.now in
    let found = special_modulus ctx.set c.requires.special in
    let limit : g.row.N ≤ 32768 = subst (λ m. m ≤ 32768) (sym c.requires.degree) (degree_of-limit ctx.set) in
    let count : length c.key_moduli-moduli.result.now ≡ ctx.level + 1 = ap length c.key_moduli-moduli.ensures ∙ keys_count ctx.set ctx.level found.0 found.1 c.requires.within in
    let low_size : length c.split-high.result.1.now ≡ ctx.level + 1
    = ap length c.split-high.ensures.second ∙ length-drop (length c.key_moduli-moduli.result.now) c.args.sums.now ∙ omega (arith, count, c.requires.sums_count) in
    let kept : length c.drop_conv.result.now.kept ≡ ctx.level = ap length c.drop_conv.ensures.kept ∙ sym (data_length ctx.set ctx.level c.requires.within) in
    (omega (arith, limit), (limit, c.inverse_all.auto.rows ∙ c.reduce_sums.auto.low ∙ low_size ∙ ap (λ l. l + 1) (sym kept)))

pub returns-clause-represents : goal.returns-clause-represents
returns-clause-represents g c = λ P y special words.
    let n : ℕ = g.row.N in
    let ctx : ContextValue = c.args.ctx.now in
    let keys : List ℕ = key_in ctx in
    let moduli : List ℕ = c.key_moduli-moduli.result.now in
    let named : moduli ≡ keys = c.key_moduli-moduli.ensures in
    let level_count : length keys ≡ ctx.level + 1 = keys_count ctx.set ctx.level P special c.requires.within in
    let count : length moduli ≡ ctx.level + 1 = ap length named ∙ level_count in
    let power : n ≡ 2 ^ log_degree_of ctx.set = c.requires.degree ∙ degree_of-power ctx.set in
    let low : List (List ℕ) = c.reduce_sums.new.low in
    let entries : (r k : ℕ) → r < length keys → k < 2 ^ log_degree_of ctx.set
    → word_at low r k ≡ transform_entry (slice_index keys r) (log_degree_of ctx.set) (transform_of ctx.set (slice_index keys r)).root y k = λ r k within below.
    let in_moduli : r < length moduli = omega (arith, within, level_count, count) in
    let inside : k < n = subst (λ m. k < m) (sym power) below in
    c.reduce_sums.ensures.residues r k in_moduli inside
    ∙ ap₂ (λ s (qs : List ℕ). s % slice_index qs r)
    (sum_of_rows (length moduli) c.args.sums.now c.split-high.result.0.now c.split-high.result.1.now r k c.split-high.ensures.first c.split-high.ensures.second in_moduli
    ∙ ap (λ m. sum_word m c.args.sums.now 0 r k) count) named
    ∙ words r k (omega (arith, within, level_count)) inside in
    let transformed : AreTransforms (map (transform_of ctx.set) keys) low (λ r. y) = transforms_from_words ctx.set keys low (λ r. y) entries in
    let rows : EachRepresents n keys c.inverse_all.new.rows (λ r. y)
    = rows_of_transforms n ctx.set keys c.key_transforms.result.now low c.inverse_all.new.rows c.key_transforms.ensures c.inverse_all.ensures.represents (λ r. y) transformed in
    let dropped : ℕ = c.drop_conv.result.now.dropped in
    let same : P ≡ dropped = ap (λ (o : Option ℕ). unwrap_or o P) (sym special ∙ c.drop_conv.ensures.dropped) in
    let base : keys ≡ c.drop_conv.result.now.kept ++ dropped ∷ []
    = keys_are ctx.set ctx.level P special c.requires.within ∙ ap₂ (λ (qs : List ℕ) p. qs ++ p ∷ []) (sym c.drop_conv.ensures.kept) same in
    subst (λ p. Represents n (data_in ctx) c.copy_from_slice.new.self (λ k. dropped_quotient p (y k))) (sym same)
    (divided n dropped (length c.args.out.now) keys (data_in ctx) c.drop_conv.result.now.kept c.inverse_all.new.rows c.drop_last.new.rows c.copy_from_slice.new.self
    base c.drop_conv.ensures.kept c.copy_from_slice.ensures.after (omega (arith, c.requires.count, data_length ctx.set ctx.level c.requires.within)) c.drop_last.ensures.kept y rows)

pub returns-clause-reduced : goal.returns-clause-reduced
returns-clause-reduced g c =
    let n : ℕ = g.row.N in
    let ctx : ContextValue = c.args.ctx.now in
    let keys : List ℕ = key_in ctx in
    let found = special_modulus ctx.set c.requires.special in
    let dropped : ℕ = c.drop_conv.result.now.dropped in
    let special : special_of ctx.set ≡ Some dropped = c.drop_conv.ensures.dropped in
    let are : keys ≡ data_in ctx ++ dropped ∷ [] = keys_are ctx.set ctx.level dropped special c.requires.within in
    let base : keys ≡ c.drop_conv.result.now.kept ++ dropped ∷ [] = are ∙ ap (λ (qs : List ℕ). qs ++ dropped ∷ []) (sym c.drop_conv.ensures.kept) in
    let above : AllAboveOne keys = keys_above_one ctx.set ctx.level dropped special c.requires.within in
    let reduced : AreReduced n keys c.inverse_all.new.rows
    = subst (λ (qs : List ℕ). AreReduced n qs c.inverse_all.new.rows) (ap moduli_of c.key_transforms.ensures ∙ moduli_of_transforms ctx.set keys) c.inverse_all.ensures.reduced in
    AreReduced-represented n keys (data_in ctx) c.inverse_all.new.rows c.copy_from_slice.new.self (λ x k. dropped_quotient dropped (x k))
    (keys_invertible ctx.set ctx.level dropped special c.requires.within) above
    (AllAboveOne-append_left (data_in ctx) (dropped ∷ []) (subst AllAboveOne are above)) reduced
    (divided n dropped (length c.args.out.now) keys (data_in ctx) c.drop_conv.result.now.kept c.inverse_all.new.rows c.drop_last.new.rows c.copy_from_slice.new.self
    base c.drop_conv.ensures.kept c.copy_from_slice.ensures.after (omega (arith, c.requires.count, data_length ctx.set ctx.level c.requires.within)) c.drop_last.ensures.kept)
