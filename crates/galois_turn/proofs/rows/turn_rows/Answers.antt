use Rattle.std.proofs.Common.{◌≡◌, ◌≢◌, ℕ, ◌<◌, ◌∙◌, List, [], arith, below_more, get_or, get_or-set_other, get_or-set_same, length, subst, sym}
use Rattle.std.proofs.lemmas.List.{get_or_default}
use Rattle.ring_law.specs.Rows.{IsReduced}
use Rattle.rns_poly.specs.Rows.{AreReduced}
use Rattle.bfv_params.proofs.Products.{degree_of-least}
use Rattle.galois_turn.proofs.TurnedRows.{HasInverse-degree, Turns}
use Rattle.galois_turn.proofs.rows.turn_rows.Goals as goal

pub turn_row-requires : goal.turn_row-requires
turn_row-requires g c =
    let n : ℕ = g.row.N in
    let named = c.data_moduli-moduli in
    let least = degree_of-least c.args.ctx.now.set in
    let within : c.loop-i.i < length named.result.now = omega arith in
    let reduced : AreReduced n named.result.now c.args.from.rows.now
    = subst (λ (qs : List ℕ). AreReduced n qs c.args.from.rows.now) (sym named.ensures.value) c.requires.from_reduced in
    let at : get_or named.result.now c.loop-i.i 0 ≡ c.index-moduli-i.result
    = get_or_default named.result.now c.loop-i.i 0 c.index-moduli-i.result within ∙ sym c.index-moduli-i.is in (
      omega (arith, named.ensures.limit),
      (
        (omega (arith, least, named.ensures.degree), named.ensures.limit),
        (
          c.requires.element_below,
          (
            HasInverse-degree n c.args.g c.args.ctx.now.set named.ensures.degree c.requires.odd,
            subst (λ q. IsReduced n q (get_or c.args.from.rows.now c.loop-i.i [])) at (reduced c.loop-i.i within),
          ),
        ),
      ),
    )

pub loop-i-preserved : goal.loop-i-preserved
loop-i-preserved g c =
    let n : ℕ = g.row.N in
    let i : ℕ = c.loop-i.i in
    let moduli : List ℕ = c.data_moduli-moduli.result.now in
    let within : i < length moduli = omega arith in
    let in_rows : i < length c.loop-i.to = omega (arith, c.data_moduli-moduli.ensures.count) in
    let at : c.index-moduli-i.result ≡ get_or moduli i 0 = c.index-moduli-i.is ∙ get_or_default moduli i c.index-moduli-i.result 0 within in record {
      turned = below_more _ _ (λ j less. let other : j ≢ i = omega arith in rw get_or-set_other (c.loop-i.invariant.turned j less))
          (rw get_or-set_same (subst (λ q. Turns n q c.args.g (get_or c.args.from.rows.now i []) c.turn_row.new.to) at c.turn_row.ensures.represents));
      reduced = below_more _ _ (λ j less. let other : j ≢ i = omega arith in rw get_or-set_other (c.loop-i.invariant.reduced j less))
          (rw get_or-set_same (subst (λ q. IsReduced n q c.turn_row.new.to) at c.turn_row.ensures.reduced));
    }
