use Rattle.std.proofs.Common.{rules, ◌≡◌, ◌∙◌, ℕ, List, ap, arith, length, replicate, subst, sym}
use Rattle.std.proofs.lemmas.List.{length-replicate}
use Rattle.rns_poly.specs.Rows.{AreReduced}
use Rattle.bfv_params.specs.Contexts.{data_in}
use Rattle.galois_turn.proofs.tests.turned_checksum.Goals as goal

pub turn_rows-requires : goal.turn_rows-requires
turn_rows-requires g c =
    let n : ℕ = g.row.N in
    let to_count : length c.view_mut.result.now ≡ c.args.ctx.now.level
    = ap length (c.view_mut.ensures.value ∙ c.in_ok-to.ensures) ∙ length-replicate c.rows.result (replicate n 0) ∙ c.rows.ensures ∙ c.in_ok-from.ensures.count in (
      search rules,
      (
        search rules,
        (
          omega (arith, c.requires.degree),
          (
            c.requires.odd,
            (
              c.requires.element_below,
              (
                ap length c.view.ensures ∙ c.in_ok-from.ensures.count,
                (
                  to_count,
                  subst (λ (rows : List (List ℕ)). AreReduced n (data_in c.args.ctx.now) rows) (sym c.view.ensures) c.in_ok-from.ensures.reduced,
                ),
              ),
            ),
          ),
        ),
      ),
    )
