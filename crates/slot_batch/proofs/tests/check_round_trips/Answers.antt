use Rattle.std.proofs.Common.{◌≡◌, ◌<◌, ◌∙◌, ℕ, List, ap, arith, rules, slice_index, subst, sym}
use Rattle.set_table.specs.Sets.{degree_of, plain_of}
use Rattle.ring_law.specs.Rows.{row_polynomial}
use Rattle.bfv_params.specs.Values.{ContextValue}
use Rattle.slot_batch.proofs.Plaintexts.{IsReduced-slots_of}
use Rattle.slot_batch.proofs.tests.check_round_trips.Goals as goal

pub encode-requires-2 : goal.encode-requires-2
encode-requires-2 g c =
    let set = c.in_ok-ctx.ctx.set in
    let degree : g.row.N ≡ degree_of set = c.requires ∙ ap (λ (v : ContextValue). degree_of v.set) (sym c.in_ok-ctx.ensures) in (
      omega arith,
      (
        search rules,
        λ k inside. subst (λ (values : List ℕ). slice_index values k < plain_of set) (sym c.decode-2.ensures)
            (IsReduced-slots_of set (row_polynomial c.fill.new.row) k (subst (λ (n : ℕ). k < n) degree inside)),
      ),
    )
