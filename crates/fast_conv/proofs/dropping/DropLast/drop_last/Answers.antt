use Rattle.std.proofs.Common.{ℕ, arith, ℤ, [], ◌∷◌, ◌++◌, subst}
use Rattle.ring_law.specs.Rows.{Represents}
use Rattle.bfv_model.specs.Keys.{dropped_quotient}
use Rattle.fast_conv.specs.Converters.{ModulusDrop}
use Rattle.fast_conv.proofs.DroppedRows.{rows_drop}
use Rattle.fast_conv.proofs.dropping.DropLast.drop_last.Goals as goal

pub returns-clause-kept : goal.returns-clause-kept
returns-clause-kept g c =
    let Drops : ModulusDrop → Type 0 = λ v. (x : ℕ → ℤ) → Represents g.row.N (v.kept ++ v.dropped ∷ []) c.args.rows.now x
    → Represents g.row.N v.kept c.loop-k.rows (λ k. dropped_quotient v.dropped (x k)) in
    subst Drops c.self.view_is
    (rows_drop g.row.N c.self.inside.dropped c.self.inside.kept.items c.args.rows.now c.loop-k.rows c.self.invariant.0 c.self.invariant.1 (λ i m within l. c.loop-k.invariant.done i m within (omega arith)))
