use Rattle.std.proofs.Common.{◌≡◌, ℕ, ◌<◌, ◌≤◌, ◌^◌, length, arith, sym, subst, slice_index, List}
use Rattle.std.specs.Int.{IsGcd}
use Rattle.std.specs.List.{EachIndex}
use Rattle.ring_law.specs.Rows.{IsReduced}
use Rattle.bfv_params.specs.Moduli.{data_at}
use Rattle.bfv_params.proofs.Coprimality.{plain_coprime}
use Rattle.bfv_params.proofs.Tables.{degree_of-limit, plain_of-limit}
use Rattle.bfv_params.proofs.context.Context.scaled_into.Goals as goal

pub scale_rows-requires : goal.scale_rows-requires
scale_rows-requires g c =
    let set = c.self.inside.set in
    let m = c.self.inside.moduli in
    let kept = c.self.invariant.1 in
    let degree : g.row.N ≤ 32768 = subst (λ n. n ≤ 32768) (sym c.self.invariant.0) (degree_of-limit set) in
    let small : m.plain < 2 ^ 31 = subst (λ t. t < 2 ^ 31) (sym kept.plain_is) (plain_of-limit set) in
    let Coprime : ℕ → List ℕ → Type 0 = λ t base. EachIndex base (λ i. IsGcd t (slice_index base i) 1) in
    let coprime : Coprime m.plain m.base = subst (Coprime m.plain) (sym kept.base_is) (subst (λ t. Coprime t (data_at set (length m.base))) (sym kept.plain_is) (plain_coprime set (length m.base) kept.within)) in
    let below : IsReduced g.row.N m.plain c.args.plain.now = subst (λ t. IsReduced g.row.N t c.args.plain.now) (sym kept.plain_is) (rw (← c.self.view_is) at c.requires.below) in
    let rows : length c.args.out.now ≡ length m.base = rw (← c.self.view_is) at c.requires.rows in
    (omega (arith, degree), (degree, (small, (coprime, (below, rows)))))
