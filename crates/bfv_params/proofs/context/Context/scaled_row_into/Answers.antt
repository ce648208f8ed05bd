use Rattle.std.proofs.Common.{ℕ, ◌<◌, ◌≤◌, ◌^◌, length, arith, sym, subst, slice_index, List}
use Rattle.std.specs.Int.{IsGcd}
use Rattle.ring_law.specs.Rows.{IsReduced}
use Rattle.bfv_params.specs.Moduli.{data_at}
use Rattle.bfv_params.proofs.Coprimality.{data_length, plain_coprime}
use Rattle.bfv_params.proofs.Tables.{degree_of-limit, plain_of-limit}
use Rattle.bfv_params.proofs.context.Context.scaled_row_into.Goals as goal

pub scale_row-requires : goal.scale_row-requires
scale_row-requires g c =
    let set = c.self.inside.set in
    let m = c.self.inside.moduli in
    let kept = c.self.invariant.1 in
    let level : ℕ = length m.base in
    let degree : g.row.N ≤ 32768 = subst (λ n. n ≤ 32768) (sym c.self.invariant.0) (degree_of-limit set) in
    let small : m.plain < 2 ^ 31 = subst (λ t. t < 2 ^ 31) (sym kept.plain_is) (plain_of-limit set) in
    let place : c.args.i < level = rw (← c.self.view_is) at c.requires.place in
    let listed : c.args.i < length (data_at set level) = subst (λ len. c.args.i < len) (data_length set level kept.within) place in
    let Coprime : ℕ → List ℕ → Type 0 = λ t base. IsGcd t (slice_index base c.args.i) 1 in
    let coprime : Coprime m.plain m.base =
    subst (Coprime m.plain) (sym kept.base_is) (subst (λ t. Coprime t (data_at set level)) (sym kept.plain_is) (plain_coprime set level kept.within c.args.i listed)) in
    let below : IsReduced g.row.N m.plain c.args.plain.now = subst (λ t. IsReduced g.row.N t c.args.plain.now) (sym kept.plain_is) (rw (← c.self.view_is) at c.requires.below) in
    (omega (arith, degree), (degree, (place, (small, (coprime, below)))))
