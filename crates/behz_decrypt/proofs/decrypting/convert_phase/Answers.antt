use Rattle.std.proofs.Common.{◌≡◌, ◌∙◌, ◌<◌, ◌*◌, ◌%◌, ℕ, ℤ, ap, arith, length, pos, slice_index, subst, take, List}
use Rattle.std.specs.Prelude.{◌*ℤ◌}
use Rattle.std.proofs.lemmas.List.{get_or-take}
use Rattle.set_table.specs.Sets.{gamma, plain_of}
use Rattle.ring_law.specs.Moduli.{product}
use Rattle.ring_law.specs.Rows.{Represents}
use Rattle.rns_poly.specs.Rows.{EachRepresents, multiple}
use Rattle.fast_conv.specs.Converters.{AreFastConversions, Conversion}
use Rattle.bfv_params.specs.Contexts.{data_in}
use Rattle.bfv_params.proofs.Products.{AreParameters-data_at, positive_at}
use Rattle.behz_decrypt.proofs.ScaledPhase.{phase_scaled}
use Rattle.behz_decrypt.proofs.decrypting.convert_phase.Goals as goal

pub returns : goal.returns
returns g c = λ x represents.
    let n : ℕ = g.row.N in
    let ctx = c.args.ctx.now in
    let t : ℕ = plain_of ctx.set in
    let moduli : List ℕ = data_in ctx in
    let listed : List ℕ = c.data_moduli-moduli.result.now in
    let count : ℕ = c.len-count.result in
    let all : List ℕ = c.set_factors.new.factors in
    let factors : List ℕ = take count all in
    let old = c.args.phase.now in
    let new = c.scale_each.new.rows in
    let Scaled : List ℕ → Type 0 = λ qs. (u : ℕ → ℕ → ℤ) → EachRepresents n qs old u → EachRepresents n qs new (λ i. multiple (slice_index factors i) (u i)) in
    let Factors : List ℕ → ℕ → ℕ → Type 0 = λ qs t p. (i : ℕ) → i < length qs → slice_index all i ≡ p * t % slice_index qs i in
    let are : Factors moduli t gamma =
    subst (λ qs. Factors qs t gamma) c.data_moduli-moduli.ensures.value
    (subst (λ t. Factors listed t gamma) (c.value.ensures.value ∙ c.plain_modulus.ensures)
    (subst (Factors listed c.value.result) (c.value-2.ensures.value ∙ c.gamma.ensures) c.set_factors.ensures)) in
    let in_base : count ≡ length moduli = c.len-count.ensures.value ∙ ap length c.data_base.ensures in
    let scaled : ℕ → ℤ = λ k. pos gamma *ℤ (pos t *ℤ x k) in
    let scaled_is : Represents n moduli new scaled =
    phase_scaled n moduli factors old new gamma t x (positive_at n ctx.set moduli (AreParameters-data_at n ctx.set ctx.level c.data_moduli-moduli.ensures.degree))
    (λ i within. get_or-take count all i 0 (omega (arith, in_base)) ∙ are i within)
    (subst Scaled c.data_moduli-moduli.ensures.value c.scale_each.ensures.represents) represents in
    let Converts : Conversion → Type 0 = λ v. (x : ℕ → ℤ) → Represents n v.from new x
    → (y : ℕ → ℤ) × AreFastConversions n (product v.from) (length v.from) x y × Represents n v.to c.convert.new.to y in
    let found = subst Converts c.plain_conv.ensures c.convert.ensures scaled scaled_is in
    let counted : length moduli ≡ ctx.level = subst (λ (qs : List ℕ). length qs ≡ ctx.level) c.data_moduli-moduli.ensures.value c.data_moduli-moduli.ensures.count in
    (found.0, subst (λ l. AreFastConversions n (product moduli) l scaled found.0) counted found.1, found.2)
