use Rattle.std.proofs.Common.{◌≡◌, ℕ, ◌*◌, ◌%◌, ◌<◌, ◌∙◌, ap₂, arith, length, List, slice_index, subst, sym, ℤ}
use Rattle.ring_law.specs.Rows.{word_at}
use Rattle.ring_law.proofs.Residues.{residue-mul}
use Rattle.bfv_params.specs.Contexts.{data_in}
use Rattle.bfv_params.proofs.Products.{AreParameters-data_at, positive_at, transforms_of_product}
use Rattle.key_switch.proofs.sources.square_rows.Goals as goal

pub returns-clause-transforms : goal.returns-clause-transforms
returns-clause-transforms g c = λ x transforms.
    let n : ℕ = g.row.N in
    let ctx = c.args.ctx.now in
    let moduli = data_in ctx in
    let named = c.data_moduli-moduli in
    let fit = AreParameters-data_at n ctx.set ctx.level named.ensures.degree in
    let Squares : List ℕ → Type 0 = λ qs. (i k : ℕ) → i < length qs → k < n
    → word_at c.loop-i.rows i k ≡ word_at c.args.rows.now i k * word_at c.args.rows.now i k % slice_index qs i in
    let squares : Squares moduli = subst Squares named.ensures.value (λ i k within below. c.loop-i.invariant.squares i k (omega arith) below) in
    transforms_of_product n ctx.set moduli fit c.args.rows.now c.args.rows.now c.loop-i.rows x x transforms transforms
    (λ (u v : ℕ → ℕ → ℤ) of_u of_v i k within below. squares i k within below
    ∙ ap₂ (λ a b. a * b % slice_index moduli i) (of_u i k within below) (of_v i k within below)
    ∙ sym (residue-mul (slice_index moduli i) (u i k) (v i k) (positive_at n ctx.set moduli fit i within)))
