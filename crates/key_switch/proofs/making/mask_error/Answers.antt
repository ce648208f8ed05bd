use Rattle.std.proofs.Common.{rules, ◌≡◌, ℕ, ◌^◌, ◌<◌, ◌∙◌, ap, ap₂, arith, sym, subst, ℤ, pos, neg_ℤ, ◌+ℤ◌, ◌*ℤ◌, List, length, map, drop, slice_index}
use Rattle.std.proofs.lemmas.List.{length-drop, length-take-le}
use Rattle.ring_law.specs.Residues.{residue}
use Rattle.ring_law.specs.Rows.{listed_polynomial, word_at}
use Rattle.rns_poly.specs.Rows.{AreReduced, EachRepresents, entrywise_product}
use Rattle.rns_poly.specs.Transforms.{AreTransforms, moduli_of}
use Rattle.neg_ntt.specs.Parameters.{Parameters}
use Rattle.set_table.specs.Sets.{log_degree_of}
use Rattle.bfv_params.specs.Transforms.{transform_of}
use Rattle.bfv_params.specs.Values.{ContextValue}
use Rattle.bfv_params.proofs.Parts.{moduli_of_transforms}
use Rattle.bfv_params.proofs.Products.{reduced_by_transforms, transforms_length, transforms_of_rows}
use Rattle.bfv_params.proofs.Tables.{degree_of-power}
use Rattle.key_switch.specs.Sums.{key_in}
use Rattle.key_switch.proofs.Entries.{word_of_transforms}
use Rattle.key_switch.proofs.OwnWords.{represent_own_words}
use Rattle.key_switch.proofs.making.mask_error.Goals as goal

pub forward_all-requires : goal.forward_all-requires
forward_all-requires g c =
    let ctx : ContextValue = c.args.ctx.now in
    let keys : List ℕ = key_in ctx in
    let named : c.key_moduli-moduli.result.now ≡ keys = c.key_moduli-moduli.ensures in
    let transforms : List Parameters = c.key_transforms-transforms.result.now in
    let is : transforms ≡ map (transform_of ctx.set) keys = c.key_transforms-transforms.ensures in
    let size : length c.split-small.result.0.now ≡ length c.key_moduli-moduli.result.now
    = ap length c.split-small.ensures.first ∙ length-take-le (length c.key_moduli-moduli.result.now) c.args.work.now (omega (arith, ap length named, c.requires.room)) in (
      search rules,
      (
        omega (arith, c.requires.limit),
        (
          c.requires.limit,
          (
            c.set_small.auto.out ∙ size ∙ ap length named ∙ sym (transforms_length ctx.set keys transforms is),
            reduced_by_transforms g.row.N ctx.set keys transforms c.set_small.new.out is
                (subst (λ (qs : List ℕ). AreReduced g.row.N qs c.set_small.new.out) named c.set_small.ensures.reduced),
          ),
        ),
      ),
    )

pub pointwise_into-requires : goal.pointwise_into-requires
pointwise_into-requires g c =
    let ctx : ContextValue = c.args.ctx.now in
    let keys : List ℕ = key_in ctx in
    let named : c.key_moduli-moduli.result.now ≡ keys = c.key_moduli-moduli.ensures in
    let is : c.key_transforms-transforms.result.now ≡ map (transform_of ctx.set) keys = c.key_transforms-transforms.ensures in
    let count : length c.key_moduli-moduli.result.now ≡ length keys = ap length named in
    let same : moduli_of c.key_transforms-transforms.result.now ≡ c.key_moduli-moduli.result.now = ap moduli_of is ∙ moduli_of_transforms ctx.set keys ∙ sym named in
    let small_size : length c.split-small.result.0.now ≡ length c.key_moduli-moduli.result.now
    = ap length c.split-small.ensures.first ∙ length-take-le (length c.key_moduli-moduli.result.now) c.args.work.now (omega (arith, count, c.requires.room)) in
    let rest_size : length c.split-small.result.1.now ≡ length (drop (length c.key_moduli-moduli.result.now) c.args.work.now) = ap length c.split-small.ensures.second in
    let dropped = length-drop (length c.key_moduli-moduli.result.now) c.args.work.now in
    let product_size : length c.split-product.result.0.now ≡ length c.key_moduli-moduli.result.now
    = ap length c.split-product.ensures.first ∙ length-take-le (length c.key_moduli-moduli.result.now) c.split-small.result.1.now (omega (arith, count, rest_size, dropped, c.requires.room)) in (
      search rules,
      (
        search rules,
        (
          omega (arith, c.requires.limit),
          (
            c.requires.limit,
            (
              c.requires.mask_count ∙ sym count,
              (
                c.forward_all.auto.rows ∙ c.set_small.auto.out ∙ small_size,
                (
                  product_size,
                  (
                    subst (λ (qs : List ℕ). AreReduced g.row.N qs c.args.mask.rows.now) (sym named) c.requires.mask_reduced,
                    subst (λ (qs : List ℕ). AreReduced g.row.N qs c.forward_all.new.rows) same c.forward_all.ensures.reduced,
                  ),
                ),
              ),
            ),
          ),
        ),
      ),
    )

pub forward_all-requires-2 : goal.forward_all-requires-2
forward_all-requires-2 g c =
    let ctx : ContextValue = c.args.ctx.now in
    let keys : List ℕ = key_in ctx in
    let named : c.key_moduli-moduli.result.now ≡ keys = c.key_moduli-moduli.ensures in
    let transforms : List Parameters = c.key_transforms-transforms.result.now in
    let is : transforms ≡ map (transform_of ctx.set) keys = c.key_transforms-transforms.ensures in
    let size : length c.split-small.result.0.now ≡ length c.key_moduli-moduli.result.now
    = ap length c.split-small.ensures.first ∙ length-take-le (length c.key_moduli-moduli.result.now) c.args.work.now (omega (arith, ap length named, c.requires.room)) in (
      search rules,
      (
        omega (arith, c.requires.limit),
        (
          c.requires.limit,
          (
            c.set_small-2.auto.out ∙ c.forward_all.auto.rows ∙ c.set_small.auto.out ∙ size ∙ ap length named ∙ sym (transforms_length ctx.set keys transforms is),
            reduced_by_transforms g.row.N ctx.set keys transforms c.set_small-2.new.out is
                (subst (λ (qs : List ℕ). AreReduced g.row.N qs c.set_small-2.new.out) named c.set_small-2.ensures.reduced),
          ),
        ),
      ),
    )

pub sub_into-requires : goal.sub_into-requires
sub_into-requires g c =
    let ctx : ContextValue = c.args.ctx.now in
    let keys : List ℕ = key_in ctx in
    let named : c.key_moduli-moduli.result.now ≡ keys = c.key_moduli-moduli.ensures in
    let is : c.key_transforms-transforms.result.now ≡ map (transform_of ctx.set) keys = c.key_transforms-transforms.ensures in
    let count : length c.key_moduli-moduli.result.now ≡ length keys = ap length named in
    let same : moduli_of c.key_transforms-transforms.result.now ≡ c.key_moduli-moduli.result.now = ap moduli_of is ∙ moduli_of_transforms ctx.set keys ∙ sym named in
    let small_size : length c.split-small.result.0.now ≡ length c.key_moduli-moduli.result.now
    = ap length c.split-small.ensures.first ∙ length-take-le (length c.key_moduli-moduli.result.now) c.args.work.now (omega (arith, count, c.requires.room)) in
    let rest_size : length c.split-small.result.1.now ≡ length (drop (length c.key_moduli-moduli.result.now) c.args.work.now) = ap length c.split-small.ensures.second in
    let dropped = length-drop (length c.key_moduli-moduli.result.now) c.args.work.now in
    let product_size : length c.split-product.result.0.now ≡ length c.key_moduli-moduli.result.now
    = ap length c.split-product.ensures.first ∙ length-take-le (length c.key_moduli-moduli.result.now) c.split-small.result.1.now (omega (arith, count, rest_size, dropped, c.requires.room)) in (
      search rules,
      (
        search rules,
        (
          omega (arith, c.requires.limit),
          (
            c.requires.limit,
            (
              c.forward_all-2.auto.rows ∙ c.set_small-2.auto.out ∙ c.forward_all.auto.rows ∙ c.set_small.auto.out ∙ small_size,
              (
                c.pointwise_into.auto.out ∙ product_size,
                (
                  c.requires.count ∙ sym count,
                  (subst (λ (qs : List ℕ). AreReduced g.row.N qs c.forward_all-2.new.rows) same c.forward_all-2.ensures.reduced, c.pointwise_into.ensures.reduced),
                ),
              ),
            ),
          ),
        ),
      ),
    )

pub returns-clause-words : goal.returns-clause-words
returns-clause-words g c =
    let n : ℕ = g.row.N in
    let ctx : ContextValue = c.args.ctx.now in
    let keys : List ℕ = key_in ctx in
    let s : ℕ → ℤ = listed_polynomial c.args.secret.now.small in
    let e : ℕ → ℤ = listed_polynomial c.args.error.now in
    let named : c.key_moduli-moduli.result.now ≡ keys = c.key_moduli-moduli.ensures in
    let transforms : List Parameters = c.key_transforms-transforms.result.now in
    let is : transforms ≡ map (transform_of ctx.set) keys = c.key_transforms-transforms.ensures in
    let same : moduli_of transforms ≡ c.key_moduli-moduli.result.now = ap moduli_of is ∙ moduli_of_transforms ctx.set keys ∙ sym named in
    let mask : List (List ℕ) = c.args.mask.rows.now in
    let small : List (List ℕ) = c.forward_all.new.rows in
    let error : List (List ℕ) = c.forward_all-2.new.rows in
    let power : n ≡ 2 ^ log_degree_of ctx.set = c.requires.degree ∙ degree_of-power ctx.set in
    let of_secret : AreTransforms (map (transform_of ctx.set) keys) small (λ i. s) =
    subst (λ (listed : List ℤ). AreTransforms (map (transform_of ctx.set) keys) small (λ i. listed_polynomial listed)) c.small.ensures.value
    (transforms_of_rows n ctx.set keys transforms c.set_small.new.out small is c.forward_all.ensures.transforms (λ i. listed_polynomial c.small.result.now)
    (subst (λ (qs : List ℕ). EachRepresents n qs c.set_small.new.out (λ i. listed_polynomial c.small.result.now)) named c.set_small.ensures.represents)) in
    let of_error : AreTransforms (map (transform_of ctx.set) keys) error (λ i. e) =
    transforms_of_rows n ctx.set keys transforms c.set_small-2.new.out error is c.forward_all-2.ensures.transforms (λ i. e)
    (subst (λ (qs : List ℕ). EachRepresents n qs c.set_small-2.new.out (λ i. e)) named c.set_small-2.ensures.represents) in
    let moduli : List ℕ = c.key_moduli-moduli.result.now in
    let mask_own = represent_own_words n moduli mask (subst (λ (qs : List ℕ). AreReduced n qs mask) (sym named) c.requires.mask_reduced) in
    let small_own = represent_own_words n moduli small (subst (λ (qs : List ℕ). AreReduced n qs small) same c.forward_all.ensures.reduced) in
    let error_own = represent_own_words n moduli error (subst (λ (qs : List ℕ). AreReduced n qs error) same c.forward_all-2.ensures.reduced) in
    let product = c.pointwise_into.ensures.represents (λ r k. pos (word_at mask r k)) (λ r k. pos (word_at small r k)) mask_own small_own in
    let Words : List ℕ → Type 0 = λ qs. (r k : ℕ) → r < length qs → k < n
    → word_at c.sub_into.new.out r k ≡ residue (slice_index qs r) (pos (word_at error r k) +ℤ neg_ℤ (pos (word_at mask r k) *ℤ pos (word_at small r k))) in
    let words : Words keys = subst Words named
    (c.sub_into.ensures.represents (λ r k. pos (word_at error r k)) (λ i. entrywise_product (λ k. pos (word_at mask i k)) (λ k. pos (word_at small i k))) error_own product) in
    λ r k within below.
    let inside : k < 2 ^ log_degree_of ctx.set = subst (λ m. k < m) power below in
    words r k within below
    ∙ ap₂ (λ a b. residue (slice_index keys r) (pos a +ℤ neg_ℤ (pos (word_at mask r k) *ℤ pos b)))
    (word_of_transforms ctx.set keys error (λ i. e) of_error r k within inside) (word_of_transforms ctx.set keys small (λ i. s) of_secret r k within inside)

pub returns-clause-reduced : goal.returns-clause-reduced
returns-clause-reduced g c = subst (λ (qs : List ℕ). AreReduced g.row.N qs c.sub_into.new.out) c.key_moduli-moduli.ensures c.sub_into.ensures.reduced
