-- The moduli of products, and the transforms modulo them.
use Rattle.std.proofs.Common.{◌≡◌, ℕ, zero, suc, ◌+◌, ◌-◌, ◌*◌, ◌<◌, ◌≤◌, ◌∙◌, arith, refl, sym, ap, List, [], ◌∷◌, Some, length, map, take, get_or, length-append, mul-le-mul_left, slice_index}
use Rattle.std.specs.Option.{option_map}
use Rattle.std.specs.Prelude.{slice_get}
use Rattle.std.proofs.lemmas.List.{get_or-append-add, get_or-map, get_or_append_left, length-map}
use Rattle.std.proofs.lemmas.Option.{get_or_from_slice_get, slice_get-get_or, slice_get-map, slice_get_within}
use Rattle.set_table.specs.declared.SetName.{SetName}
use Rattle.set_table.specs.declared.SetName.TheVariants.{One16, Toy16, S4096, S8192, S16384}
use Rattle.set_table.specs.Sets.{aux_of, data_of, m_sk}
use Rattle.ring_law.specs.Moduli.{AllAboveOne, product}
use Rattle.ring_law.proofs.Moduli.{AllAboveOne-take, PairwiseInvertible, PairwiseInvertible-take, product_positive}
use Rattle.ring_law.proofs.ModuliTests.{AllAboveOne-from_test}
use Rattle.neg_ntt.specs.Parameters.{Parameters}
use Rattle.bfv_model.proofs.Sets.{AllAboveOne-data_of, PairwiseInvertible-data_of}
use Rattle.bfv_params.specs.Contexts.{data_in, modulus_in, scratch_rows_in}
use Rattle.bfv_params.specs.Moduli.{wide_of}
use Rattle.bfv_params.specs.Transforms.{transform_of}
use Rattle.bfv_params.specs.Values.{ContextValue}
use Rattle.bfv_params.proofs.Coprimality.{data_length}
use Rattle.bfv_params.proofs.Products.{transforms_length}
use Rattle.bfv_tensor.specs.Rows.{part_rows, product_moduli, product_transforms}

pub data_above_one : (ctx : ContextValue) → AllAboveOne (data_in ctx)
data_above_one ctx = AllAboveOne-take ctx.level (data_of ctx.set) (AllAboveOne-data_of ctx.set)

pub data_invertible : (ctx : ContextValue) → PairwiseInvertible (data_in ctx)
data_invertible ctx = PairwiseInvertible-take ctx.level (data_of ctx.set) (PairwiseInvertible-data_of ctx.set)

pub modulus_positive : (ctx : ContextValue) → 0 < modulus_in ctx
modulus_positive ctx = product_positive (data_in ctx) (data_above_one ctx)

pub wide_above_one : (set : SetName) → AllAboveOne (wide_of set)
wide_above_one One16 = AllAboveOne-from_test (wide_of One16) refl
wide_above_one Toy16 = AllAboveOne-from_test (wide_of Toy16) refl
wide_above_one S4096 = AllAboveOne-from_test (wide_of S4096) refl
wide_above_one S8192 = AllAboveOne-from_test (wide_of S8192) refl
wide_above_one S16384 = AllAboveOne-from_test (wide_of S16384) refl

-- a part has a row for each modulus
pub part_rows_is : (ctx : ContextValue) → ctx.level ≤ length (data_of ctx.set) → length (product_moduli ctx) ≡ part_rows ctx
part_rows_is ctx within =
    length-append (data_in ctx) (wide_of ctx.set) ∙ ap (λ (l : ℕ). l + length (wide_of ctx.set)) (sym (data_length ctx.set ctx.level within))

-- rows to work in are enough for the two factors and the product
pub enough_rows : (ctx : ContextValue) → 7 * part_rows ctx ≤ scratch_rows_in ctx
enough_rows ctx = omega (arith, length-append (aux_of ctx.set) (m_sk ∷ []))

-- the first moduli have no greater product
pub product_take_le : (l : ℕ) (qs : List ℕ) → AllAboveOne qs → product (take l qs) ≤ product qs
unfolding product
product_take_le zero qs big = product_positive qs big
product_take_le (suc l) [] big = omega arith
product_take_le (suc l) (q ∷ qs) big = mul-le-mul_left q (product_take_le l qs (λ i within. big (suc i) (omega arith)))

-- ---- transforms by their places
-- the transform at a place
pub transform_is : (set : SetName) (qs : List ℕ) (i : ℕ) → i < length qs → slice_get (map (transform_of set) qs) i ≡ Some (transform_of set (slice_index qs i))
transform_is set qs i within = slice_get-map (transform_of set) qs i ∙ ap (option_map (transform_of set)) (slice_get-get_or qs i 0 within)

-- a place that has a transform has a modulus
pub place_within : (set : SetName) (qs : List ℕ) (i : ℕ) (t : Parameters) → slice_get (map (transform_of set) qs) i ≡ Some t → i < length qs
place_within set qs i t is = rw length-map at (slice_get_within (map (transform_of set) qs) i t is)

pub transform_at_is : (set : SetName) (qs : List ℕ) (i : ℕ) (t : Parameters) → slice_get (map (transform_of set) qs) i ≡ Some t → transform_of set (slice_index qs i) ≡ t
transform_at_is set qs i t is =
    sym (get_or-map (transform_of set) qs i 0 t (place_within set qs i t is)) ∙ get_or_from_slice_get (map (transform_of set) qs) i t t is

-- its modulus is the one at the place
pub modulus_at_is : (set : SetName) (qs : List ℕ) (i : ℕ) (t : Parameters) → slice_get (map (transform_of set) qs) i ≡ Some t → slice_index qs i ≡ t.modulus
modulus_at_is set qs i t is = ap (λ (u : Parameters). u.modulus) (transform_at_is set qs i t is)

-- what an element of the list is
pub transform_listed : (set : SetName) (qs : List ℕ) (transforms : List Parameters) (i : ℕ) (t : Parameters) → transforms ≡ map (transform_of set) qs → i < length qs
    → t ≡ get_or transforms i t → t ≡ transform_of set (slice_index qs i)
transform_listed set qs transforms i t are within is =
    is ∙ ap (λ (ts : List Parameters). get_or ts i t) are ∙ get_or-map (transform_of set) qs i 0 t within

-- ---- the transforms of a context
-- one modulo a data modulus
pub listed_first : (ctx : ContextValue) (transforms : List Parameters) (i : ℕ) (t : Parameters) → transforms ≡ map (transform_of ctx.set) (data_in ctx) → i < length transforms
    → t ≡ get_or transforms i t → slice_get (product_transforms ctx) i ≡ Some t
listed_first ctx transforms i t are within is =
    let set = ctx.set in
    let count = transforms_length set (data_in ctx) transforms are in
    let in_data : i < length (data_in ctx) = omega arith in
    transform_is set (product_moduli ctx) i (omega (arith, length-append (data_in ctx) (wide_of set)))
    ∙ ap (λ (q : ℕ). Some (transform_of set q)) (get_or_append_left (data_in ctx) (wide_of set) 0 i in_data)
    ∙ ap Some (sym (transform_listed set (data_in ctx) transforms i t are in_data is))

-- and one modulo another
pub listed_behind : (ctx : ContextValue) (transforms others : List Parameters) (i : ℕ) (t : Parameters) → transforms ≡ map (transform_of ctx.set) (data_in ctx)
    → others ≡ map (transform_of ctx.set) (wide_of ctx.set) → length transforms ≤ i → i < length transforms + length (wide_of ctx.set)
    → t ≡ get_or others (i - length transforms) t → slice_get (product_transforms ctx) i ≡ Some t
listed_behind ctx transforms others i t are others_are from within is =
    let set = ctx.set in
    let count = transforms_length set (data_in ctx) transforms are in
    let place : i ≡ length (data_in ctx) + (i - length transforms) = omega arith in
    let in_wide : i - length transforms < length (wide_of set) = omega arith in
    transform_is set (product_moduli ctx) i (omega (arith, length-append (data_in ctx) (wide_of set)))
    ∙ ap (λ (p : ℕ). Some (transform_of set (slice_index (product_moduli ctx) p))) place
    ∙ ap (λ (q : ℕ). Some (transform_of set q)) (get_or-append-add (data_in ctx) (wide_of set) (i - length transforms) 0)
    ∙ ap Some (sym (transform_listed set (wide_of set) others (i - length transforms) t others_are in_wide is))
