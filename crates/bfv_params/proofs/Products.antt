-- Rows of transforms, one transform of a set for each modulus: their sums and products, and the way from rows and back.
use Rattle.std.proofs.Common.{◌≡◌, ℕ, ◌+◌, ◌*◌, ◌^◌, ◌<◌, ◌≤◌, ◌∙◌, ◌-◌, ◌%◌, sym, subst, ap, lit≤, arith, length-append, length-take, List, [], length, map, get_or, slice_index, ℤ, Option, Some, None, Contains, unwrap_or, IsSome, IfSome}
use Rattle.std.specs.Option.{option_map}
use Rattle.std.specs.Prelude.{slice_get}
use Rattle.std.proofs.lemmas.Option.{get_or_from_slice_get, slice_get-get_or, slice_get-map, slice_get_within}
use Rattle.std.proofs.lemmas.List.{get_or-map, get_or-take, get_or_append_left, length-map}
use Rattle.word_mod.specs.Moduli.{IsModulus}
use Rattle.set_table.specs.declared.SetName.{SetName}
use Rattle.set_table.specs.declared.SetName.TheVariants.{One16, Toy16, S4096, S8192, S16384}
use Rattle.set_table.specs.Sets.{degree_of, log_degree_of, data_of, list_of, special_of, transform_moduli_of}
use Rattle.set_table.specs.Roots.{root_of}
use Rattle.ring_law.specs.Polynomials.{CongruentPolynomials, ring_product, ring_sum}
use Rattle.ring_law.specs.Transform.{bit_reversal, evaluation, transform_entry}
use Rattle.ring_law.proofs.Residues.{residue-add, residue-mul}
use Rattle.ring_law.proofs.TransformEntries.{transform_entry-ring_product, transform_entry-ring_sum, transform_entry_congruent}
use Rattle.neg_ntt.specs.Parameters.{AreParameters, IsTransformBy, Parameters}
use Rattle.neg_ntt.proofs.Steps.{AreParameters-minus_one}
use Rattle.rns_poly.specs.Rows.{AreReduced, EachRepresents, entrywise_product}
use Rattle.rns_poly.specs.Transforms.{AreTransforms, moduli_of}
use Rattle.res_base.proofs.Bases.{IsModulus-from_IsBase}
use Rattle.res_base.proofs.Sizes.{IsBase-data_of}
use Rattle.res_base.proofs.Roots.{IsSome-root_of, root_of-below, root_of-power}
use Rattle.bfv_params.specs.Moduli.{data_at}
use Rattle.bfv_params.specs.Transforms.{transform_of}
use Rattle.bfv_params.proofs.Tables.{degree_of-limit, degree_of-power, key_listed}
use Rattle.bfv_params.proofs.Parts.{moduli_of_transforms}

-- ---- the transforms of a set
pub degree_of-least : (set : SetName) → 4 ≤ degree_of set
degree_of-least One16 = lit≤ tt
degree_of-least Toy16 = lit≤ tt
degree_of-least S4096 = lit≤ tt
degree_of-least S8192 = lit≤ tt
degree_of-least S16384 = lit≤ tt

found : (P : ℕ → Type 0) (root : Option ℕ) → IsSome root → IfSome root P → P (unwrap_or root 0)
found P (Some psi) some is = is
found P None some is = absurd (cc)

-- the transform modulo a listed modulus has the parameters of one
pub AreParameters-transform_of : (set : SetName) (q : ℕ) → Contains (transform_moduli_of set) q → IsModulus q → AreParameters (degree_of set) (transform_of set q)
AreParameters-transform_of set q listed modulus =
    let some : IsSome (root_of set q) = (IsSome-root_of set q).1 listed in record {
      modulus = modulus;
      root_below = found (λ psi. psi < q) (root_of set q) some (root_of-below set q);
      minus_one = found (λ psi. psi ^ degree_of set % q ≡ q - 1) (root_of set q) some (root_of-power set q);
      power = degree_of-power set;
      from_four = degree_of-least set;
      to_limit = degree_of-limit set;
    }

-- rows that are transformed by the transforms of a set
pub transforms_of_rows : (n : ℕ) (set : SetName) (moduli : List ℕ) (transforms : List Parameters) (rows transformed : List (List ℕ)) → transforms ≡ map (transform_of set) moduli
    → ((x : ℕ → ℕ → ℤ) → EachRepresents n (moduli_of transforms) rows x → AreTransforms transforms transformed x)
    → (x : ℕ → ℕ → ℤ) → EachRepresents n moduli rows x → AreTransforms (map (transform_of set) moduli) transformed x
transforms_of_rows n set moduli transforms rows transformed are forward x rows_are =
    let same : moduli_of transforms ≡ moduli = ap moduli_of are ∙ moduli_of_transforms set moduli in
    subst (λ (ts : List Parameters). AreTransforms ts transformed x) are (forward x (subst (λ (qs : List ℕ). EachRepresents n qs rows x) (sym same) rows_are))

-- as many transforms as moduli
pub transforms_length : (set : SetName) (moduli : List ℕ) (transforms : List Parameters) → transforms ≡ map (transform_of set) moduli → length transforms ≡ length moduli
transforms_length set moduli transforms are = ap length are ∙ length-map moduli (transform_of set)

-- reduced rows, by the moduli of the transforms
pub reduced_by_transforms : (n : ℕ) (set : SetName) (moduli : List ℕ) (transforms : List Parameters) (rows : List (List ℕ)) → transforms ≡ map (transform_of set) moduli
    → AreReduced n moduli rows → AreReduced n (moduli_of transforms) rows
reduced_by_transforms n set moduli transforms rows are reduced =
    subst (λ (qs : List ℕ). AreReduced n qs rows) (sym (ap moduli_of are ∙ moduli_of_transforms set moduli)) reduced

-- and rows that are transformed back
pub rows_of_transforms : (n : ℕ) (set : SetName) (moduli : List ℕ) (transforms : List Parameters) (transformed rows : List (List ℕ)) → transforms ≡ map (transform_of set) moduli
    → ((x : ℕ → ℕ → ℤ) → AreTransforms transforms transformed x → EachRepresents n (moduli_of transforms) rows x)
    → (x : ℕ → ℕ → ℤ) → AreTransforms (map (transform_of set) moduli) transformed x → EachRepresents n moduli rows x
rows_of_transforms n set moduli transforms transformed rows are back x transformed_are =
    subst (λ (qs : List ℕ). EachRepresents n qs rows x) (ap moduli_of are ∙ moduli_of_transforms set moduli)
    (back x (subst (λ (ts : List Parameters). AreTransforms ts transformed x) (sym are) transformed_are))

-- what holds at each modulus holds of each transform
each_transform : (set : SetName) (moduli : List ℕ) (P : ℕ → Parameters → Type 0) → ((i : ℕ) → i < length moduli → P i (transform_of set (slice_index moduli i)))
    → (i : ℕ) (t : Parameters) → slice_get (map (transform_of set) moduli) i ≡ Some t → P i t
each_transform set moduli P each i t is =
    let within : i < length moduli = rw length-map at (slice_get_within (map (transform_of set) moduli) i t is) in
    subst (P i) (sym (get_or-map (transform_of set) moduli i 0 t within) ∙ get_or_from_slice_get (map (transform_of set) moduli) i t t is) (each i within)

-- ---- sums and products, word by word, of rows of transforms
module _ (n : ℕ) (set : SetName) (moduli : List ℕ) (fit : (i : ℕ) → i < length moduli → AreParameters n (transform_of set (slice_index moduli i))) where
  abbrev transform_at : ℕ → Parameters
  transform_at i = transform_of set (slice_index moduli i)

  -- the values whose residues are the entries of the transforms of x
  abbrev values : (ℕ → ℕ → ℤ) → ℕ → ℕ → ℤ
  values x i j = evaluation (2 ^ log_degree_of set) (transform_at i).root (2 * bit_reversal (log_degree_of set) j + 1) (x i)

  listed_at : (i : ℕ) → i < length moduli → slice_get (map (transform_of set) moduli) i ≡ Some (transform_at i)
  listed_at i within = slice_get-map (transform_of set) moduli i ∙ ap (option_map (transform_of set)) (slice_get-get_or moduli i 0 within)

  represented : (rows : List (List ℕ)) (x : ℕ → ℕ → ℤ) → AreTransforms (map (transform_of set) moduli) rows x → EachRepresents n moduli rows (values x)
  represented rows x transforms i k within below =
      transforms i (transform_at i) (listed_at i within) k (subst (λ m. k < m) (fit i within).power below)

  inside : (i : ℕ) → i < length moduli → (j : ℕ) → j < 2 ^ log_degree_of set → j < n
  inside i within j below = subst (λ m. j < m) (sym (fit i within).power) below

  pub positive_at : (i : ℕ) → i < length moduli → 0 < slice_index moduli i
  positive_at i within = omega (arith, (fit i within).modulus.from_three)

  -- the sums of words are the transforms of the sums
  pub transforms_of_sum : (a b out : List (List ℕ)) (x y : ℕ → ℕ → ℤ) → AreTransforms (map (transform_of set) moduli) a x → AreTransforms (map (transform_of set) moduli) b y
      → ((u v : ℕ → ℕ → ℤ) → EachRepresents n moduli a u → EachRepresents n moduli b v → EachRepresents n moduli out (λ i. ring_sum (u i) (v i)))
      → AreTransforms (map (transform_of set) moduli) out (λ i. ring_sum (x i) (y i))
  transforms_of_sum a b out x y a_is b_is sums = each_transform set moduli (λ i t. IsTransformBy t (get_or out i []) (ring_sum (x i) (y i))) (λ i within j below.
      sums (values x) (values y) (represented a x a_is) (represented b y b_is) i j within (inside i within j below)
      ∙ residue-add (slice_index moduli i) (values x i j) (values y i j) (positive_at i within)
      ∙ sym (transform_entry-ring_sum (slice_index moduli i) (log_degree_of set) (transform_at i).root (x i) (y i) j (positive_at i within)))

  -- the products of words are the transforms of the products
  pub transforms_of_product : (a b out : List (List ℕ)) (x y : ℕ → ℕ → ℤ) → AreTransforms (map (transform_of set) moduli) a x → AreTransforms (map (transform_of set) moduli) b y
      → ((u v : ℕ → ℕ → ℤ) → EachRepresents n moduli a u → EachRepresents n moduli b v → EachRepresents n moduli out (λ i. entrywise_product (u i) (v i)))
      → AreTransforms (map (transform_of set) moduli) out (λ i. ring_product n (x i) (y i))
  transforms_of_product a b out x y a_is b_is products = each_transform set moduli (λ i t. IsTransformBy t (get_or out i []) (ring_product n (x i) (y i))) (λ i within j below.
      let q = slice_index moduli i in
      let log = log_degree_of set in
      let root = (transform_at i).root in
      products (values x) (values y) (represented a x a_is) (represented b y b_is) i j within (inside i within j below)
      ∙ residue-mul q (values x i j) (values y i j) (positive_at i within)
      ∙ sym (transform_entry-ring_product q log root (positive_at i within) (AreParameters-minus_one n (transform_at i) (fit i within)) (x i) (y i) j)
      ∙ ap (λ m. transform_entry q log root (ring_product m (x i) (y i)) j) (sym (fit i within).power))

  -- transforms of polynomials are those of all that are congruent to them
  pub transforms_of_congruent : (rows : List (List ℕ)) (x y : ℕ → ℕ → ℤ) → ((i : ℕ) → i < length moduli → CongruentPolynomials (slice_index moduli i) n (x i) (y i))
      → AreTransforms (map (transform_of set) moduli) rows x → AreTransforms (map (transform_of set) moduli) rows y
  transforms_of_congruent rows x y same are = each_transform set moduli (λ i t. IsTransformBy t (get_or rows i []) (y i)) (λ i within j below.
      let q = slice_index moduli i in
      are i (transform_at i) (listed_at i within) j below
      ∙ transform_entry_congruent q (log_degree_of set) (transform_at i).root (x i) (y i) j (positive_at i within)
      (subst (λ m. CongruentPolynomials q m (x i) (y i)) (fit i within).power (same i within)))

  -- rows that are transformed, multiplied word by word and transformed back are the products in the ring
  pub products_by_transforms : (named : List ℕ) (transforms : List Parameters) (a a_transformed b multiplied out : List (List ℕ)) → named ≡ moduli
      → transforms ≡ map (transform_of set) moduli
      → ((x : ℕ → ℕ → ℤ) → EachRepresents n (moduli_of transforms) a x → AreTransforms transforms a_transformed x)
      → ((x y : ℕ → ℕ → ℤ) → EachRepresents n named a_transformed x → EachRepresents n named b y → EachRepresents n named multiplied (λ i. entrywise_product (x i) (y i)))
      → ((x : ℕ → ℕ → ℤ) → AreTransforms transforms multiplied x → EachRepresents n (moduli_of transforms) out x)
      → (x y : ℕ → ℕ → ℤ) → EachRepresents n moduli a x → AreTransforms (map (transform_of set) moduli) b y → EachRepresents n moduli out (λ i. ring_product n (x i) (y i))
  products_by_transforms named transforms a a_transformed b multiplied out named_are are forward pointwise back x y a_is b_is =
      let same : moduli_of transforms ≡ moduli = ap moduli_of are ∙ moduli_of_transforms set moduli in
      let Products : List ℕ → Type 0 = λ qs. (u v : ℕ → ℕ → ℤ) → EachRepresents n qs a_transformed u → EachRepresents n qs b v
      → EachRepresents n qs multiplied (λ i. entrywise_product (u i) (v i)) in
      let a_transforms : AreTransforms (map (transform_of set) moduli) a_transformed x = transforms_of_rows n set moduli transforms a a_transformed are forward x a_is in
      let products : AreTransforms (map (transform_of set) moduli) multiplied (λ i. ring_product n (x i) (y i)) =
      transforms_of_product a_transformed b multiplied x y a_transforms b_is (subst Products named_are pointwise) in
      subst (λ (qs : List ℕ). EachRepresents n qs out (λ i. ring_product n (x i) (y i))) same
      (back (λ i. ring_product n (x i) (y i)) (subst (λ (ts : List Parameters). AreTransforms ts multiplied (λ i. ring_product n (x i) (y i))) (sym are) products))

-- the transforms modulo a set's data moduli have the parameters of some
pub AreParameters-data_at : (n : ℕ) (set : SetName) (level : ℕ) → n ≡ degree_of set → (i : ℕ) → i < length (data_at set level) → AreParameters n (transform_of set (slice_index (data_at set level) i))
AreParameters-data_at n set level degree i within =
    let least : i < level = omega (arith, length-take level (data_of set)) in
    let all : i < length (data_of set) = omega (arith, length-take level (data_of set)) in
    let q = slice_index (data_at set level) i in
    let modulus : IsModulus q = subst IsModulus (sym (get_or-take level (data_of set) i 0 least)) (IsModulus-from_IsBase (data_of set) (IsBase-data_of set) i all) in
    let special = list_of (special_of set) in
    let listed : Contains (transform_moduli_of set) q =
    subst (Contains (transform_moduli_of set)) (get_or_append_left (data_at set level) special 0 i within)
    (key_listed set level i 0 (omega (arith, length-append (data_at set level) special))) in
    subst (λ m. AreParameters m (transform_of set q)) (sym degree)
    (AreParameters-transform_of set q listed modulus)
