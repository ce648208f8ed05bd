-- Products of rows by their transforms.
use Rattle.std.proofs.Common.{◌≡◌, ℕ, ◌*◌, ◌%◌, ◌<◌, ◌∙◌, arith, refl, mod-eq_of_lt, sym, subst, ap, ap₂, ℤ, List, [], map, length, get_or, slice_index}
use Rattle.std.proofs.lemmas.List.{get_or-map, length-map}
use Rattle.std.proofs.lemmas.Option.{slice_get_read}
use Rattle.set_table.specs.declared.SetName.{SetName}
use Rattle.ring_law.specs.Polynomials.{ring_product}
use Rattle.ring_law.specs.Rows.{IsReduced, RowRepresents, row_polynomial}
use Rattle.ring_law.specs.Transform.{transform_entry}
use Rattle.ring_law.proofs.TransformEntries.{transform_entry-ring_product}
use Rattle.neg_ntt.specs.Parameters.{AreParameters, IsTransformBy, Parameters}
use Rattle.neg_ntt.proofs.Steps.{AreParameters-minus_one}
use Rattle.rns_poly.specs.Rows.{entrywise_product}
use Rattle.rns_poly.specs.Transforms.{AreTransforms}
use Rattle.bfv_params.specs.Transforms.{transform_of}

own_words : (n q : ℕ) (row : List ℕ) → IsReduced n q row → RowRepresents n q row (row_polynomial row)
own_words n q row reduced k below = sym (mod-eq_of_lt (reduced k below))

-- the products word by word of two transforms are the transform of the product
pub transform_of_product : (n : ℕ) (t : Parameters) (x y : ℕ → ℤ) (row factor product : List ℕ) → AreParameters n t → IsReduced n t.modulus row → IsReduced n t.modulus factor
    → IsTransformBy t row x → IsTransformBy t factor y
    → ((u v : ℕ → ℤ) → RowRepresents n t.modulus row u → RowRepresents n t.modulus factor v → RowRepresents n t.modulus product (entrywise_product u v))
    → IsTransformBy t product (ring_product n x y)
transform_of_product n t x y row factor product fit row_reduced factor_reduced of_x of_y products j below =
    products (row_polynomial row) (row_polynomial factor) (own_words n t.modulus row row_reduced) (own_words n t.modulus factor factor_reduced) j (subst (λ n. j < n) (sym fit.power) below)
    ∙ ap₂ (λ (u v : ℕ). u * v % t.modulus) (of_x j below) (of_y j below)
    ∙ sym (transform_entry-ring_product t.modulus t.log_degree t.root (omega (arith, fit.modulus.from_three)) (AreParameters-minus_one n t fit) x y j)
    ∙ ap (λ n. transform_entry t.modulus t.log_degree t.root (ring_product n x y) j) (sym fit.power)

-- ---- the transform at a place of a set's transforms
module _ (set : SetName) (moduli : List ℕ) (p : ℕ) (t : Parameters) (in_list : p < length moduli) (is : t ≡ get_or (map (transform_of set) moduli) p t) where
  -- its modulus
  pub transform_at : t.modulus ≡ slice_index moduli p
  transform_at = ap (λ (u : Parameters). u.modulus) (is ∙ get_or-map (transform_of set) moduli p 0 t in_list)

  -- and the row that it made
  pub factor_at : (rows : List (List ℕ)) (y : ℕ → ℤ) → AreTransforms (map (transform_of set) moduli) rows (λ i. y) → IsTransformBy t (get_or rows p []) y
  factor_at rows y all =
      all p t (slice_get_read (map (transform_of set) moduli) (length (map (transform_of set) moduli)) p t refl (rw length-map in_list) is)
