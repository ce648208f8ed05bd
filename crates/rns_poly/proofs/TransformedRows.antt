-- Loops that replace one row after another, row i by transform i.
use Rattle.std.proofs.Common.{◌≡◌, ◌≢◌, ℕ, ◌+◌, ◌<◌, ◌≤◌, ◌∙◌, List, [], length, get_or, set, arith, ap, sym, refl, subst, get_or-set_other, get_or-set_same, below_more, ℤ}
use Rattle.std.proofs.lemmas.List.{get_or-map, length-map}
use Rattle.std.proofs.lemmas.Option.{get_or_from_slice_get, slice_get-get_or, slice_get_read, slice_get_within}
use Rattle.std.specs.Prelude.{Some, slice_get}
use Rattle.std.specs.List.{SameFrom}
use Rattle.ring_law.specs.Rows.{IsReduced, RowRepresents}
use Rattle.neg_ntt.specs.Parameters.{IsTransformBy, Parameters}
use Rattle.rns_poly.specs.Rows.{AreReduced}
use Rattle.rns_poly.specs.Transforms.{moduli_of}

modulus_at : (transforms : List Parameters) (i : ℕ) (t : Parameters) → slice_get transforms i ≡ Some t → get_or (moduli_of transforms) i 0 ≡ t.modulus
modulus_at transforms i t e =
    get_or-map (λ (u : Parameters). u.modulus) transforms i t 0 (slice_get_within transforms i t e)
    ∙ ap (λ (u : Parameters). u.modulus) (get_or_from_slice_get transforms i t t e)

-- what holds of each place with its modulus holds of each transform with its modulus
pub of_transform : (Q : ℕ → ℕ → Type 0) (transforms : List Parameters)
    → ((i : ℕ) → i < length (moduli_of transforms) → Q i (get_or (moduli_of transforms) i 0))
    → (i : ℕ) (t : Parameters) → slice_get transforms i ≡ Some t → Q i t.modulus
of_transform Q transforms all i t e =
    subst (Q i) (modulus_at transforms i t e) (all i (rw length-map (slice_get_within transforms i t e)))

-- and the other way
pub of_modulus : (Q : ℕ → ℕ → Type 0) (transforms : List Parameters)
    → ((i : ℕ) (t : Parameters) → slice_get transforms i ≡ Some t → Q i t.modulus)
    → (i : ℕ) → i < length (moduli_of transforms) → Q i (get_or (moduli_of transforms) i 0)
of_modulus Q transforms all i l =
    let none : Parameters = record { modulus = 0; root = 0; log_degree = 0 } in
    let t : Parameters = get_or transforms i none in
    let e : slice_get transforms i ≡ Some t = slice_get-get_or transforms i none (rw length-map at l) in
    subst (Q i) (sym (modulus_at transforms i t e)) (all i t e)

-- the rows before place count became what P says, in reduced words, and those from it on are as they first were
pub record ReplacedTo (n : ℕ) (P : Parameters → List ℕ → List ℕ → Type 0) (transforms : List Parameters) (first rows : List (List ℕ)) (count : ℕ) : Type 0 where
  pub done : (j : ℕ) → j < count → (t : Parameters) → slice_get transforms j ≡ Some t → P t (get_or first j []) (get_or rows j [])
  pub reduced : (j : ℕ) → j < count → (t : Parameters) → slice_get transforms j ≡ Some t → IsReduced n t.modulus (get_or rows j [])
  pub rest : SameFrom first rows count

-- the next row is reduced
pub ReplacedTo-next : (n : ℕ) (P : Parameters → List ℕ → List ℕ → Type 0) (transforms : List Parameters) (first rows : List (List ℕ)) (i : ℕ) (t : Parameters)
    → i < length transforms → t ≡ get_or transforms i t → AreReduced n (moduli_of transforms) first → ReplacedTo n P transforms first rows i
    → IsReduced n t.modulus (get_or rows i [])
ReplacedTo-next n P transforms first rows i t within is_t reduced before =
    let e : slice_get transforms i ≡ Some t = slice_get_read transforms (length transforms) i t refl within is_t in
    subst (IsReduced n t.modulus) (sym (before.rest i [] (omega arith)))
    (of_transform (λ j q. IsReduced n q (get_or first j [])) transforms reduced i t e)

-- after row i is replaced
pub ReplacedTo-set : (n : ℕ) (P : Parameters → List ℕ → List ℕ → Type 0) (transforms : List Parameters) (first rows : List (List ℕ)) (i : ℕ) (t : Parameters) (row : List ℕ)
    → i < length rows → t ≡ get_or transforms i t → ReplacedTo n P transforms first rows i → P t (get_or rows i []) row → IsReduced n t.modulus row
    → ReplacedTo n P transforms first (set rows i row) (i + 1)
ReplacedTo-set n P transforms first rows i t row in_rows is_t before became reduced = record {
  done = below_more _ _
      (λ j h u e. let other : j ≢ i = omega arith in rw get_or-set_other (before.done j h u e))
      (λ u e. rw get_or-set_same
      (subst (λ (v : Parameters). P v (get_or first i []) row) (same u e)
      (subst (λ (old : List ℕ). P t old row) (before.rest i [] (omega arith)) became)));
  reduced = below_more _ _
      (λ j h u e. let other : j ≢ i = omega arith in rw get_or-set_other (before.reduced j h u e))
      (λ u e. rw get_or-set_same (subst (λ (v : Parameters). IsReduced n v.modulus row) (same u e) reduced));
  rest = λ j d h. let other : j ≢ i = omega arith in get_or-set_other rows i j row d other ∙ before.rest j d (omega arith);
}
  where
    same : (u : Parameters) → slice_get transforms i ≡ Some u → t ≡ u
    same u e = is_t ∙ get_or_from_slice_get transforms i u t e

-- after all of them are
pub ReplacedTo-reduced : (n : ℕ) (P : Parameters → List ℕ → List ℕ → Type 0) (transforms : List Parameters) (first rows : List (List ℕ)) (count : ℕ)
    → length transforms ≤ count → ReplacedTo n P transforms first rows count → AreReduced n (moduli_of transforms) rows
ReplacedTo-reduced n P transforms first rows count all after =
    of_modulus (λ i q. IsReduced n q (get_or rows i [])) transforms
    (λ i t e. let within = slice_get_within transforms i t e in after.reduced i (omega arith) t e)

-- the row became its transform
abbrev pub IsForward : ℕ → Parameters → List ℕ → List ℕ → Type 0
IsForward n t first row = (x : ℕ → ℤ) → RowRepresents n t.modulus first x → IsTransformBy t row x

-- the transform became its row
abbrev pub IsInverse : ℕ → Parameters → List ℕ → List ℕ → Type 0
IsInverse n t first row = (x : ℕ → ℤ) → IsTransformBy t first x → RowRepresents n t.modulus row x
