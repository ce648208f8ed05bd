-- Rows of a cipher that were made of the rows of another, row after row.
use Rattle.std.proofs.Common.{◌≡◌, ◌⊎◌, inl, inr, ℕ, zero, suc, ◌+◌, ◌-◌, ◌*◌, ◌/◌, ◌%◌, ◌<◌, ◌≤◌, ◌∙◌, arith, sym, subst, ℤ, List, [], length, get_or, mod-eq_of_lt, slice_index}
use Rattle.std.proofs.lemmas.Bool.{cases_lt}
use Rattle.std.proofs.lemmas.Nat.{div-mul-add, le-div}
use Rattle.std.proofs.Math.Nat.{div-eq_of_lt}
use Rattle.ring_law.specs.Moduli.{AllAboveOne}
use Rattle.ring_law.specs.Residues.{residue}
use Rattle.ring_law.specs.Rows.{RowRepresents}
use Rattle.ring_law.proofs.Moduli.{positive_from_above_one}
use Rattle.bfv_params.specs.Rows.{ZeroFrom}
use Rattle.bfv_linear.specs.Parts.{at_first_part}

-- a row represents op x, for every x that the row `from` represents
abbrev pub RowBecomes : ((ℕ → ℤ) → ℕ → ℤ) → ℕ → ℕ → List ℕ → List ℕ → Type 0
RowBecomes op n q from row = (x : ℕ → ℤ) → RowRepresents n q from x → RowRepresents n q row (op x)

-- the polynomial is 0 modulo q
abbrev pub IsZeroModulo : ℕ → ℕ → (ℕ → ℤ) → Type 0
IsZeroModulo n q x = (k : ℕ) → k < n → residue q (x k) ≡ 0

-- row i became what the operation on its part makes of it
abbrev pub Becomes : ℕ → List ℕ → ℕ → (ℕ → (ℕ → ℤ) → ℕ → ℤ) → List (List ℕ) → ℕ → List ℕ → Type 0
Becomes n moduli level op a i row = RowBecomes (op (i / level)) n (slice_index moduli (i % level)) (get_or a i []) row

pub becomes_first : (n : ℕ) (moduli : List ℕ) (level : ℕ) (op : (ℕ → ℤ) → ℕ → ℤ) (a : List (List ℕ)) (i : ℕ) (row : List ℕ) → i < level
    → RowBecomes op n (slice_index moduli i) (get_or a i []) row → Becomes n moduli level (at_first_part op) a i row
becomes_first n moduli level op a i row less becomes =
    subst (λ j. RowBecomes (at_first_part op j) n (slice_index moduli (i % level)) (get_or a i []) row) (sym (div-eq_of_lt less))
    (subst (λ p. RowBecomes op n (slice_index moduli p) (get_or a i []) row) (sym (mod-eq_of_lt less)) becomes)

pub becomes_copy : (n : ℕ) (moduli : List ℕ) (level : ℕ) (op : (ℕ → ℤ) → ℕ → ℤ) (a : List (List ℕ)) (i : ℕ) (row : List ℕ) → 0 < level → level ≤ i
    → row ≡ get_or a i [] → Becomes n moduli level (at_first_part op) a i row
becomes_copy n moduli level op a i row some later is =
    by (i / level) (le-div 1 i level some (omega arith))
  where
    by : (j : ℕ) → 0 < j → RowBecomes (at_first_part op j) n (slice_index moduli (i % level)) (get_or a i []) row
    by zero none = absurd (omega arith)
    by (suc j) more = subst (λ r. RowBecomes (λ x. x) n (slice_index moduli (i % level)) (get_or a i []) r) (sym is) (λ x represents. represents)

-- an operation on third parts makes 0 of 0, where there are but two parts
abbrev pub KeepsZero : ℕ → ℕ → List ℕ → ((ℕ → ℤ) → ℕ → ℤ) → Type 0
KeepsZero n parts moduli op = (p : ℕ) (x : ℕ → ℤ) → p < length moduli → 0 < slice_index moduli p → parts ≡ 2 → IsZeroModulo n (slice_index moduli p) x
    → IsZeroModulo n (slice_index moduli p) (op x)

-- row i became what the operation makes of the rows of two ciphers
abbrev pub Combines : ℕ → List ℕ → ℕ → ((ℕ → ℤ) → (ℕ → ℤ) → ℕ → ℤ) → List (List ℕ) → List (List ℕ) → ℕ → List ℕ → Type 0
Combines n moduli level op a b i row = (x y : ℕ → ℤ) → RowRepresents n (slice_index moduli (i % level)) (get_or a i []) x
    → RowRepresents n (slice_index moduli (i % level)) (get_or b i []) y → RowRepresents n (slice_index moduli (i % level)) row (op x y)

third : (parts level i : ℕ) → (parts ≡ 2) ⊎ (parts ≡ 3) → parts * level ≤ i → i < 3 * level → (parts ≡ 2) × (i / level ≡ 2)
third parts level i (inl two) from within =
    let begins : 2 * level ≤ i = subst (λ p. p * level ≤ i) two from in
    (two, subst (λ j. j / level ≡ 2) (restored begins) (div-mul-add 2 level (i - 2 * level) (omega arith)))
  where
    restored : 2 * level ≤ i → 2 * level + (i - 2 * level) ≡ i
    restored begins = omega arith
third parts level i (inr three) from within = let begins : 3 * level ≤ i = subst (λ p. p * level ≤ i) three from in absurd (omega arith)

-- the rows of a third part that isn't there became so too
pub all_rows : (n level parts : ℕ) (moduli : List ℕ) (op : ℕ → (ℕ → ℤ) → ℕ → ℤ) (a made : List (List ℕ)) → (parts ≡ 2) ⊎ (parts ≡ 3)
    → AllAboveOne moduli → length moduli ≡ level → length a ≡ 3 * level → length made ≡ 3 * level
    → KeepsZero n parts moduli (op 2)
    → ZeroFrom n (parts * level) a → ZeroFrom n (parts * level) made
    → ((i : ℕ) → i < parts * level → Becomes n moduli level op a i (get_or made i []))
    → (i : ℕ) → i < 3 * level → Becomes n moduli level op a i (get_or made i [])
all_rows n level parts moduli op a made count above listed a_size made_size keeps a_zero made_zero written i within = elim (cases_lt i (parts * level)) [
  | inl before ↦ written i before
  | inr after ↦ λ x represents k below.
      let is_third = third parts level i count after within in
      let place : i % level < level = in_level level i within in
      let positive : 0 < slice_index moduli (i % level) =
      positive_from_above_one (slice_index moduli (i % level)) (above (i % level) (omega arith)) in
      let vanishes : IsZeroModulo n (slice_index moduli (i % level)) x = λ k below. sym (represents k below) ∙ a_zero i k after (omega arith) below in
      made_zero i k after (omega arith) below
      ∙ sym (subst (λ j. residue (slice_index moduli (i % level)) (op j x k) ≡ 0) (sym is_third.1)
      (keeps (i % level) x (omega arith) positive is_third.0 vanishes k below))
]
  where
    in_level : (level i : ℕ) → i < 3 * level → i % level < level
    in_level level i within = omega arith
