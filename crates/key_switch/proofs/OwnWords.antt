-- Reduced rows as those of the polynomials that are their words.
use Rattle.std.proofs.Common.{◌≡◌, ◌≢◌, ℕ, ◌<◌, sym, subst, ⊎_elim, mod-eq_of_lt, pos, List, [], length, get_or, get_or-set_other, get_or-set_same, slice_index, slice_set}
use Rattle.std.proofs.lemmas.Bool.{cases_eq}
use Rattle.ring_law.specs.Rows.{IsReduced, word_at}
use Rattle.rns_poly.specs.Rows.{AreReduced, EachRepresents}

pub represent_own_words : (n : ℕ) (moduli : List ℕ) (rows : List (List ℕ)) → AreReduced n moduli rows → EachRepresents n moduli rows (λ r k. pos (word_at rows r k))
represent_own_words n moduli rows reduced r k within below = sym (mod-eq_of_lt (reduced r within k below))

-- rows stay reduced when a reduced row takes the place of one
pub AreReduced-set : (n i : ℕ) (moduli : List ℕ) (rows : List (List ℕ)) (row : List ℕ) → i < length rows → AreReduced n moduli rows → IsReduced n (slice_index moduli i) row
    → AreReduced n moduli (slice_set rows i row)
AreReduced-set n i moduli rows row inside reduced of_row r within = ⊎_elim here apart (cases_eq r i)
  where
    at_index : IsReduced n (slice_index moduli i) (get_or (slice_set rows i row) i [])
    at_index = subst (λ found. IsReduced n (slice_index moduli i) found) (sym (get_or-set_same rows i row [] inside)) of_row

    here : r ≡ i → IsReduced n (slice_index moduli r) (get_or (slice_set rows i row) r [])
    here same = subst (λ z. IsReduced n (slice_index moduli z) (get_or (slice_set rows i row) z [])) (sym same) at_index

    apart : r ≢ i → IsReduced n (slice_index moduli r) (get_or (slice_set rows i row) r [])
    apart other = subst (λ found. IsReduced n (slice_index moduli r) found) (sym (get_or-set_other rows i r row [] other)) (reduced r within)
