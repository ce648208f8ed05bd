-- Writing the rows of one part of a key or a cipher, one after another.
use Rattle.std.proofs.Common.{◌≡◌, ◌≢◌, ◌⊎◌, ℕ, suc, ◌+◌, ◌*◌, ◌%◌, ◌<◌, ◌≤◌, ◌∙◌, inl, inr, arith, sym, below_more, mul-le-mul_right, List, [], length, get_or, set, get_or-set_other, get_or-set_same, Some}
use Rattle.std.specs.Prelude.{slice_get}
use Rattle.std.proofs.lemmas.Nat.{mod-mul-add}
use Rattle.std.proofs.lemmas.Option.{get_or_from_slice_get}
use Rattle.bfv_params.specs.Rows.{ArePartlyWritten}

-- one row more
pub ArePartlyWritten-next : (start count : ℕ) (source old new : List (List ℕ)) (row : List ℕ) → start + count < length new → slice_get source count ≡ Some row
    → ArePartlyWritten start count source old new → ArePartlyWritten start (count + 1) source old (set new (start + count) row)
ArePartlyWritten-next start count source old new row within is before = record {
  written = below_more (λ i. get_or (set new (start + count) row) (start + i) [] ≡ get_or source i []) count
      (λ i less. let other : start + i ≢ start + count = omega arith in
      get_or-set_other new (start + count) (start + i) row [] other ∙ before.written i less)
      (get_or-set_same new (start + count) row [] within ∙ sym (get_or_from_slice_get source count row [] is));
  others = λ i outside. kept i (apart i outside) (still i outside);
}
  where
    apart : (i : ℕ) → (i < start) ⊎ (start + (count + 1) ≤ i) → i ≢ start + count
    apart i (inl less) = omega arith
    apart i (inr most) = omega arith

    still : (i : ℕ) → (i < start) ⊎ (start + (count + 1) ≤ i) → (i < start) ⊎ (start + count ≤ i)
    still i (inl less) = inl less
    still i (inr most) = inr (omega arith)

    kept : (i : ℕ) → i ≢ start + count → (i < start) ⊎ (start + count ≤ i) → get_or (set new (start + count) row) i [] ≡ get_or old i []
    kept i other outside = get_or-set_other new (start + count) i row [] other ∙ before.others i outside

-- the place of row i of a part, where each part has `count` rows
pub place_in_part : (parts part count i : ℕ) → part < parts → i < count → part * count + i < parts * count
place_in_part parts part count i less within = let most : suc part * count ≤ parts * count = mul-le-mul_right count less in omega arith

pub turn_in_part : (part count i : ℕ) → i < count → (part * count + i) % count ≡ i
turn_in_part part count i within = mod-mul-add part count i within
