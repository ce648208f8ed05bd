-- A buffer that is filled part by part, and a piece that is taken so.
use Rattle.std.proofs.Common.{◌≡◌, ℕ, ◌+◌, ◌-◌, ◌≤◌, List, ◌++◌, arith, length, take, drop, slice_range, sym, ap, ◌∙◌, le_refl, drop_at, length-take-le}
use Rattle.std.proofs.lemmas.List.{take_rest}
use Rattle.std.proofs.lemmas.Slice.{take-put_mid_below}
use borrow.Rule.Slice.PartMut.{put_mid, post_of}
use lib.Seq.{take-add, take-append-le}

-- the part that was written
slice_range-put_mid : (a k n : ℕ) (xs ys : List ℕ) → a ≤ length xs → n ≤ length ys → slice_range (put_mid a k xs ys) a (a + n) ≡ take n ys
slice_range-put_mid a k n xs ys within fits =
    let same : (a + n) - a ≡ n = omega arith in
    let after = post_of a k xs in
    ap (take ((a + n) - a)) (drop_at (take a xs) (ys ++ after) a (length-take-le a xs within)) ∙ ap (λ m. take m (ys ++ after)) same ∙ take-append-le n ys after fits

-- the front of a buffer whose rest was written from a place on
pub front_filled : (a k n : ℕ) (xs ys : List ℕ) → a ≤ length xs → n ≤ length ys → take a xs ++ take n ys ≡ take (a + n) (put_mid a k xs ys)
front_filled a k n xs ys within fits =
    let new = put_mid a k xs ys in
    ap (λ l. take a xs ++ l) (sym (slice_range-put_mid a k n xs ys within fits))
    ∙ ap (λ l. l ++ slice_range new a (a + n)) (sym (take-put_mid_below _ _ _ _ _ (le_refl _) within))
    ∙ ap (λ m. take a new ++ take m (drop a new)) (omega arith)
    ∙ sym (take-add a n new)

-- a piece that is taken from its front on
pub two_parts : (n m : ℕ) (piece : List ℕ) → take n piece ++ take m (take (length piece - n) (drop n piece)) ≡ take (n + m) piece
two_parts n m piece = ap (λ l. take n piece ++ take m l) (take_rest piece n) ∙ sym (take-add n m piece)
