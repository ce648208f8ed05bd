-- The rows of a cipher: writing one of them, and clearing those of a part.
use Rattle.std.proofs.Common.{◌≡◌, ℕ, ◌*◌, ◌%◌, ◌<◌, ◌⊎◌, ◌++◌, inl, inr, arith, sym, subst, ap, ◌∙◌, List, [], length, take, drop, get_or, set, slice_index}
use Rattle.std.proofs.lemmas.Bool.{cases_lt}
use Rattle.std.proofs.Math.Seq.{take-length, take-set-lt}
use Rattle.std.proofs.lemmas.List.{get_or-take, length-take-le, take-append-le}
use Rattle.set_table.specs.declared.SetName.{SetName}
use Rattle.ring_law.specs.Rows.{word_at}
use Rattle.bfv_params.specs.Moduli.{data_at}
use Rattle.bfv_params.specs.Rows.{ZeroFrom}
use Rattle.bfv_params.specs.Kept.{IsCipher}

pub within_three : (parts level i : ℕ) → (parts ≡ 2) ⊎ (parts ≡ 3) → i < parts * level → i < 3 * level
within_three parts level i (inl two) less = let at : i < 2 * level = subst (λ p. i < p * level) two less in omega arith
within_three parts level i (inr three) less = subst (λ p. i < p * level) three less

-- a row of a part is written in the rows that are seen
pub row_written : (parts level i : ℕ) (rows : List (List ℕ)) (row : List ℕ) → (parts ≡ 2) ⊎ (parts ≡ 3) → i < parts * level →
    take (3 * level) (set rows i row) ≡ set (take (3 * level) rows) i row
row_written parts level i rows row count less = take-set-lt (3 * level) rows i row (within_three parts level i count less)

-- rows that were lent whole and came back are all there is
pub all_lent : (len : ℕ) (old new : List (List ℕ)) → len ≡ length old → length new ≡ length old → take len (new ++ drop (length new) old) ≡ new
all_lent len old new whole same =
    take-append-le len new (drop (length new) old) (omega arith) ∙ subst (λ m. take m new ≡ new) (same ∙ sym whole) (take-length new)

word_seen : (m : ℕ) (rows : List (List ℕ)) (i k : ℕ) → i < m → word_at (take m rows) i k ≡ word_at rows i k
word_seen m rows i k seen = ap (λ (row : List ℕ). slice_index row k) (get_or-take m rows i [] seen)

-- where the rows from the end of the parts on are cleared, it is a cipher of these parts
module _ (n : ℕ) (set : SetName) (room level parts count : ℕ) (old new : List (List ℕ)) (whole : length old ≡ 3 * room)
    (was : IsCipher n set room level parts (take (3 * level) old)) (same : length new ≡ length old)
    (before : (i : ℕ) → i < count * level → get_or new i [] ≡ get_or old i []) (zero : ZeroFrom n (count * level) new) where
  below_modulus : (i k : ℕ) → i < 3 * level → k < n → word_at new i k < slice_index (data_at set level) (i % level)
  below_modulus i k seen less =
      let old_below : word_at old i k < slice_index (data_at set level) (i % level) =
      subst (λ w. w < slice_index (data_at set level) (i % level)) (word_seen (3 * level) old i k seen) (was.reduced i (omega (arith, was.size)) k less) in
      elim (cases_lt i (count * level)) [
        | inl kept ↦ subst (λ (row : List ℕ). slice_index row k < slice_index (data_at set level) (i % level)) (sym (before i kept)) old_below
        | inr cleared ↦ (let none : word_at new i k ≡ 0 = zero i k cleared (omega (arith, was.fits)) less in omega arith)
      ]

  pub parts_cleared : (count ≡ 2) ⊎ (count ≡ 3) → IsCipher n set room level count (take (3 * level) new)
  parts_cleared two_or_three =
      let seen : length (take (3 * level) new) ≡ 3 * level = length-take-le (3 * level) new (omega (arith, was.fits)) in record {
        degree = was.degree;
        some = was.some;
        fits = was.fits;
        within = was.within;
        count = two_or_three;
        size = seen;
        reduced = λ i within k less.
            subst (λ w. w < slice_index (data_at set level) (i % level)) (sym (word_seen (3 * level) new i k (omega (arith, seen)))) (below_modulus i k (omega (arith, seen)) less);
        rest = λ i k from within less. word_seen (3 * level) new i k (omega (arith, seen)) ∙ zero i k from (omega (arith, seen, was.fits)) less;
      }
