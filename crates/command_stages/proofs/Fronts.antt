-- Texts of which at most a byte too many was read.
use Rattle.std.proofs.Common.{◌≡◌, ℕ, ◌+◌, ◌<◌, ◌≤◌, ⊎_elim, List, length, take, sym, ◌∙◌, ap, arith, length-take}
use Rattle.std.proofs.lemmas.Bool.{cases_lt}
use Rattle.std.proofs.lemmas.List.{take_all}

-- where all texts that are too long are read as one fault, it is enough to read one byte more than a text may have
pub front_enough : {A : Type 0} (read : List ℕ → A) (most : ℕ) (fault : A) → ((text : List ℕ) → most < length text → read text ≡ fault)
    → (text : List ℕ) → read (take (most + 1) text) ≡ read text
front_enough read most fault too_long text = ⊎_elim short long (cases_lt (most + 1) (length text))
  where
    cut : most + 1 < length text → most < length (take (most + 1) text)
    cut more = omega (arith, length-take (most + 1) text)

    short : most + 1 < length text → read (take (most + 1) text) ≡ read text
    short more = too_long (take (most + 1) text) (cut more) ∙ sym (too_long text (omega arith))

    long : length text ≤ most + 1 → read (take (most + 1) text) ≡ read text
    long all = ap read (take_all (most + 1) text all)
