-- Parts of a file that are read one behind the other.
use Rattle.std.proofs.Common.{◌≡◌, ℕ, ◌+◌, ◌-◌, ◌*◌, ◌<◌, ◌≤◌, List, ◌++◌, length, take, drop, sym, ◌∙◌, ap, subst, arith, ⊎_elim, append_assoc}
use Rattle.std.specs.Prelude.{min}
use Rattle.std.proofs.lemmas.Bool.{cases_lt}
use Rattle.std.proofs.lemmas.List.{drop_all, append-nil, take_all}
use Rattle.file_model.specs.Bytes.{bytes_from}
use Rattle.file_model.proofs.Bytes.{bytes_from-add}

-- what a read of all that was asked for gives
pub part_read : (bytes buf old : List ℕ) (at n : ℕ) → n ≡ min (length old) (length bytes - at) → length old ≤ n
    → buf ≡ take n (drop at bytes) ++ drop n old → buf ≡ bytes_from at (length old) bytes
unfolding bytes_from
part_read bytes buf old at n count full is =
    let whole : n ≡ length old = omega arith in
    is ∙ ap (λ (l : List ℕ). take n (drop at bytes) ++ l) (drop_all n old full) ∙ append-nil (take n (drop at bytes))
    ∙ ap (λ (k : ℕ). take k (drop at bytes)) whole

-- the first bytes of a file that has as many, or all of it
pub front_read : (n most : ℕ) (bytes : List ℕ) → n ≡ min (length bytes) most → bytes_from 0 n bytes ≡ take most bytes
unfolding bytes_from
front_read n most bytes is =
    ⊎_elim (λ (more : most < length bytes). let e : n ≡ most = omega arith in ap (λ (k : ℕ). take k bytes) e)
    (λ (all : length bytes ≤ most). take_all n bytes (omega arith) ∙ sym (take_all most bytes all)) (cases_lt most (length bytes))

-- what a hasher holds grows by the next piece of the words
pub words_held : (holds : List ℕ → Type 0) (m buf bytes : List ℕ) (done count k : ℕ) → buf ≡ bytes_from (64 + 8 * done) k bytes → k ≡ 8 * count
    → holds ((m ++ bytes_from 64 (8 * done) bytes) ++ buf) → holds (m ++ bytes_from 64 (8 * (done + count)) bytes)
words_held holds m buf bytes done count k is whole held =
    let sum : 8 * (done + count) ≡ 8 * done + 8 * count = omega arith in
    let piece : buf ≡ bytes_from (64 + 8 * done) (8 * count) bytes = is ∙ ap (λ (x : ℕ). bytes_from (64 + 8 * done) x bytes) whole in
    let all : (m ++ bytes_from 64 (8 * done) bytes) ++ buf ≡ m ++ bytes_from 64 (8 * (done + count)) bytes =
    append_assoc m (bytes_from 64 (8 * done) bytes) buf
    ∙ ap (λ (l : List ℕ). m ++ (bytes_from 64 (8 * done) bytes ++ l)) piece
    ∙ ap (λ (l : List ℕ). m ++ l) (sym (bytes_from-add 64 (8 * done) (8 * count) bytes))
    ∙ ap (λ (x : ℕ). m ++ bytes_from 64 x bytes) (sym sum) in
    subst holds all held
