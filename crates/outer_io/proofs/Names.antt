-- Files by their names.
use Rattle.std.proofs.Common.{◌≡◌, ◌≢◌, ℕ, Bool, true, false, cond, List, refl, sym, ◌∙◌, ap, rules}
use Rattle.std.specs.Prelude.{Some}
use Rattle.std.specs.Ordering.{nat_cmp, eq_by_cmp}
use Rattle.std.specs.Cmp.Lexicographic.{slice_cmp}
use Rattle.std.specs.Str.{bytes_eq}
use Rattle.std.specs.FinMap as map
use Rattle.std.specs.FinMap.{slice_cmp-IsAntisymmetric, nat_cmp-IsAntisymmetric, get-insert, same_map}
use Rattle.std.proofs.lemmas.Cmp.{nat_list_cmp_total}
use Rattle.std.proofs.lemmas.Map.Text.{is_eq-slice_cmp}
use Rattle.std.proofs.lemmas.Slice.Eq.{bytes_eq-Decides}
use Rattle.std.proofs.lemmas.Bool.{false_from_ne_true}
use Rattle.outer_io.specs.Store.{Files, file}

-- the test by which files are found
abbrev pub name_eq : List ℕ → List ℕ → Bool
name_eq = eq_by_cmp (slice_cmp nat_cmp)

-- the test on names decides whether they are equal
pub name_eq_same : (a b : List ℕ) → a ≡ b → name_eq a b ≡ true
name_eq_same a b e = is_eq-slice_cmp a b ∙ search (rules, bytes_eq-Decides)

pub name_eq_other : (a b : List ℕ) → a ≢ b → name_eq a b ≡ false
name_eq_other a b n = is_eq-slice_cmp a b ∙ false_from_ne_true _ (λ e. n (search (rules, bytes_eq-Decides)))

pub name_eq_true : (a b : List ℕ) → name_eq a b ≡ true → a ≡ b
name_eq_true a b e = let h : bytes_eq a b ≡ true = sym (is_eq-slice_cmp a b) ∙ e in search (rules, bytes_eq-Decides)

-- any file after one was set
pub file_set : (files : Files) (name bytes q : List ℕ) → file (map.insert files name bytes) q ≡ cond (name_eq q name) (Some bytes) (file files q)
file_set files name bytes q = get-insert nat_list_cmp_total files name bytes q

-- the file that was set
pub file_set_same : (files : Files) (name bytes : List ℕ) → file (map.insert files name bytes) name ≡ Some bytes
file_set_same files name bytes = file_set files name bytes name ∙ ap (λ b. cond b (Some bytes) (file files name)) (name_eq_same name name refl)

-- a file of another name
pub file_set_other : (files : Files) (name bytes q : List ℕ) → q ≢ name → file (map.insert files name bytes) q ≡ file files q
file_set_other files name bytes q n = file_set files name bytes q ∙ ap (λ b. cond b (Some bytes) (file files q)) (name_eq_other q name n)

-- files that agree at each name are the same
pub same_files : (a b : Files) → ((q : List ℕ) → file a q ≡ file b q) → a ≡ b
same_files a b h = same_map nat_list_cmp_total (slice_cmp-IsAntisymmetric nat_cmp-IsAntisymmetric) a b h
