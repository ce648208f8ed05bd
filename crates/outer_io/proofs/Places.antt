-- The files that a store in memory holds, by their places.
use Rattle.std.proofs.Common.{◌≡◌, ◌≢◌, ℕ, zero, suc, ◌<◌, Bool, true, false, cond, List, [], ◌∷◌, ◌++◌, map, length, refl, sym, ◌∙◌, ap, arith}
use Rattle.std.specs.Prelude.{Option, Some, None, slice_get, slice_set, Vec, vec_capacity}
use Rattle.std.specs.declared.alloc.Global.{Global}
use Rattle.std.specs.Ordering.{nat_cmp}
use Rattle.std.proofs.lemmas.Cmp.{nat_list_cmp_total}
use Rattle.std.specs.Cmp.Lexicographic.{slice_cmp}
use Rattle.std.specs.String.{string_bytes}
use Rattle.std.specs.FinMap as fin
use Rattle.std.specs.FinMap.{get-empty, get-from_entries, slice_cmp-IsAntisymmetric, nat_cmp-IsAntisymmetric}
use Rattle.std.proofs.lemmas.List.{map-append}
use Rattle.outer_io.specs.Store.{file}
use Rattle.outer_io.specs.Held.{entry_of, files_of, IsFirst, HasRoom}
use Rattle.outer_io.specs.declared.mem_store.held.HeldFile.{HeldFile}
use Rattle.outer_io.proofs.Names.{name_eq, name_eq_same, name_eq_other, name_eq_true, file_set, same_files}

-- a name that none of the held files has is the name of no file
pub absent : (fs : List HeldFile) (name : List ℕ) → ((j : ℕ) (f : HeldFile) → slice_get fs j ≡ Some f → string_bytes f.name ≢ name) → file (files_of fs) name ≡ None
absent [] name others = get-empty _ name
absent (f ∷ fs) name others =
    file_set (files_of fs) (string_bytes f.name) f.bytes.items name
    ∙ ap (λ b. cond b (Some f.bytes.items) (file (files_of fs) name)) (name_eq_other name (string_bytes f.name) (λ e. others 0 f refl (sym e)))
    ∙ absent fs name (λ j g is. others (suc j) g is)

-- the first held file of a name is the file of that name
pub found : (fs : List HeldFile) (name : List ℕ) (i : ℕ) (f : HeldFile) → slice_get fs i ≡ Some f → string_bytes f.name ≡ name → ((j : ℕ) (g : HeldFile) → j < i → slice_get fs j ≡ Some g → string_bytes g.name ≢ name) → file (files_of fs) name ≡ Some f.bytes.items
found [] name i f is named first = absurd (cc is)
found (g ∷ fs) name zero f is named first =
    let same : g ≡ f = cc is in
    file_set (files_of fs) (string_bytes g.name) g.bytes.items name
    ∙ ap (λ b. cond b (Some g.bytes.items) (file (files_of fs) name)) (name_eq_same name (string_bytes g.name) (sym (ap (λ (x : HeldFile). string_bytes x.name) same ∙ named)))
    ∙ ap (λ (x : HeldFile). Some x.bytes.items) same
found (g ∷ fs) name (suc i) f is named first =
    file_set (files_of fs) (string_bytes g.name) g.bytes.items name
    ∙ ap (λ b. cond b (Some g.bytes.items) (file (files_of fs) name)) (name_eq_other name (string_bytes g.name) (λ e. first 0 g (omega arith) refl (sym e)))
    ∙ found fs name i f is named (λ j h below at. first (suc j) h (omega arith) at)

-- two tests that don't hold both may be made in either order
cond_swap : {A : Type 0} (a b : Bool) (x y z : A) → (a ≡ true → b ≡ true → ⊥) → cond a x (cond b y z) ≡ cond b y (cond a x z)
cond_swap true true x y z h = absurd (h refl refl)
cond_swap true false x y z h = refl
cond_swap false true x y z h = refl
cond_swap false false x y z h = refl

-- a test made twice is made once
cond_twice : {A : Type 0} (b : Bool) (x y z : A) → cond b x z ≡ cond b x (cond b y z)
cond_twice true x y z = refl
cond_twice false x y z = refl

-- any file after the first held file of a name was replaced
at_set : (fs : List HeldFile) (name : List ℕ) (i : ℕ) (f : HeldFile) (q : List ℕ) → i < length fs → string_bytes f.name ≡ name → ((g : HeldFile) → slice_get fs i ≡ Some g → string_bytes g.name ≡ name) → ((j : ℕ) (g : HeldFile) → j < i → slice_get fs j ≡ Some g → string_bytes g.name ≢ name) → file (files_of (slice_set fs i f)) q ≡ cond (name_eq q name) (Some f.bytes.items) (file (files_of fs) q)
at_set [] name i f q below named at first = absurd (omega arith)
at_set (g ∷ fs) name zero f q below named at first =
    file_set (files_of fs) (string_bytes f.name) f.bytes.items q
    ∙ ap (λ (n : List ℕ). cond (name_eq q n) (Some f.bytes.items) (file (files_of fs) q)) named
    ∙ cond_twice (name_eq q name) (Some f.bytes.items) (Some g.bytes.items) (file (files_of fs) q)
    ∙ ap (λ (n : List ℕ). cond (name_eq q name) (Some f.bytes.items) (cond (name_eq q n) (Some g.bytes.items) (file (files_of fs) q))) (sym (at g refl))
    ∙ ap (λ (o : Option (List ℕ)). cond (name_eq q name) (Some f.bytes.items) o) (sym (file_set (files_of fs) (string_bytes g.name) g.bytes.items q))
at_set (g ∷ fs) name (suc i) f q below named at first =
    file_set (files_of (slice_set fs i f)) (string_bytes g.name) g.bytes.items q
    ∙ ap (λ (o : Option (List ℕ)). cond (name_eq q (string_bytes g.name)) (Some g.bytes.items) o) (at_set fs name i f q (omega arith) named at (λ j h under is. first (suc j) h (omega arith) is))
    ∙ cond_swap (name_eq q (string_bytes g.name)) (name_eq q name) _ _ _ (λ s t. first 0 g (omega arith) refl (sym (name_eq_true _ _ s) ∙ name_eq_true _ _ t))
    ∙ ap (λ (o : Option (List ℕ)). cond (name_eq q name) (Some f.bytes.items) o) (sym (file_set (files_of fs) (string_bytes g.name) g.bytes.items q))

-- to replace the first held file of a name is to set the file
pub set_first : (fs : List HeldFile) (name : List ℕ) (i : ℕ) (f : HeldFile) → IsFirst fs name i → string_bytes f.name ≡ name → files_of (slice_set fs i f) ≡ fin.insert (files_of fs) name f.bytes.items
set_first fs name i f is named = same_files _ _ (λ q. at_set fs name i f q is.below named is.named is.first ∙ sym (file_set (files_of fs) name f.bytes.items q))

-- the file at the first place of its name
pub found_first : (fs : List HeldFile) (name : List ℕ) (i : ℕ) (f : HeldFile) → IsFirst fs name i → slice_get fs i ≡ Some f → file (files_of fs) name ≡ Some f.bytes.items
found_first fs name i f is at = found fs name i f at (is.named f at) is.first

-- to push a held file of a new name is to set the file
pub push_new : (fs : List HeldFile) (f : HeldFile) (name : List ℕ) → string_bytes f.name ≡ name → file (files_of fs) name ≡ None → files_of (fs ++ f ∷ []) ≡ fin.insert (files_of fs) name f.bytes.items
push_new fs f name named none =
    let pushed : map entry_of (fs ++ f ∷ []) ≡ map entry_of fs ++ (string_bytes f.name, f.bytes.items) ∷ [] = map-append entry_of fs (f ∷ []) in
    let unheld : fin.find (slice_cmp nat_cmp) (string_bytes f.name) (map entry_of fs) ≡ None = sym (get-from_entries nat_list_cmp_total (map entry_of fs) (string_bytes f.name)) ∙ ap (λ (n : List ℕ). file (files_of fs) n) named ∙ none in
    ap (λ (es : List (List ℕ × List ℕ)). fin.from_entries es) pushed
    ∙ fin.from_entries_push nat_list_cmp_total (slice_cmp-IsAntisymmetric nat_cmp-IsAntisymmetric) (map entry_of fs) (string_bytes f.name) f.bytes.items unheld
    ∙ ap (λ (n : List ℕ). fin.insert (files_of fs) n f.bytes.items) named

-- room for one more is room for whatever is pending
pub room : (o : Option HeldFile) (fs : Vec HeldFile Global) → length fs.items < vec_capacity fs → HasRoom o fs
room None fs h = tt
room (Some f) fs h = h
