-- A set is found by its name, and by its number.
use Rattle.std.proofs.Common.{◌≡◌, ◌≢◌, ℕ, List, [], ◌∷◌, refl, sym, ap, ◌∙◌, true, false}
use Rattle.std.specs.Prelude.{◌↔◌, Bool, ◌==◌, Option, Some, None, find, if◌then◌else◌}
use Rattle.std.specs.Str.{bytes_eq}
use Rattle.std.proofs.lemmas.Bool.{eqb-true}
use Rattle.std.proofs.lemmas.Slice.Eq.{bytes_eq-Decides}
use Rattle.set_table.specs.declared.SetName.{SetName}
use Rattle.set_table.specs.declared.SetName.TheVariants.{One16, Toy16, S4096, S8192, S16384}
use Rattle.set_table.specs.Sets.{name_of, number_of, sets, set_named, set_numbered}

-- what a search finds passes the test
found_passes : {X : Type 0} (p : X → Bool) (x d : X) (further : Option X) → (if p x then Some x else further) ≡ Some d
    → (further ≡ Some d → p d ≡ true) → p d ≡ true
found_passes p x d further is others = case (p x) refl is
  where
    case : (b : Bool) → p x ≡ b → (if b then Some x else further) ≡ Some d → p d ≡ true
    case true here first = let same : x ≡ d = cc in ap p (sym same) ∙ here
    case false here first = others first

pub find-passes : {X : Type 0} (p : X → Bool) (xs : List X) (d : X) → find p xs ≡ Some d → p d ≡ true
find-passes p [] d is = absurd (cc)
find-passes p (x ∷ xs) d is = found_passes p x d (find p xs) is (λ rest. find-passes p xs d rest)

name_apart : (name : List ℕ) (set : SetName) → name ≢ name_of set → bytes_eq name (name_of set) ≡ false
name_apart name set apart = decided (bytes_eq name (name_of set)) (bytes_eq-Decides name (name_of set)).0
  where
    decided : (b : Bool) → (b ≡ true → name ≡ name_of set) → b ≡ false
    decided true is = absurd (apart (is refl))
    decided false is = refl

pub no_set_named : (name : List ℕ) → name ≢ name_of One16 → name ≢ name_of Toy16 → name ≢ name_of S4096 → name ≢ name_of S8192 → name ≢ name_of S16384
    → set_named name ≡ None
unfolding set_named
no_set_named name one16 toy16 s4096 s8192 s16384 =
    rw (name_apart name One16 one16) (rw (name_apart name Toy16 toy16) (rw (name_apart name S4096 s4096)
    (rw (name_apart name S8192 s8192) (rw (name_apart name S16384 s16384) refl))))

pub set_named-name_of : (set : SetName) → set_named (name_of set) ≡ Some set
unfolding set_named
set_named-name_of One16 = refl
set_named-name_of Toy16 = refl
set_named-name_of S4096 = refl
set_named-name_of S8192 = refl
set_named-name_of S16384 = refl

-- the number of the set that a number stands for
pub number_of-found : (number : ℕ) (set : SetName) → set_numbered number ≡ Some set → number_of set ≡ number
number_of-found number set is = eqb-true (number_of set) number (find-passes (λ (s : SetName). number_of s == number) sets set is)

pub set_numbered-number_of : (set : SetName) → set_numbered (number_of set) ≡ Some set
set_numbered-number_of One16 = refl
set_numbered-number_of Toy16 = refl
set_numbered-number_of S4096 = refl
set_numbered-number_of S8192 = refl
set_numbered-number_of S16384 = refl

-- a set that is found exactly by its number is the one of this number
pub numbered_set : (number : ℕ) (found : Option SetName) → ((set : SetName) → (found ≡ Some set) ↔ (number ≡ number_of set)) → found ≡ set_numbered number
numbered_set number (Some set) all = sym (ap set_numbered ((all set).0 refl) ∙ set_numbered-number_of set)
numbered_set number None all = case (set_numbered number) refl
  where
    case : (o : Option SetName) → set_numbered number ≡ o → None ≡ o
    case None is = refl
    case (Some set) is = (all set).1 (sym (number_of-found number set is))
