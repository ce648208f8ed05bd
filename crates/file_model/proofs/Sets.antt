-- Kinds and sets by their numbers.
use Rattle.std.proofs.Common.{◌≡◌, ℕ, List, [], ◌∷◌, refl, sym, ◌∙◌, ap}
use Rattle.std.specs.Prelude.{Bool, true, false, ◌==◌, Option, Some, find, if◌then◌else◌}
use Rattle.std.proofs.lemmas.Bool.{eqb-true}
use Rattle.set_table.specs.declared.SetName.{SetName}
use Rattle.set_table.specs.declared.SetName.TheVariants.{One16, Toy16, S4096, S8192, S16384}
use Rattle.set_table.specs.declared.KeyKind.TheVariants.{Relin, Turn}
use Rattle.set_table.specs.Sets.{number_of}
use Rattle.file_model.specs.declared.file_kind.FileKind.{FileKind}
use Rattle.file_model.specs.declared.file_kind.FileKind.TheVariants.{Secret, PublicKey, SwitchKey, Cipher}
use Rattle.file_model.specs.FileText.{number_of_kind}
use Rattle.file_model.specs.Scan.{kind_of_number}
use Rattle.set_table.specs.Sets.{set_numbered}

-- what a search finds passes the test
found_passes : {X : Type 0} (p : X → Bool) (x d : X) (further : Option X) → (if p x then Some x else further) ≡ Some d
    → (further ≡ Some d → p d ≡ true) → p d ≡ true
found_passes p x d further is others = case (p x) refl is
  where
    case : (b : Bool) → p x ≡ b → (if b then Some x else further) ≡ Some d → p d ≡ true
    case true here first = let same : x ≡ d = cc in ap p (sym same) ∙ here
    case false here first = others first

pub find-passes : {X : Type 0} (p : X → Bool) (xs : List X) (d : X) → find p xs ≡ Some d → p d ≡ true
find-passes p [] d is = absurd (cc)
find-passes p (x ∷ xs) d is = found_passes p x d (find p xs) is (λ rest. find-passes p xs d rest)

-- the number of the set that a number stands for
pub number_of-found : (number : ℕ) (set : SetName) → set_numbered number ≡ Some set → number_of set ≡ number
number_of-found number set is = eqb-true (number_of set) number (find-passes (λ (s : SetName). number_of s == number) (One16 ∷ Toy16 ∷ S4096 ∷ S8192 ∷ S16384 ∷ []) set is)

pub number_of_kind-found : (number : ℕ) (kind : FileKind) → kind_of_number number ≡ Some kind → number_of_kind kind ≡ number
number_of_kind-found number kind is = eqb-true (number_of_kind kind) number (find-passes (λ (k : FileKind). number_of_kind k == number) (Secret ∷ PublicKey ∷ SwitchKey Relin ∷ SwitchKey Turn ∷ Cipher ∷ []) kind is)

-- each set and each kind is found by its number
pub set_numbered-number_of : (set : SetName) → set_numbered (number_of set) ≡ Some set
set_numbered-number_of One16 = refl
set_numbered-number_of Toy16 = refl
set_numbered-number_of S4096 = refl
set_numbered-number_of S8192 = refl
set_numbered-number_of S16384 = refl

pub kind_of_number-number_of_kind : (kind : FileKind) → kind_of_number (number_of_kind kind) ≡ Some kind
kind_of_number-number_of_kind Secret = refl
kind_of_number-number_of_kind PublicKey = refl
kind_of_number-number_of_kind (SwitchKey Relin) = refl
kind_of_number-number_of_kind (SwitchKey Turn) = refl
kind_of_number-number_of_kind Cipher = refl

-- sets and kinds with one number are one
one_found : {X : Type 0} (a b : Option X) (x y : X) → a ≡ b → a ≡ Some x → b ≡ Some y → x ≡ y
one_found a b x y same first second = cc

pub number_of-once : (set other : SetName) → number_of set ≡ number_of other → set ≡ other
number_of-once set other is =
    one_found (set_numbered (number_of set)) (set_numbered (number_of other)) set other (ap set_numbered is) (set_numbered-number_of set)
    (set_numbered-number_of other)

pub number_of_kind-once : (kind other : FileKind) → number_of_kind kind ≡ number_of_kind other → kind ≡ other
number_of_kind-once kind other is =
    one_found (kind_of_number (number_of_kind kind)) (kind_of_number (number_of_kind other)) kind other (ap kind_of_number is)
    (kind_of_number-number_of_kind kind) (kind_of_number-number_of_kind other)
