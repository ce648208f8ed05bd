-- What a fault of a scan keeps, whether the store tells its files or not.
use Rattle.std.specs.Prelude.{◌≡◌, ◌≢◌, ℕ, ◌<◌, Bool, true, false, ◌==◌, [], ◌∷◌}
use Rattle.std.specs.List.{list_any}
use Rattle.outer_io.specs.declared.faults.Damage.TheVariants.{Field, Length, NotReduced, Changed}
use Rattle.file_model.specs.declared.file_kind.FileKind.{FileKind}
use Rattle.file_model.specs.FileText.{version, number_of_kind}
use Rattle.file_model.specs.Heads.{wants, HeadKeepsRules}
use Rattle.file_model.specs.declared.faults.FileFault.{FileFault}
use Rattle.file_model.specs.declared.faults.FileFault.TheVariants.{Version, Kind, Damaged}
use Rattle.file_model.specs.declared.head.Head.{Head}
use Rattle.file_model.specs.declared.head.Wanted.{Wanted}

-- a field with a rule stands at this offset of a head
abbrev pub is_field : ℕ → Bool
is_field offset = list_any (λ at. at == offset) (8 ∷ 9 ∷ 10 ∷ 11 ∷ 12 ∷ 32 ∷ 40 ∷ 48 ∷ [])

-- this is the number of a kind that isn't wanted
pub record IsUnwanted (wanted : Wanted) (number : ℕ) : Type 0 where
  pub kind : FileKind
  pub number_is : number_of_kind kind ≡ number
  pub unwanted : wants wanted kind ≡ false

-- this is the number of a word in a file of a wanted kind
pub record IsCounted (wanted : Wanted) (place : ℕ) : Type 0 where
  pub head : Head
  pub rules : HeadKeepsRules head
  pub wanted_is : wants wanted head.kind ≡ true
  pub below : place < head.words

-- a scan for a wanted kind may answer this fault
abbrev pub IsScanFault : Wanted → FileFault → Type 0
IsScanFault wanted (Version number) = number ≢ version
IsScanFault wanted (Kind number) = IsUnwanted wanted number
IsScanFault wanted (Damaged (Field offset)) = is_field offset ≡ true
IsScanFault wanted (Damaged (Length have want)) = have ≢ want
IsScanFault wanted (Damaged (NotReduced place)) = IsCounted wanted place
IsScanFault wanted (Damaged Changed) = ⊥
IsScanFault wanted _ = Unit {0}
