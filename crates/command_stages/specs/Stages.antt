-- What the stages of a command say of their results.
use Rattle.std.specs.Prelude.{◌≡◌, ◌≢◌, ◌⊎◌, ℕ, List, length, take, Option, Some, None, Result, Ok, Err, OnOk, OnErr, IfOk, IfErr}
use Rattle.std.specs.Option.{ForSome}
use Rattle.std.specs.FinMap as map
use Rattle.outer_io.specs.Store.{Files, StoreState, OnlyReads, Rose, file, contents}
use Rattle.outer_io.specs.Sink.{SinkState, grown}
use Rattle.outer_io.specs.declared.faults.StoreFault.{StoreFault}
use Rattle.outer_io.specs.declared.faults.StoreFault.TheVariants as store
use Rattle.outer_io.specs.declared.faults.Damage.TheVariants.{Changed}
use Rattle.file_model.specs.FileText.{IsFile}
use Rattle.command_words.specs.declared.status.Status.{Status}
use Rattle.command_words.specs.declared.status.Status.TheVariants.{Done, Memory, WriteFault, MissingFile, Damaged}
use Rattle.command_model.specs.Reading.{Sort, own_file, Said, said_by, taken, Reading, done, refused, Output, outcome, IsReached, MayBeRefused, MaySay, MayRefuse}
use Rattle.command_model.specs.Plan.{reading}
use Rattle.command_words.specs.Form.{form_of}
use Rattle.command_model.specs.Answers.{IsFault, IsOperandOf}
use Rattle.command_model.specs.Batches.{NoCountFell}
use Rattle.command_model.specs.Commanded.{Caused}

-- ---- one file

-- bytes that say something as a file of the scheme are a file with this content
abbrev pub IsHeld : (sort : Sort) → List ℕ → Said sort → Type 0
IsHeld (own_file wanted) bytes content = IsFile bytes content
IsHeld sort bytes said = Unit {0}

-- among these files there is one of this name, and it says this
pub record Says (files : Files) (name : List ℕ) (word : ℕ) (sort : Sort) (said : Said sort) : Type 0 where
  pub there : file files name ≡ Some (contents files name)
  pub is : said_by sort word (contents files name) ≡ Ok said
  pub held : IsHeld sort (contents files name) said

-- this was taken of the file of a name: it may be said, and where the files are told, it is
pub record Taken (told : Option Files) (name : List ℕ) (word : ℕ) (sort : Sort) (said : Said sort) : Type 0 where
  pub may : MaySay sort word said
  pub says : ForSome told (λ files. Says files name word sort said)

-- nothing was taken of the file of a name, which a word gives
pub record Untaken (name : List ℕ) (word : ℕ) (sort : Sort) (old new : StoreState) (status : Status) : Type 0 where
  pub may : IsFault status ⊎ MayBeRefused sort word status
  pub told : ForSome old.files (λ files. IsFault status ⊎ (taken sort word (file files name) ≡ Err status))
  pub caused : Caused (λ w. w ≡ word) old new status
  pub reads : status ≢ WriteFault

-- the file of a name was read, which a word gives; a value that was made of it fits what it says
pub record Took {B : Type 0} (name : List ℕ) (word : ℕ) (sort : Sort) (Fits : Said sort → B → Type 0) (old new : StoreState) (result : Result B Status) : Type 0 where
  pub keeps : OnlyReads old new
  pub ok : IfOk result (λ value. (said : Said sort) × (Fits said value × Taken old.files name word sort said))
  pub err : IfErr result (Untaken name word sort old new)

-- ---- the way through a reading

-- what a command read led here: it comes to what the rest comes to
pub record Way (words : List (List ℕ)) (rest : Reading) (old now : StoreState) : Type 0 where
  pub keeps : OnlyReads old now
  pub outcome_is : ForSome old.files (λ files. outcome files (reading words) ≡ outcome files rest)
  pub reached : ForSome old.files (λ files. (word : ℕ) → IsReached files rest word → IsReached files (reading words) word)
  pub may : (status : Status) → MayRefuse rest status → MayRefuse (reading words) status

-- what is computed without a call of the store comes to what the rest comes to, or memory was wanting
pub record Came {B : Type 0} (rest : Reading) (output : B → Output) (result : Result B Status) : Type 0 where
  pub ok : IfOk result (λ value. rest ≡ done (output value))
  pub err : IfErr result (λ status. (status ≡ Memory) ⊎ (rest ≡ refused status))

-- ---- behind the last refusal

-- this is said of the file of a word that is read again: it is gone, or has changed
abbrev pub IsSecondRefusal : ℕ → Status → Type 0
IsSecondRefusal word status = (status ≡ MissingFile word) ⊎ (status ≡ Damaged word Changed)

-- a file of the scheme that was read on the way, and may be read again
pub record MayReread (words : List (List ℕ)) (old : StoreState) (word : ℕ) : Type 0 where
  pub reached : ForSome old.files (λ files. IsReached files (reading words) word)
  pub may : (status : Status) → IsSecondRefusal word status → MayRefuse (reading words) status
  pub named : IsOperandOf (form_of words) (length words) word

-- a stage stopped that reads the files of some words again; where these are still as they were, no word and no file brings that about
pub record Unmade (IsAgain : ℕ → Type 0) (AreSame : Files → Type 0) (old new : StoreState) (status : Status) : Type 0 where
  pub may : IsFault status ⊎ ((word : ℕ) × (IsAgain word × IsSecondRefusal word status))
  pub told : ForSome old.files (λ files. AreSame files → IsFault status)
  pub caused : Caused IsAgain old new status

-- a value was made of files that were read again
pub record Made {B : Type 0} (IsAgain : ℕ → Type 0) (AreSame : Files → Type 0) (Is : B → Type 0) (old new : StoreState) (result : Result B Status) : Type 0 where
  pub keeps : OnlyReads old new
  pub ok : IfOk result (λ value. ForSome old.files (λ files. AreSame files → Is value))
  pub err : IfErr result (Unmade IsAgain AreSame old new)
  pub reads : IfErr result (λ status. status ≢ WriteFault)

-- the file of this name was written
pub record Wrote {B : Type 0} (name : List ℕ) (IsAgain : ℕ → Type 0) (AreSame : Files → Type 0) (Is : List ℕ → Type 0) (old new : StoreState) (result : Result B Status) : Type 0 where
  pub idle : old.pending ≡ None → new.pending ≡ None
  pub counts : NoCountFell old new
  pub ok : OnOk result (ForSome old.files (λ files. AreSame files → (bytes : List ℕ) × (Is bytes × (new.files ≡ Some (map.insert files name bytes)))))
  pub err : IfErr result (Unmade IsAgain AreSame old new)
  pub unchanged : OnErr result (new.files ≡ old.files)

-- what is answered where a call that writes the file OUT fails
abbrev pub write_status : StoreFault → Status
write_status store.Memory = Memory
write_status store.Failed = WriteFault
write_status store.Missing = WriteFault

-- ---- the printed line

-- the line of an output is put: the answer is Done where it was put whole
pub record Announced (old new : SinkState) (text : List ℕ) (answer : Status) : Type 0 where
  pub done : answer ≡ Done → new.text ≡ grown old text
  pub part : answer ≢ Done → (count : ℕ) × (new.text ≡ grown old (take count text))
  pub why : (answer ≡ Done) ⊎ (answer ≡ Memory) ⊎ ((answer ≡ WriteFault) × Rose old.faults new.faults)
