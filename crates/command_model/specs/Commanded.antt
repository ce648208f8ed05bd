-- What each command keeps up to its printed line. The clauses of the top call follow from it, and who reads those needn't read it.
use Rattle.std.specs.Option.{ForSome}
use Rattle.std.specs.Prelude.{◌≡◌, ◌≢◌, ◌⊎◌, ℕ, ◌≤◌, true, List, length, Option, Some, None, IsSome, Result, Err, IfOk, IfErr, IsOk}
use Rattle.outer_io.specs.Store.{Files, StoreState, Rose}
use Rattle.command_words.specs.Form.{form_of}
use Rattle.command_words.specs.Status.{parts_of}
use Rattle.command_words.specs.declared.status.Status.{Status}
use Rattle.command_words.specs.declared.status.Status.TheVariants.{Done, Usage, ReadFault, WriteFault, MissingFile}
use Rattle.command_model.specs.Reading.{IsReached, MayRefuse}
use Rattle.command_model.specs.Plan.{reading, plan, out_name}
use Rattle.command_model.specs.Answers.{IsFault, IsDone, IsOperandOf, IsOutputLine}
use Rattle.command_model.specs.Plain.{step}
use Rattle.command_model.specs.Batches.{NoCountFell, Follow}

-- what an answer other than Done owes to, whether the store tells its files or not, where it may name these words
pub record Caused (IsNamed : ℕ → Type 0) (old new : StoreState) (status : Status) : Type 0 where
  pub refused : status ≢ Done
  pub formed : status ≢ Usage
  pub read : (word : ℕ) → status ≡ ReadFault word → Rose old.faults new.faults
  pub write : status ≡ WriteFault → Rose old.write_faults new.write_faults
  pub missing : (word : ℕ) → status ≡ MissingFile word → Rose old.misses new.misses
  pub word : (word : ℕ) → (parts_of status).word ≡ Some word → IsNamed word
  pub binding : (word : ℕ) → (parts_of status).word ≡ Some word → (parts_of status).whole ≡ true → 3 ≤ word

-- what a command that isn't refused leaves to be put: nothing where it wrote the file OUT, and else the line of its output
abbrev pub IsLeftToPut : Option (List ℕ) → List (List ℕ) → Option Files → Option (List ℕ) → Type 0
IsLeftToPut (Some name) words before line = line ≡ None
IsLeftToPut None words before line = (text : List ℕ) × ((line ≡ Some text) × IsOutputLine words before text)

-- A command did what it was to do, but for the text that it leaves to be put.
pub record Finished (words : List (List ℕ)) (left : Option (List ℕ)) (old new : StoreState) : Type 0 where
  -- the files are as the plan says
  pub done : ForSome old.files (λ files. IsDone words files new.files)
  -- what they stand for went the way of the plain machine
  pub stands : ForSome old.files (λ before. ForSome new.files (λ after. Follow (step words) before after))
  pub line : IsLeftToPut (out_name (form_of words) words) words old.files left

-- A command stopped with this answer.
pub record Stopped (words : List (List ℕ)) (old new : StoreState) (status : Status) : Type 0 where
  pub files : new.files ≡ old.files
  -- it is the refusal, or an answer that no word and no file brings about
  pub told : ForSome old.files (λ files. IsFault status ⊎ (plan words files ≡ Err status))
  -- and where the files aren't told, a refusal is one to which the words may come
  pub may : IsFault status ⊎ MayRefuse (reading words) status
  -- a file is read only where nothing was refused before it, and written only where nothing is
  pub read_fault : (word : ℕ) → status ≡ ReadFault word → ForSome old.files (λ files. IsReached files (reading words) word)
  pub write_fault : status ≡ WriteFault → IsSome (out_name (form_of words) words) × ForSome old.files (λ files. IsOk (plan words files))
  pub caused : Caused (IsOperandOf (form_of words) (length words)) old new status

-- What a command keeps that takes the store from one state to another; `left` gives what its value leaves to be put.
pub record Commanded {T : Type 0} (words : List (List ℕ)) (left : T → Option (List ℕ)) (old new : StoreState) (result : Result T Status) : Type 0 where
  -- nothing comes to be pending, and no count falls
  pub idle : old.pending ≡ None → new.pending ≡ None
  pub counts : NoCountFell old new
  pub ok : IfOk result (λ value. Finished words (left value) old new)
  pub err : IfErr result (Stopped words old new)
