-- Stages behind the last refusal: files that are read again, and the file OUT.
use Rattle.std.proofs.Common.{◌≡◌, ◌⊎◌, inl, inr, ⊎_elim, ℕ, ◌≤◌, List, refl, sym, ◌∙◌, ap, subst, le_trans, le_refl}
use Rattle.std.specs.Prelude.{Option, None, Ok, Err}
use Rattle.std.specs.Option.{ForSome}
use Rattle.outer_io.specs.Store.{Files, StoreState, OnlyReads, OnlyWrites, with_file}
use Rattle.outer_io.specs.declared.faults.StoreFault.{StoreFault}
use Rattle.outer_io.specs.declared.faults.Damage.TheVariants.{Field, Length, Digest, NotReduced, Changed}
use Rattle.file_model.specs.Reading.{FileCause, IsSecondFault}
use Rattle.file_model.specs.declared.faults.FileFault.{FileFault}
use Rattle.file_model.specs.declared.faults.FileFault.TheVariants as faults
use Rattle.command_words.specs.declared.status.Status.{Status}
use Rattle.command_words.specs.declared.status.Status.TheVariants.{Memory}
use Rattle.command_model.specs.Reading.{status_of}
use Rattle.command_model.specs.Answers.{IsFault}
use Rattle.command_model.specs.Batches.{NoCountFell}
use Rattle.command_stages.specs.Stages.{IsSecondRefusal, Unmade, Made, Wrote, write_status}
use Rattle.command_stages.proofs.Causes.{caused_as, caused_behind, caused_by_write, memory_caused, unwritten_is_fault}
use Rattle.command_stages.proofs.Scanning.{caused_by_fault}

-- where memory was wanting, nothing was made
pub unmade_for_memory : (IsAgain : ℕ → Type 0) (AreSame : Files → Type 0) (old new : StoreState) → Unmade IsAgain AreSame old new Memory
unmade_for_memory IsAgain AreSame old new = record { may = inl tt; told = λ files told same. tt; caused = memory_caused IsAgain old new }

-- a second reading answers a fault of the store, or that the file is gone or has changed
second_refusal : (word : ℕ) (fault : FileFault) → IsSecondFault fault → IsFault (status_of word fault) ⊎ IsSecondRefusal word (status_of word fault)
second_refusal word faults.Missing second = inr (inl refl)
second_refusal word faults.Failed second = inl tt
second_refusal word faults.Memory second = inl tt
second_refusal word (faults.Damaged Changed) second = inr (inr refl)
second_refusal word faults.NotOurs second = absurd second
second_refusal word (faults.Version have) second = absurd second
second_refusal word (faults.Kind have) second = absurd second
second_refusal word (faults.Damaged (Field offset)) second = absurd second
second_refusal word (faults.Damaged (Length have want)) second = absurd second
second_refusal word (faults.Damaged Digest) second = absurd second
second_refusal word (faults.Damaged (NotReduced place)) second = absurd second

store_fault : (word : ℕ) (fault : FileFault) → (fault ≡ faults.Failed) ⊎ (fault ≡ faults.Memory) → IsFault (status_of word fault)
store_fault word fault (inl is) = subst (λ (f : FileFault). IsFault (status_of word f)) (sym is) tt
store_fault word fault (inr is) = subst (λ (f : FileFault). IsFault (status_of word f)) (sym is) tt

-- the file of a word couldn't be read again
pub unmade_again : {T : Type 0} (word : ℕ) (AreSame : Files → Type 0) (old new : StoreState) (fault : FileFault) → FileCause {T = T} old new (Err fault) → IsSecondFault fault
    → ForSome old.files (λ files. AreSame files → (fault ≡ faults.Failed) ⊎ (fault ≡ faults.Memory)) → Unmade (λ w. w ≡ word) AreSame old new (status_of word fault)
unmade_again word AreSame old new fault cause second never = record {
  may = ⊎_elim inl (λ refusal. inr (word, (refl, refusal))) (second_refusal word fault second);
  told = λ files told same. store_fault word fault (never files told same);
  caused = caused_by_fault word old new fault cause;
}

-- a stage stopped before another one begins to make something of more files
pub unmade_behind : {P Q : ℕ → Type 0} {AreSame AreAll : Files → Type 0} {old mid new : StoreState} {status : Status} → OnlyReads old mid → ((word : ℕ) → P word → Q word)
    → ((files : Files) → AreAll files → AreSame files) → Unmade P AreSame mid new status → Unmade Q AreAll old new status
unmade_behind {P} {Q} {AreSame} {AreAll} {old} {mid} {new} {status} keeps again same un = record {
  may = ⊎_elim inl (λ (word, (is, refusal)). inr (word, (again word is, refusal))) un.may;
  told = λ files told all. un.told files (keeps.files ∙ told) (same files all);
  caused = caused_behind keeps (caused_as again un.caused);
}

-- ---- the file OUT
counts_then : (old mid new : StoreState) → OnlyReads old mid → mid.faults ≤ new.faults → mid.write_faults ≤ new.write_faults → mid.misses ≤ new.misses → NoCountFell old new
counts_then old mid new keeps reading writing missing = record {
  reading = le_trans keeps.faults reading;
  writing = subst (λ (n : ℕ). n ≤ new.write_faults) keeps.write_faults writing;
  missing = le_trans keeps.misses missing;
}

-- a file of this name was written, after files were only read
pub wrote_file : (name : List ℕ) (IsAgain : ℕ → Type 0) (AreSame : Files → Type 0) (Is : List ℕ → Type 0) (old mid new : StoreState) (bytes : List ℕ) → OnlyReads old mid
    → OnlyWrites {T = Unit {0}} mid new (Ok tt) → new.pending ≡ None → new.files ≡ with_file mid.files name bytes → ForSome old.files (λ files. AreSame files → Is bytes)
    → Wrote {B = Unit {0}} name IsAgain AreSame Is old new (Ok tt)
wrote_file name IsAgain AreSame Is old mid new bytes keeps writes idle after made = record {
  idle = λ _. idle;
  counts = counts_then old mid new keeps (subst (λ (n : ℕ). mid.faults ≤ n) (sym writes.faults) (le_refl mid.faults)) writes.write_faults writes.misses;
  ok = λ files told same. (bytes, (made files told same, after ∙ ap (λ (f : Option Files). with_file f name bytes) (keeps.files ∙ told)));
  err = tt;
  unchanged = tt;
}

-- the file of this name couldn't be written
pub unwritten : {T : Type 0} (name : List ℕ) (IsAgain : ℕ → Type 0) (AreSame : Files → Type 0) (Is : List ℕ → Type 0) (old mid new : StoreState) (fault : StoreFault) → OnlyReads old mid
    → OnlyWrites {T = T} mid new (Err fault) → new.files ≡ mid.files → Wrote {B = Unit {0}} name IsAgain AreSame Is old new (Err (write_status fault))
unwritten name IsAgain AreSame Is old mid new fault keeps writes same = record {
  idle = λ _. writes.dropped;
  counts = counts_then old mid new keeps (subst (λ (n : ℕ). mid.faults ≤ n) (sym writes.faults) (le_refl mid.faults)) writes.write_faults writes.misses;
  ok = tt;
  err = record {
    may = inl (unwritten_is_fault fault);
    told = λ files told same. unwritten_is_fault fault;
    caused = caused_behind keeps (caused_by_write IsAgain mid new fault writes);
  };
  unchanged = same ∙ keeps.files;
}

-- nothing was made that could be written
pub unmade_unwritten : {B : Type 0} {IsAgain : ℕ → Type 0} {AreSame : Files → Type 0} {old new : StoreState} (name : List ℕ) (Is : List ℕ → Type 0) (status : Status) → OnlyReads old new
    → Unmade IsAgain AreSame old new status → Wrote {B = B} name IsAgain AreSame Is old new (Err status)
unmade_unwritten {B} {IsAgain} {AreSame} {old} {new} name Is status keeps un = record {
  idle = λ none. keeps.pending ∙ none;
  counts = counts_then old new new keeps (le_refl new.faults) (le_refl new.write_faults) (le_refl new.misses);
  ok = tt;
  err = un;
  unchanged = keeps.files;
}

-- ---- what is made of files that are read again
-- memory was wanting, after files were only read
pub made_for_memory : {B : Type 0} {IsAgain : ℕ → Type 0} {AreSame : Files → Type 0} {Is : B → Type 0} {old new : StoreState} → OnlyReads old new → Made IsAgain AreSame Is old new (Err Memory)
made_for_memory {B} {IsAgain} {AreSame} {Is} {old} {new} keeps =
    record { keeps = keeps; ok = tt; err = unmade_for_memory IsAgain AreSame old new; reads = λ is. cc }

-- nothing is made where what comes before wasn't
pub unmade_before : {A B : Type 0} {IsAgain : ℕ → Type 0} {AreSame : Files → Type 0} {Before : A → Type 0} {Is : B → Type 0} {old new : StoreState} {status : Status}
    → Made IsAgain AreSame Before old new (Err status) → Made IsAgain AreSame Is old new (Err status)
unmade_before {A} {B} {IsAgain} {AreSame} {Before} {Is} {old} {new} {status} made = record { keeps = made.keeps; ok = tt; err = made.err; reads = made.reads }
