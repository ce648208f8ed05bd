-- What an answer owes to.
use Rattle.std.proofs.Common.{◌≡◌, inl, inr, ℕ, ◌≤◌, sym, subst, refl, ◌∙◌, le_refl, arith}
use Rattle.std.specs.Prelude.{true, Some, Err}
use Rattle.outer_io.specs.Store.{StoreState, OnlyReads, OnlyWrites, Rose}
use Rattle.outer_io.specs.declared.faults.StoreFault.{StoreFault}
use Rattle.outer_io.specs.declared.faults.StoreFault.TheVariants as store
use Rattle.command_words.specs.Status.{parts_of}
use Rattle.command_words.specs.declared.status.Status.{Status}
use Rattle.command_words.specs.declared.status.Status.TheVariants.{Memory}
use Rattle.command_model.specs.Answers.{IsFault}
use Rattle.command_model.specs.Commanded.{Caused}
use Rattle.command_stages.specs.Causes.{OwesNoCall, OwesNothing}
use Rattle.command_stages.specs.Stages.{write_status}

-- it owes to the words that it keeps alone
pub caused_by_no_call : (IsNamed : ℕ → Type 0) (old new : StoreState) (status : Status) → OwesNoCall status
    → ((word : ℕ) → (parts_of status).word ≡ Some word → IsNamed word)
    → ((word : ℕ) → (parts_of status).word ≡ Some word → (parts_of status).whole ≡ true → 3 ≤ word) → Caused IsNamed old new status
caused_by_no_call IsNamed old new status none named binding = record {
  refused = λ is. subst OwesNoCall is none;
  formed = λ is. subst OwesNoCall is none;
  read = λ word is. absurd (subst OwesNoCall is none);
  write = λ is. absurd (subst OwesNoCall is none);
  missing = λ word is. absurd (subst OwesNoCall is none);
  word = named;
  binding = binding;
}

-- it may come at any time
pub caused_by_nothing : (IsNamed : ℕ → Type 0) (old new : StoreState) (status : Status) → OwesNothing status → Caused IsNamed old new status
caused_by_nothing IsNamed old new status owes =
    caused_by_no_call IsNamed old new status owes.none (λ word at. let never = sym owes.nameless ∙ at in absurd (cc)) (λ word at whole. let never = sym owes.nameless ∙ at in absurd (cc))

-- where memory was wanting, to nothing
pub memory_caused : (IsNamed : ℕ → Type 0) (old new : StoreState) → Caused IsNamed old new Memory
memory_caused IsNamed old new = caused_by_no_call IsNamed old new Memory tt (λ word at. absurd (cc)) (λ word at whole. absurd (cc))

-- what an answer owes to is owed where more words may be named
pub caused_as : {P Q : ℕ → Type 0} {old new : StoreState} {status : Status} → ((word : ℕ) → P word → Q word) → Caused P old new status → Caused Q old new status
caused_as {P} {Q} {old} {new} {status} named cause = record {
  refused = cause.refused;
  formed = cause.formed;
  read = cause.read;
  write = cause.write;
  missing = cause.missing;
  word = λ word at. named word (cause.word word at);
  binding = cause.binding;
}

rose_behind : (old between new : ℕ) → old ≤ between → Rose between new → Rose old new
rose_behind old between new below (inl rose) = inl (omega arith)
rose_behind old between new below (inr last) = inr last

-- and it is owed from before calls that only read
pub caused_behind : {P : ℕ → Type 0} {old between new : StoreState} {status : Status} → OnlyReads old between → Caused P between new status → Caused P old new status
caused_behind {P} {old} {between} {new} {status} keeps cause = record {
  refused = cause.refused;
  formed = cause.formed;
  read = λ word fault. rose_behind old.faults between.faults new.faults keeps.faults (cause.read word fault);
  write = λ fault. subst (λ (count : ℕ). Rose count new.write_faults) keeps.write_faults (cause.write fault);
  missing = λ word fault. rose_behind old.misses between.misses new.misses keeps.misses (cause.missing word fault);
  word = cause.word;
  binding = cause.binding;
}

-- what is answered where a file can't be written is brought about by no word and no file
pub unwritten_is_fault : (fault : StoreFault) → IsFault (write_status fault)
unwritten_is_fault store.Memory = tt
unwritten_is_fault store.Failed = tt
unwritten_is_fault store.Missing = tt

-- and owes to the call that writes
pub caused_by_write : {T : Type 0} (IsNamed : ℕ → Type 0) (old new : StoreState) (fault : StoreFault) → OnlyWrites {T = T} old new (Err fault)
    → Caused IsNamed old new (write_status fault)
caused_by_write IsNamed old new store.Memory keeps = memory_caused IsNamed old new
caused_by_write IsNamed old new store.Missing keeps = absurd (keeps.not_missing refl)
caused_by_write IsNamed old new store.Failed keeps = record {
  refused = λ done. cc;
  formed = λ usage. cc;
  read = λ word fault. absurd (cc);
  write = λ _. keeps.failed refl;
  missing = λ word fault. absurd (cc);
  word = λ word at. absurd (cc);
  binding = λ word at whole. absurd (cc);
}

-- where nothing happens, files are only read
pub reads_nothing : (state : StoreState) → OnlyReads state state
reads_nothing state = record { files = refl; pending = refl; written = refl; write_faults = refl; faults = le_refl state.faults; misses = le_refl state.misses }
