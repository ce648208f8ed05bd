-- Files of the scheme that were scanned, or refused.
use Rattle.std.proofs.Common.{◌≡◌, ◌≢◌, ◌⊎◌, inl, inr, ⊎_elim, ℕ, List, ap, ◌∙◌, refl, sym, subst}
use Rattle.std.specs.Prelude.{true, replicate, Option, Some, None, Ok, Err}
use Rattle.std.specs.Option.{ForSome}
use Rattle.std.proofs.lemmas.List.{length-replicate}
use Rattle.outer_io.specs.Store.{Files, StoreState, IsBytes, file, contents}
use Rattle.file_model.specs.FileText.{FileContent}
use Rattle.file_model.specs.Heads.{IsHeadOf, HeadKeepsRules, content_with, wants}
use Rattle.file_model.specs.Reading.{FileCause, FileTold}
use Rattle.file_model.specs.Scan.{scanned}
use Rattle.file_model.specs.ScanFaults.{IsScanFault}
use Rattle.file_model.specs.declared.head.Head.{Head}
use Rattle.file_model.specs.declared.head.Wanted.{Wanted}
use Rattle.file_model.specs.declared.faults.FileFault.{FileFault}
use Rattle.file_model.specs.declared.faults.FileFault.TheVariants as faults
use Rattle.file_model.proofs.Laws.{scanned-sound}
use Rattle.command_words.specs.declared.status.Status.TheVariants.{WriteFault, NotOurs, Version, WrongKind, Damaged}
use Rattle.command_model.specs.Reading.{own_file, or_refused, status_of, taken}
use Rattle.command_model.specs.Answers.{IsFault}
use Rattle.command_model.specs.Commanded.{Caused}
use Rattle.command_stages.specs.Stages.{Says, Taken, Untaken}
use Rattle.command_stages.proofs.Causes.{caused_by_no_call, memory_caused}
use Rattle.command_stages.proofs.HeadFiles.{head_may}

-- what a scan tells of a file
abbrev pub ScanTold : Files → Wanted → List ℕ → Head → Type 0
ScanTold files wanted name head =
    (file files name ≡ Some (contents files name))
    × ((content : FileContent) × (scanned wanted (contents files name) ≡ Ok content) × IsHeadOf head content × IsBytes (contents files name))

-- the file of a name was scanned
pub taken_head : (told : Option Files) (name : List ℕ) (word : ℕ) (wanted : Wanted) (head : Head) → HeadKeepsRules head → wants wanted head.kind ≡ true
    → ForSome told (λ files. ScanTold files wanted name head) → (content : FileContent) × (IsHeadOf head content × Taken told name word (own_file wanted) content)
taken_head None name word wanted head rules wanted_is scan = (
  content_with head (replicate head.words 0),
  (
    record { states = refl; count = sym (length-replicate head.words 0) },
    record { may = head_may wanted word head rules wanted_is; says = λ files told. absurd (cc) },
  ),
)
taken_head (Some files) name word wanted head rules wanted_is scan =
    let (there, (content, is, head_is, bytes)) = scan files refl in
    let said = ap (or_refused (status_of word)) is in (
      content,
      (
        head_is,
        record {
          may = (contents files name, said);
          says = λ other told. let same : files ≡ other = cc in
              subst (λ (f : Files). Says f name word (own_file wanted) content) same
              (record { there = there; is = said; held = (scanned-sound wanted (contents files name) content bytes is).0 });
        },
      ),
    )

-- a fault of a scan is a refusal, or no word and no file brings it about
refusal_told : {T : Type 0} {P : List ℕ → T → Type 0} (files : Files) (name : List ℕ) (word : ℕ) (wanted : Wanted) (fault : FileFault)
    → FileTold files name (Err fault) P (λ bytes fault. scanned wanted bytes ≡ Err fault)
    → IsFault (status_of word fault) ⊎ (taken (own_file wanted) word (file files name) ≡ Err (status_of word fault))
refusal_told files name word wanted faults.Missing told = inr (ap (taken (own_file wanted) word) (told.missing refl))
refusal_told files name word wanted faults.Failed told = inl tt
refusal_told files name word wanted faults.Memory told = inl tt
refusal_told files name word wanted faults.NotOurs told = ⊎_elim (λ none. absurd none) (λ is. inr (ap (taken (own_file wanted) word) is.0 ∙ ap (or_refused (status_of word)) is.1)) told.fault
refusal_told files name word wanted (faults.Version have) told = ⊎_elim (λ none. absurd none) (λ is. inr (ap (taken (own_file wanted) word) is.0 ∙ ap (or_refused (status_of word)) is.1)) told.fault
refusal_told files name word wanted (faults.Kind have) told = ⊎_elim (λ none. absurd none) (λ is. inr (ap (taken (own_file wanted) word) is.0 ∙ ap (or_refused (status_of word)) is.1)) told.fault
refusal_told files name word wanted (faults.Damaged damage) told = ⊎_elim (λ none. absurd none) (λ is. inr (ap (taken (own_file wanted) word) is.0 ∙ ap (or_refused (status_of word)) is.1)) told.fault

-- what a fault of a file owes to
pub caused_by_fault : {T : Type 0} (word : ℕ) (old new : StoreState) (fault : FileFault) → FileCause {T = T} old new (Err fault) → Caused (λ w. w ≡ word) old new (status_of word fault)
caused_by_fault word old new faults.Missing cause = record {
  refused = λ is. cc;
  formed = λ is. cc;
  read = λ w is. absurd (cc);
  write = λ is. absurd (cc);
  missing = λ w is. cause.missing refl;
  word = λ w at. cc;
  binding = λ w at whole. absurd (cc);
}
caused_by_fault word old new faults.Failed cause = record {
  refused = λ is. cc;
  formed = λ is. cc;
  read = λ w is. cause.failed refl;
  write = λ is. absurd (cc);
  missing = λ w is. absurd (cc);
  word = λ w at. cc;
  binding = λ w at whole. absurd (cc);
}
caused_by_fault word old new faults.Memory cause = memory_caused (λ w. w ≡ word) old new
caused_by_fault word old new faults.NotOurs cause = caused_by_no_call (λ w. w ≡ word) old new (NotOurs word) tt (λ w at. cc) (λ w at whole. absurd (cc))
caused_by_fault word old new (faults.Version have) cause = caused_by_no_call (λ w. w ≡ word) old new (Version word have) tt (λ w at. cc) (λ w at whole. absurd (cc))
caused_by_fault word old new (faults.Kind have) cause = caused_by_no_call (λ w. w ≡ word) old new (WrongKind word have) tt (λ w at. cc) (λ w at whole. absurd (cc))
caused_by_fault word old new (faults.Damaged damage) cause = caused_by_no_call (λ w. w ≡ word) old new (Damaged word damage) tt (λ w at. cc) (λ w at whole. absurd (cc))

-- a fault of a file is none of writing
pub reading_fault : (word : ℕ) (fault : FileFault) → status_of word fault ≢ WriteFault
reading_fault word faults.Missing = λ is. cc
reading_fault word faults.Failed = λ is. cc
reading_fault word faults.Memory = λ is. cc
reading_fault word faults.NotOurs = λ is. cc
reading_fault word (faults.Version have) = λ is. cc
reading_fault word (faults.Kind have) = λ is. cc
reading_fault word (faults.Damaged damage) = λ is. cc

-- the file of a name was refused by a scan
pub untaken_head : {T : Type 0} {P : List ℕ → T → Type 0} (name : List ℕ) (word : ℕ) (wanted : Wanted) (old new : StoreState) (fault : FileFault) → FileCause {T = T} old new (Err fault)
    → IsScanFault wanted fault → ForSome old.files (λ files. FileTold files name (Err fault) P (λ bytes fault. scanned wanted bytes ≡ Err fault))
    → Untaken name word (own_file wanted) old new (status_of word fault)
untaken_head name word wanted old new fault cause kept told = record {
  may = inr (fault, (inl kept, refl));
  told = λ files is. refusal_told files name word wanted fault (told files is);
  caused = caused_by_fault word old new fault cause;
  reads = reading_fault word fault;
}
