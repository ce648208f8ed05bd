-- What a command reads, in order, and what it comes to.
use Rattle.std.specs.Prelude.{◌≡◌, ◌⊎◌, ℕ, nat_lt, if◌then◌else◌, List, length, take, Option, Some, None, Result, Ok, Err}
use Rattle.outer_io.specs.Store.{Files, file}
use Rattle.outer_io.specs.declared.faults.Damage.TheVariants.{Changed}
use Rattle.set_table.specs.declared.SetName.{SetName}
use Rattle.set_table.specs.Sets.{degree_of, plain_of}
use Rattle.bound_num.specs.declared.Bound.{Bound}
use Rattle.file_model.specs.FileText.{FileContent}
use Rattle.file_model.specs.Scan.{scanned}
use Rattle.file_model.specs.ScanFaults.{IsScanFault}
use Rattle.file_model.specs.declared.head.Wanted.{Wanted}
use Rattle.file_model.specs.declared.faults.FileFault.{FileFault}
use Rattle.file_model.specs.declared.faults.FileFault.TheVariants as faults
use Rattle.script_text.specs.Reading.{values_of}
use Rattle.script_text.specs.Scripts.{Script}
use Rattle.script_text.specs.Grammar.{script_of}
use Rattle.batch_text.specs.Commands.{commands_of}
use Rattle.command_words.specs.Line.{word_at}
use Rattle.command_words.specs.declared.status.Status.{Status}
use Rattle.command_words.specs.declared.status.Status.TheVariants.{Memory, ReadFault, MissingFile, NotOurs, Version, Damaged, WrongKind, BadValues, BadScript, ShortSeed}
use Rattle.command_model.specs.Bindings.{Run}

-- ---- what a file says

-- the sort of a file that a command reads
pub data Sort : Type 0 where
  -- a file of the scheme, of a wanted kind
  own_file : (wanted : Wanted) → Sort
  -- bytes for a seed
  seed_file : Sort
  -- a text of as many values as a set has slots
  values_file : (set : SetName) → Sort
  -- the text of a script
  script_file : Sort
  -- the text of a batch
  batch_file : Sort

-- what a file of a sort says
abbrev pub Said : Sort → Type 0
Said (own_file wanted) = FileContent
Said seed_file = List ℕ
Said (values_file set) = List ℕ
Said script_file = Script
Said batch_file = List (List (List ℕ))

-- what is said of a file that is refused with a fault, the file being named by a word
abbrev pub status_of : ℕ → FileFault → Status
status_of word faults.Missing = MissingFile word
status_of word faults.Failed = ReadFault word
status_of word faults.Memory = Memory
status_of word faults.NotOurs = NotOurs word
status_of word (faults.Version have) = Version word have
status_of word (faults.Kind have) = WrongKind word have
status_of word (faults.Damaged damage) = Damaged word damage

-- a fault is told by a status
abbrev pub or_refused : {A E : Type 0} → (E → Status) → Result A E → Result A Status
or_refused told (Ok value) = Ok value
or_refused told (Err error) = Err (told error)

-- what bytes say as a file of a sort, or the refusal of them, the file being named by a word. A seed is the first 32 bytes.
abbrev pub said_by : (sort : Sort) → ℕ → List ℕ → Result (Said sort) Status
said_by (own_file wanted) word bytes = or_refused (status_of word) (scanned wanted bytes)
said_by seed_file word bytes = if nat_lt (length bytes) 32 then Err (ShortSeed word (length bytes)) else Ok (take 32 bytes)
said_by (values_file set) word bytes = or_refused (BadValues word) (values_of bytes (degree_of set) (plain_of set))
said_by script_file word bytes = or_refused BadScript (script_of bytes)
said_by batch_file word bytes = or_refused BadScript (commands_of bytes)

-- what a file says, or that it's missing
abbrev pub taken : (sort : Sort) → ℕ → Option (List ℕ) → Result (Said sort) Status
taken sort word None = Err (MissingFile word)
taken sort word (Some bytes) = said_by sort word bytes

-- ---- readings

-- what a command gives: the bytes of the file OUT, or where it has none its line
pub data Output : Type 0 where
  -- the file with this content
  file_with : (content : FileContent) → Output
  -- a fresh cipher of these values under a public key, drawn from the stream of a seed
  sealing : (public : FileContent) (listed seed : List ℕ) → Output
  -- the cipher that the run of a script gives
  running : (run : Run) → Output
  -- the values of a cipher under a secret
  values : (secret cipher : FileContent) → Output
  -- the noise bound of what an accepted script puts out
  accepted : (bound : Bound) → Output
  -- the report on an accepted script, whose registers have these bounds
  reporting : (script : Script) (bounds : List Bound) → Output
  -- the commands of a batch, each with its words, which are then run
  commands : (listed : List (List (List ℕ))) → Output

-- what a command reads, in order, and what it comes to
pub data Reading : Type 0 where
  -- the file of a name is read, which a word gives, and the rest goes by what the file says
  read : (name : List ℕ) (word : ℕ) (sort : Sort) (next : Said sort → Reading) → Reading
  -- the words or the files are refused
  refused : (refusal : Status) → Reading
  -- nothing is refused
  done : (output : Output) → Reading

-- the file that a word names is read
abbrev pub read_word : List (List ℕ) → ℕ → (sort : Sort) → (Said sort → Reading) → Reading
read_word words word sort next = read (word_at words word) word sort next

-- the rest is read where there is no refusal
abbrev pub unless : Option Status → Reading → Reading
unless None rest = rest
unless (Some refusal) rest = refused refusal

-- ---- what a reading comes to

-- a file is read after the one before it was taken
abbrev pub and_then : {A B E : Type 0} → Result A E → (A → Result B E) → Result B E
and_then (Ok value) next = next value
and_then (Err error) next = Err error

-- with these files: the first refusal, or the output
abbrev pub outcome : Files → Reading → Result Output Status
outcome files (read name word sort next) = and_then (taken sort word (file files name)) (λ said. outcome files (next said))
outcome files (refused refusal) = Err refusal
outcome files (done output) = Ok output

-- what is so of a value that there is
abbrev pub so_if_ok : {A E : Type 0} → Result A E → (A → Type 0) → Type 0
so_if_ok (Ok value) next = next value
so_if_ok (Err error) next = ⊥

-- with these files, the file of this word is read
abbrev pub IsReached : Files → Reading → ℕ → Type 0
IsReached files (read name word sort next) other = (other ≡ word) ⊎ so_if_ok (taken sort word (file files name)) (λ said. IsReached files (next said) other)
IsReached files (refused refusal) other = ⊥
IsReached files (done output) other = ⊥

-- ---- what a reading may come to, whatever the files are

-- a file of a sort may be refused so: it's missing, or there are bytes that are. Of a file of the scheme it is said what the refusal keeps;
-- and such a file may have changed when it's read again.
abbrev pub MayBeRefused : Sort → ℕ → Status → Type 0
MayBeRefused (own_file wanted) word status = (fault : FileFault) × ((IsScanFault wanted fault ⊎ (fault ≡ faults.Damaged Changed)) × (status ≡ status_of word fault))
MayBeRefused sort word status = (status ≡ MissingFile word) ⊎ ((bytes : List ℕ) × (said_by sort word bytes ≡ Err status))

-- a file of a sort may say this: there are bytes that do
abbrev pub MaySay : (sort : Sort) → ℕ → Said sort → Type 0
MaySay sort word said = (bytes : List ℕ) × (said_by sort word bytes ≡ Ok said)

-- the reading may come to this refusal
abbrev pub MayRefuse : Reading → Status → Type 0
MayRefuse (read name word sort next) status = MayBeRefused sort word status ⊎ ((said : Said sort) × (MaySay sort word said × MayRefuse (next said) status))
MayRefuse (refused refusal) status = status ≡ refusal
MayRefuse (done output) status = ⊥
