-- What every answer of the top call keeps: the clauses of its contract.
use Rattle.std.specs.Prelude.{◌≡◌, ◌≢◌, ◌⊎◌, ℕ, ◌≤◌, true, List, length, Option, Some, None, Result, Ok, Err, IsOk, take}
use Rattle.std.specs.Option.{ForSome}
use Rattle.std.specs.FinMap as map
use Rattle.outer_io.specs.Store.{Files, StoreState, Rose}
use Rattle.outer_io.specs.Sink.{SinkState, grown}
use Rattle.bound_num.specs.declared.Bound.{Bound}
use Rattle.command_words.specs.Form.{form_of, IsOperand}
use Rattle.command_words.specs.Line.{line, accepted_text}
use Rattle.command_words.specs.Status.{parts_of}
use Rattle.command_words.specs.declared.form.Form.{Form}
use Rattle.command_words.specs.declared.status.Status.{Status}
use Rattle.command_words.specs.declared.status.Status.TheVariants.{Done, Usage, Memory, ReadFault, WriteFault, MissingFile}
use Rattle.command_model.specs.Reading.{Output, accepted, IsReached, MayRefuse}
use Rattle.command_model.specs.Plan.{reading, plan, IsWritten, out_name}

-- an answer that no word and no file brings about: memory was wanting, or a call of the store or the sink failed
abbrev pub IsFault : Status → Type 0
IsFault Memory = Unit {0}
IsFault (ReadFault word) = Unit {0}
IsFault WriteFault = Unit {0}
IsFault _ = ⊥

-- the files after a command that gave this output: where it has a file OUT that has bytes of the output, and all other files are as before
abbrev pub AreLeft : Output → Option (List ℕ) → Files → Option Files → Type 0
AreLeft output None before after = after ≡ Some before
AreLeft output (Some name) before after = (bytes : List ℕ) × (IsWritten output bytes × (after ≡ Some (map.insert before name bytes)))

-- the command did what it was to do
pub record IsDone (words : List (List ℕ)) (before : Files) (after : Option Files) : Type 0 where
  pub output : Output
  pub planned : plan words before ≡ Ok output
  pub files : AreLeft output (out_name (form_of words) words) before after

-- What an answer says of the files, where the store tells them.
pub record Told (words : List (List ℕ)) (before : Files) (after : Option Files) (answer : Status) : Type 0 where
  -- at Done only the file OUT may differ, and it is as determined
  pub done : answer ≡ Done → IsDone words before after
  -- at any other answer no file has changed
  pub unchanged : answer ≢ Done → after ≡ Some before
  -- a refusal is the first one in the order of the tests
  pub refused : answer ≢ Done → IsFault answer ⊎ (plan words before ≡ Err answer)
  -- a file is written only where nothing is refused, and read only where nothing was refused before
  pub write_fault : answer ≡ WriteFault → IsOk (plan words before)
  pub read_fault : (word : ℕ) → answer ≡ ReadFault word → IsReached before (reading words) word

-- no count of failed calls rose
pub record NoFaultRose (old new : StoreState) (old_sink new_sink : SinkState) : Type 0 where
  pub reading : Rose old.faults new.faults → ⊥
  pub writing : Rose old.write_faults new.write_faults → ⊥
  pub printing : Rose old_sink.faults new_sink.faults → ⊥

-- the answer is Done where nothing is refused, and else the refusal; or memory was wanting
abbrev pub IsComplete : Result Output Status → Status → Type 0
IsComplete (Ok output) answer = (answer ≡ Done) ⊎ (answer ≡ Memory)
IsComplete (Err refusal) answer = (answer ≡ refusal) ⊎ (answer ≡ Memory)

-- the word of this number, of so many, names a file operand; none does where the words have no form
abbrev pub IsOperandOf : Option Form → ℕ → ℕ → Type 0
IsOperandOf None count word = ⊥
IsOperandOf (Some form) count word = IsOperand form count word

-- a fault of writing is one of the store where there is a file OUT, and else one of the sink
abbrev pub WriteRose : Option (List ℕ) → StoreState → StoreState → SinkState → SinkState → Type 0
WriteRose (Some name) old new old_sink new_sink = Rose old.write_faults new.write_faults
WriteRose None old new old_sink new_sink = Rose old_sink.faults new_sink.faults

-- What an answer owes to, whether the store tells its files or not.
pub record Cause (words : List (List ℕ)) (old new : StoreState) (old_sink new_sink : SinkState) (answer : Status) : Type 0 where
  -- a refusal is one that these words may come to, by whatever the files say
  pub refusal : answer ≢ Done → IsFault answer ⊎ MayRefuse (reading words) answer
  -- Usage comes exactly where the words have no form
  pub usage : answer ≡ Usage → form_of words ≡ None
  pub no_form : form_of words ≡ None → (answer ≡ Usage) ⊎ (answer ≡ Memory)
  -- a fault and a missing file come only where the count of such calls rose
  pub read : (word : ℕ) → answer ≡ ReadFault word → Rose old.faults new.faults
  pub write : answer ≡ WriteFault → WriteRose (out_name (form_of words) words) old new old_sink new_sink
  pub missing : (word : ℕ) → answer ≡ MissingFile word → Rose old.misses new.misses
  -- a word that the answer keeps names a file operand, and one that is told whole is a binding
  pub word : (word : ℕ) → (parts_of answer).word ≡ Some word → IsOperandOf (form_of words) (length words) word
  pub binding : (word : ℕ) → (parts_of answer).word ≡ Some word → (parts_of answer).whole ≡ true → 3 ≤ word

-- the line of an output, which a command without a file OUT prints: that of an accepted script. Where the store tells its files, it is
-- the planned one.
pub record IsOutputLine (words : List (List ℕ)) (before : Option Files) (text : List ℕ) : Type 0 where
  pub no_file : out_name (form_of words) words ≡ None
  pub bound : Bound
  pub planned : ForSome before (λ files. plan words files ≡ Ok (accepted bound))
  pub is : text ≡ accepted_text bound

-- what a command prints that is done: nothing where there is a file OUT, and else the line of its output
abbrev pub IsPrinted : Option (List ℕ) → List (List ℕ) → Option Files → SinkState → SinkState → Type 0
IsPrinted (Some name) words before old new = new.text ≡ old.text
IsPrinted None words before old new = (text : List ℕ) × (IsOutputLine words before text × (new.text ≡ grown old text))

-- a line that is put before an answer other than Done: that of the answer, or of any status where memory was wanting for it. Or it is
-- the line of the output, the put of which failed.
abbrev pub IsLineFor : List (List ℕ) → Option Files → Status → List ℕ → Type 0
IsLineFor words before answer text =
    ((status : Status) × ((status ≢ Done) × ((answer ≡ status) ⊎ (answer ≡ Memory)) × (text ≡ line words status)))
    ⊎ (IsOutputLine words before text × ((answer ≡ WriteFault) ⊎ (answer ≡ Memory)))

-- part of a line was put
pub record PrintsPart (words : List (List ℕ)) (before : Option Files) (old new : SinkState) (answer : Status) : Type 0 where
  pub text : List ℕ
  pub is_line : IsLineFor words before answer text
  pub count : ℕ
  pub put : new.text ≡ grown old (take count text)

-- What is printed: at Done the line of the output, if anything, and else the line of the answer; where a put failed, the front of one line.
pub record Printed (words : List (List ℕ)) (before : Option Files) (old new : SinkState) (answer : Status) : Type 0 where
  pub done : answer ≡ Done → IsPrinted (out_name (form_of words) words) words before old new
  pub whole : answer ≢ Done → answer ≢ Memory → (new.text ≡ grown old (line words answer)) ⊎ Rose old.faults new.faults
  pub part : answer ≢ Done → PrintsPart words before old new answer
