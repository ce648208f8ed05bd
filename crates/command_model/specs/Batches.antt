-- What the answer of a batch says: its commands are run one after another, up to the first that isn't done.
use Rattle.std.specs.Option.{ForSome}
use Rattle.std.specs.Prelude.{◌≡◌, ◌≢◌, ◌⊎◌, ℕ, zero, suc, ◌≤◌, List, [], ◌∷◌, length, take, slice_get, Option, Some, None, Ok, Err}
use Rattle.outer_io.specs.Store.{Files, StoreState, OnlyReads}
use Rattle.outer_io.specs.Sink.{SinkState}
use Rattle.command_words.specs.declared.status.Status.{Status}
use Rattle.command_words.specs.declared.status.Status.TheVariants.{Done, Memory, ReadFault}
use Rattle.command_model.specs.Reading.{commands}
use Rattle.command_model.specs.Plan.{plan}
use Rattle.command_model.specs.Plain.{State, Stands, step}
use Rattle.command_model.specs.Answers.{Told, NoFaultRose, IsComplete, Cause, Printed}

-- the store and the sink
pub record World : Type 0 where
  pub store : StoreState
  pub sink : SinkState

-- no count of the store falls
pub record NoCountFell (old new : StoreState) : Type 0 where
  pub reading : old.faults ≤ new.faults
  pub writing : old.write_faults ≤ new.write_faults
  pub missing : old.misses ≤ new.misses

-- The files went the way of the plain machine: they stand for the next state of each state that they stood for.
abbrev pub Follow : (State → State) → Files → Files → Type 0
Follow next before after = (state : State) → Stands before state → Stands after (next state)

-- What the answer of one command says, from one world to the next.
pub record Answered (words : List (List ℕ)) (old new : World) (answer : Status) : Type 0 where
  -- nothing is pending
  pub idle : new.store.pending ≡ None
  -- what the files say of the answer, and the answer of the files
  pub told : ForSome old.store.files (λ files. Told words files new.store.files answer)
  -- where no call failed, the answer is what the words and the files lead to
  pub complete : ForSome old.store.files (λ files. NoFaultRose old.store new.store old.sink new.sink → IsComplete (plan words files) answer)
  -- what the files stand for goes the way of the plain machine
  pub stands : answer ≡ Done → ForSome old.store.files (λ before. ForSome new.store.files (λ after. Follow (step words) before after))
  pub cause : Cause words old.store new.store old.sink new.sink answer
  pub printed : Printed words old.store.files old.sink new.sink answer
  -- no count falls
  pub counts : NoCountFell old.store new.store
  pub puts : old.sink.faults ≤ new.sink.faults

-- the first so many of the commands are done, one after another
abbrev pub Chain : List (List (List ℕ)) → World → ℕ → World → Type 0
Chain listed old zero new = old ≡ new
Chain [] old (suc count) new = ⊥
Chain (words ∷ listed) old (suc count) new = (next : World) × (Answered words old next Done × Chain listed next count new)

-- the state after commands that are done, one after another
abbrev pub steps : List (List (List ℕ)) → State → State
steps [] state = state
steps (words ∷ listed) state = steps listed (step words state)

-- The answer is that of the next command, where this one isn't done. Or memory was wanting or the file of the batch couldn't be read
-- whole, and then no command was run.
abbrev pub IsStopped : List (List ℕ) → List (List (List ℕ)) → ℕ → World → World → Status → Type 0
IsStopped words listed count reached new answer =
    ((next : List (List ℕ)) × ((slice_get listed count ≡ Some next) × Answered next reached new answer))
    ⊎ ((count ≡ 0) × (((answer ≡ Memory) ⊎ (answer ≡ ReadFault 1)) × Answered words reached new answer))

-- The commands of a batch are run in order.
pub record AreRun (words : List (List ℕ)) (listed : List (List (List ℕ))) (old new : World) (answer : Status) : Type 0 where
  -- the text of the batch is read, and nothing is printed
  pub start : World
  pub reads : OnlyReads old.store start.store
  pub silent : start.sink ≡ old.sink
  -- so many of the commands are done, up to here
  pub count : ℕ
  pub reached : World
  pub chain : Chain listed start count reached
  -- and what they wrote stays
  pub files : new.store.files ≡ reached.store.files
  -- what the files stand for went the way of the plain machine over these commands
  pub stands : ForSome old.store.files (λ before. ForSome new.store.files (λ after. Follow (steps (take count listed)) before after))
  -- at Done these are all
  pub done : answer ≡ Done → (count ≡ length listed) × (reached ≡ new)
  -- and any other answer stopped the batch
  pub stopped : answer ≢ Done → IsStopped words listed count reached new answer

-- these words gave the answer of a batch: they are its own or, where the store tells its files, those of one of its commands
abbrev pub IsGiver : List (List ℕ) → Option Files → List (List ℕ) → Type 0
IsGiver words before given =
    (given ≡ words)
    ⊎ ForSome before (λ files. (listed : List (List (List ℕ))) × (count : ℕ) × ((plan words files ≡ Ok (commands listed)) × (slice_get listed count ≡ Some given)))

-- What the answer of a batch says.
pub record BatchAnswered (words : List (List ℕ)) (old new : World) (answer : Status) : Type 0 where
  -- nothing is pending, and no count falls
  pub idle : new.store.pending ≡ None
  pub counts : NoCountFell old.store new.store
  pub puts : old.sink.faults ≤ new.sink.faults
  -- the answer owes to the words of the batch or of one of its commands
  pub cause : (given : List (List ℕ)) × (IsGiver words old.store.files given × Cause given old.store new.store old.sink new.sink answer)
  -- where the text is refused, the batch answers as any command that is refused
  pub refused : ForSome old.store.files (λ files. (refusal : Status) → plan words files ≡ Err refusal → (answer ≢ Done) × Answered words old new answer)
  -- and where it isn't, its commands are run
  pub ran : ForSome old.store.files (λ files. (listed : List (List (List ℕ))) → plan words files ≡ Ok (commands listed) → AreRun words listed old new answer)
