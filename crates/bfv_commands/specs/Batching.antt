-- What running the commands of a batch says, up to its text.
use Rattle.std.specs.Prelude.{◌≡◌, ◌≢◌, ℕ, List, length, slice_get, Some, None}
use Rattle.command_words.specs.Form.{form_of}
use Rattle.command_words.specs.declared.form.Form.TheVariants.{Batch}
use Rattle.command_words.specs.declared.status.Status.{Status}
use Rattle.command_words.specs.declared.status.Status.TheVariants.{Done}
use Rattle.command_model.specs.Batches.{World, Answered, Chain}

-- commands were run in order: all are done, or one wasn't, and its answer is this one
pub data InOrder (listed : List (List (List ℕ))) (old new : World) : Status → Type 0 where
  all_done : Chain listed old (length listed) new → InOrder listed old new Done
  stopped : {answer : Status} (count : ℕ) (words : List (List ℕ)) (reached : World) → slice_get listed count ≡ Some words → Chain listed old count reached → answer ≢ Done
      → Answered words reached new answer → InOrder listed old new answer

-- what holds in between: so many commands are done, and nothing is pending
pub record SoFar (listed : List (List (List ℕ))) (old : World) (count : ℕ) (now : World) : Type 0 where
  pub chain : Chain listed old count now
  pub idle : now.store.pending ≡ None

-- none of the commands is a batch
abbrev pub AreSingle : List (List (List ℕ)) → Type 0
AreSingle listed = (count : ℕ) (words : List (List ℕ)) → slice_get listed count ≡ Some words → form_of words ≢ Some Batch
