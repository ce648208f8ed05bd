-- Answers that owe to no call of the store.
use Rattle.std.specs.Prelude.{◌≡◌, None}
use Rattle.command_words.specs.Status.{parts_of}
use Rattle.command_words.specs.declared.status.Status.{Status}
use Rattle.command_words.specs.declared.status.Status.TheVariants.{Done, Usage, ReadFault, WriteFault, MissingFile}

-- an answer that no call of the store brings about
abbrev pub OwesNoCall : Status → Type 0
OwesNoCall Done = ⊥
OwesNoCall Usage = ⊥
OwesNoCall (ReadFault word) = ⊥
OwesNoCall WriteFault = ⊥
OwesNoCall (MissingFile word) = ⊥
OwesNoCall _ = Unit {0}

-- an answer that keeps no word and owes to no call of the store
pub record OwesNothing (status : Status) : Type 0 where
  pub none : OwesNoCall status
  pub nameless : (parts_of status).word ≡ None
