-- The code's drafts, seen as those of the grammar.
use Rattle.std.specs.Prelude.{◌≡◌, ℕ, ◌+◌, ◌<◌, length, Result, Ok, Err}
use Rattle.script_text.specs.declared.draft.Draft as declared
use Rattle.script_text.specs.declared.faults.ScriptPlace.{ScriptPlace}
use Rattle.script_text.specs.declared.faults.ScriptFault.{ScriptFault}
use Rattle.script_text.specs.declared.faults.ScriptFault.TheVariants as fault
use Rattle.script_text.specs.Scripts.{shapes_of}
use Rattle.script_text.specs.Grammar.{Draft}

abbrev pub draft_seen : declared.Draft → Draft
draft_seen draft = record { set = draft.set; inputs = draft.inputs.items; steps = draft.steps.items; output = draft.output }

-- before line `at`: the shapes are those of the registers, and no line gave more than one input or step
pub record IsKept (draft : declared.Draft) (at : ℕ) : Type 0 where
  pub shapes : draft.shapes.items ≡ shapes_of draft.inputs.items draft.steps.items
  pub few : length draft.inputs.items + length draft.steps.items < at

-- the fault is the one that reading gives, or there was no memory
abbrev pub Fails : {A : Type 0} → ScriptFault → Result A ScriptPlace → Type 0
Fails (fault.Bad place) read = read ≡ Err place
Fails fault.Memory read = Unit {0}

-- what was answered, seen by a function, is what reading gives, unless there was no memory
abbrev pub Gives : {A B : Type 0} → (A → B) → Result A ScriptFault → Result B ScriptPlace → Type 0
Gives seen (Ok x) read = read ≡ Ok (seen x)
Gives seen (Err e) read = Fails e read
