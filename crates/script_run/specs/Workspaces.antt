-- What contracts see of a workspace, and when it is made for a script.
use Rattle.std.specs.Prelude.{◌≡◌, ◌≢◌, ℕ, ◌<◌, ◌≤◌, List, length, slice_index, Bool, true}
use Rattle.set_table.specs.declared.SetName.{SetName}
use Rattle.set_table.specs.Sets.{degree_of, data_of}
use Rattle.script_text.specs.Scripts.{Script, plain_inputs}
use Rattle.bfv_params.specs.Contexts.{scratch_rows_in}
use Rattle.bfv_params.specs.Values.{CipherValue, ContextValue}
use Rattle.bfv_params.specs.Ciphers.{IsCipherOf}
use Rattle.script_run.specs.Registers.{IsPlan}
use Rattle.script_run.specs.Places.{cipher_at}

-- A workspace: its parameter set, the number of its cipher inputs, the place of each register, the ciphers at the places, the values
-- of its plain inputs, whether the output of the last run is there, and the place of that output.
pub record WorkspaceValue : Type 0 where
  pub set : SetName
  pub inputs : ℕ
  pub plan : List ℕ
  pub places : List CipherValue
  pub plains : List (List ℕ)
  pub done : Bool
  pub place : ℕ

-- the cipher in the place of an input
abbrev pub input_of : WorkspaceValue → ℕ → CipherValue
input_of space input = cipher_at space.places (slice_index space.plan input)

-- the output of the last run
abbrev pub output_of : WorkspaceValue → CipherValue
output_of space = cipher_at space.places space.place

-- the workspace is made for the script
pub record MadeFor (script : Script) (space : WorkspaceValue) : Type 0 where
  pub same_set : space.set ≡ script.set
  pub plan : IsPlan script space.plan (length space.places)
  pub plains : length (plain_inputs script.inputs) ≤ length space.plains

-- the shape of a workspace stays: its set, the number of its cipher inputs, its plan, and how many places and plain inputs there are
pub record SameShape (old new : WorkspaceValue) : Type 0 where
  pub set : new.set ≡ old.set
  pub inputs : new.inputs ≡ old.inputs
  pub plan : new.plan ≡ old.plan
  pub count : length new.places ≡ length old.places
  pub plain_count : length new.plains ≡ length old.plains

-- the context of all data moduli of a set
abbrev pub whole_context : SetName → ContextValue
whole_context set = record { set = set; level = length (data_of set) }

-- What a workspace keeps: each register has a place, there is an output where it says so, a cipher in the place of no input is of its
-- set, and there are rows to work in.
pub record IsWorkspace (n : ℕ) (space : WorkspaceValue) (scratch : ℕ) : Type 0 where
  pub degree : n ≡ degree_of space.set
  pub planned : space.inputs ≤ length space.plan
  pub within : (r : ℕ) → r < length space.plan → slice_index space.plan r < length space.places
  pub there : space.done ≡ true → space.place < length space.places
  pub others : (p : ℕ) → p < length space.places → ((r : ℕ) → r < space.inputs → slice_index space.plan r ≢ p)
      → IsCipherOf (whole_context space.set) (cipher_at space.places p)
  pub scratch_rows : scratch ≡ scratch_rows_in (whole_context space.set)
