-- The files that a store in memory holds.
use Rattle.std.specs.Prelude.{◌≡◌, ◌≢◌, ℕ, ◌<◌, List, map, length, Option, Some, None, Vec, slice_get}
use Rattle.std.specs.Vec.{vec_capacity}
use Rattle.std.specs.String.{string_bytes}
use Rattle.std.specs.FinMap.{from_entries}
use Rattle.std.specs.declared.alloc.Global.{Global}
use Rattle.outer_io.specs.Store.{Files}
use Rattle.outer_io.specs.declared.mem_store.held.HeldFile.{HeldFile}

-- a held file: its name and its bytes
abbrev pub entry_of : HeldFile → List ℕ × List ℕ
entry_of f = (string_bytes f.name, f.bytes.items)

-- the files that a list holds: of two with one name the first counts
abbrev pub files_of : List HeldFile → Files
files_of files = from_entries (map entry_of files)

abbrev pub pending_of : Option HeldFile → Option (List ℕ × List ℕ)
pending_of None = None
pending_of (Some f) = Some (entry_of f)

-- where a file is pending there is room for it among the others, so that a commit needs no memory
abbrev pub HasRoom : Option HeldFile → Vec HeldFile Global → Type 0
HasRoom None files = Unit {0}
HasRoom (Some f) files = length files.items < vec_capacity files

-- the first file of a name stands at this place
pub record IsFirst (files : List HeldFile) (name : List ℕ) (i : ℕ) : Type 0 where
  pub below : i < length files
  pub named : (f : HeldFile) → slice_get files i ≡ Some f → string_bytes f.name ≡ name
  pub first : (j : ℕ) (f : HeldFile) → j < i → slice_get files j ≡ Some f → string_bytes f.name ≢ name
