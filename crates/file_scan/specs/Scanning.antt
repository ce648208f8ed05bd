-- What the steps of a scan say.
use Rattle.std.specs.Prelude.{◌≡◌, ℕ, ◌<◌, ◌≤◌, List, length, Result, IsErrOf}
use Rattle.outer_io.specs.declared.faults.Damage.TheVariants.{Length, Changed}
use Rattle.file_model.specs.declared.faults.FileFault.{FileFault}
use Rattle.file_model.specs.declared.faults.FileFault.TheVariants.{Missing, Failed, Memory, Damaged}
use Rattle.file_model.specs.declared.head.Head.{Head}
use Rattle.file_model.specs.declared.head.Wanted.{Wanted}
use Rattle.file_model.specs.Fronts.{head_at}
use Rattle.file_model.specs.Scan.{tested_body, scanned}
use Rattle.file_model.specs.Reading.{IsStoreFault}

-- a fault that the bytes of a file bring about
pub record IsTestFault {T : Type 0} (result : Result T FileFault) : Type 0 where
  pub not_missing : IsErrOf result Missing → ⊥
  pub not_failed : IsErrOf result Failed → ⊥
  pub not_memory : IsErrOf result Memory → ⊥
  pub not_changed : IsErrOf result (Damaged Changed) → ⊥

-- a fault of reading from one place of a file to another: one of the store, or the bytes end in between
abbrev pub EndsWithin : ℕ → ℕ → ℕ → FileFault → Type 0
EndsWithin from to want (Damaged (Length have asked)) = (from ≤ have) × (have < to) × (asked ≡ want)
EndsWithin from to want fault = IsStoreFault fault

-- the bytes begin with this head, which passes the tests
pub record BeginsWith (wanted : Wanted) (bytes : List ℕ) (head : Head) : Type 0 where
  pub long : 64 ≤ length bytes
  pub stated : head ≡ head_at head.kind head.set bytes
  pub tests : scanned wanted bytes ≡ tested_body head.kind head.set bytes
