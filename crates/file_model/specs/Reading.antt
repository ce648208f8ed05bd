-- What a call says that reads a file of the scheme.
use Rattle.std.specs.Prelude.{◌≡◌, ◌⊎◌, ℕ, List, Some, None, Result, IfOk, IfErr, IsErrOf}
use Rattle.outer_io.specs.Store.{Files, StoreState, Rose, file, contents}
use Rattle.outer_io.specs.declared.faults.StoreFault.{StoreFault}
use Rattle.outer_io.specs.declared.faults.StoreFault.TheVariants as store
use Rattle.outer_io.specs.declared.faults.Damage.TheVariants.{Changed}
use Rattle.file_model.specs.declared.faults.FileFault.{FileFault}
use Rattle.file_model.specs.declared.faults.FileFault.TheVariants.{Missing, Failed, Memory, Damaged}

-- the fault of the store as one of the file
abbrev pub of_store : StoreFault → FileFault
of_store store.Missing = Missing
of_store store.Failed = Failed
of_store store.Memory = Memory

-- a fault that no byte of the file brings about
abbrev pub IsStoreFault : FileFault → Type 0
IsStoreFault Missing = Unit {0}
IsStoreFault Failed = Unit {0}
IsStoreFault Memory = Unit {0}
IsStoreFault _ = ⊥

-- a fault that a second reading may answer
abbrev pub IsSecondFault : FileFault → Type 0
IsSecondFault (Damaged Changed) = Unit {0}
IsSecondFault fault = IsStoreFault fault

-- a fault of the store comes only where the count of such calls rose
pub record FileCause {T : Type 0} (old new : StoreState) (result : Result T FileFault) : Type 0 where
  pub missing : IsErrOf result Missing → Rose old.misses new.misses
  pub failed : IsErrOf result Failed → Rose old.faults new.faults

-- What a call answers where the files are told: at Ok the file is there, and its bytes and the value are in the relation P; at a
-- fault other than one of the store it is there, and its bytes and the fault are in the relation E.
pub record FileTold {T : Type 0} (files : Files) (name : List ℕ) (result : Result T FileFault) (P : List ℕ → T → Type 0) (E : List ℕ → FileFault → Type 0) : Type 0 where
  pub ok : IfOk result (λ value. (file files name ≡ Some (contents files name)) × P (contents files name) value)
  pub missing : IsErrOf result Missing → file files name ≡ None
  pub fault : IfErr result (λ fault. IsStoreFault fault ⊎ ((file files name ≡ Some (contents files name)) × E (contents files name) fault))
