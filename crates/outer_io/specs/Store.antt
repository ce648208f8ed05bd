-- What a store of files looks like from outside, and what each call does to it.
use Rattle.std.specs.Prelude.{◌≡◌, ◌⊎◌, ℕ, ◌+◌, ◌<◌, ◌≤◌, List, [], ◌++◌, length, take, Option, Some, None, Result, IfOk, OnErr, IsErrOf, unwrap_or, slice_index}
use Rattle.std.specs.Option.{option_map}
use Rattle.std.specs.Ordering.{nat_cmp}
use Rattle.std.specs.Cmp.Lexicographic.{slice_cmp}
use Rattle.std.specs.FinMap as map
use Rattle.outer_io.specs.declared.faults.StoreFault.{StoreFault}
use Rattle.outer_io.specs.declared.faults.StoreFault.TheVariants.{Missing, Failed}

-- Files by their names. A name and a file's contents are lists of bytes.
abbrev pub Files : Type 0
Files = map.FinMap (slice_cmp nat_cmp) (List ℕ)

-- the file of a name, if there is one
abbrev pub file : Files → List ℕ → Option (List ℕ)
file files name = map.get files name

-- the bytes of a file, and no byte where there is no such file
abbrev pub contents : Files → List ℕ → List ℕ
contents files name = unwrap_or (map.get files name) []

-- the files with this one set and all others as before, where they are told
abbrev pub with_file : Option Files → List ℕ → List ℕ → Option Files
with_file told name bytes = option_map (λ files. map.insert files name bytes) told

-- a list of bytes
abbrev pub IsBytes : List ℕ → Type 0
IsBytes bytes = (i : ℕ) → slice_index bytes i < 256

-- What is known of a store.
pub record StoreState : Type 0 where
  -- its files, where it tells them
  pub files : Option Files
  -- the name of the pending file, told or not
  pub pending : Option (List ℕ)
  -- the bytes of the pending file, meant only where the store tells its files
  pub written : List ℕ
  -- how many calls of `size` and `read_at` failed
  pub faults : ℕ
  -- how many calls of `begin`, `append` and `commit` failed
  pub write_faults : ℕ
  -- how many calls named a file that isn't there
  pub misses : ℕ

-- the last value of a count, where it stays
abbrev pub last_count : ℕ
last_count = 18446744073709551615

-- A count rose in a call: it is greater than before, or stands at its last value.
abbrev pub Rose : ℕ → ℕ → Type 0
Rose before after = (before < after) ⊎ (last_count ≤ after)

-- A call that reads changes nothing but the counts of reading, which never fall.
pub record OnlyReads (old new : StoreState) : Type 0 where
  pub files : new.files ≡ old.files
  pub pending : new.pending ≡ old.pending
  pub written : new.written ≡ old.written
  pub write_faults : new.write_faults ≡ old.write_faults
  pub faults : old.faults ≤ new.faults
  pub misses : old.misses ≤ new.misses

-- A call that reads answers a fault only where the count of this fault rose.
pub record ReadCause {T : Type 0} (old new : StoreState) (result : Result T StoreFault) : Type 0 where
  pub missing : IsErrOf result Missing → Rose old.misses new.misses
  pub failed : IsErrOf result Failed → Rose old.faults new.faults

-- What a call that reads one file answers where the files are told: at Ok the file is there, and
-- its bytes and the value are in the relation P; `Missing` says that there is no such file.
pub record ReadTold {T : Type 0} (files : Files) (name : List ℕ) (result : Result T StoreFault) (P : List ℕ → T → Type 0) : Type 0 where
  pub ok : IfOk result (λ value. (file files name ≡ Some (contents files name)) × P (contents files name) value)
  pub missing : IsErrOf result Missing → file files name ≡ None

-- A call that writes leaves the faults of reading, lets no count fall, fails only where its count
-- rose, never answers `Missing`, and leaves nothing pending after an Err. What it does to the files
-- is said by the call.
pub record OnlyWrites {T : Type 0} (old new : StoreState) (result : Result T StoreFault) : Type 0 where
  pub faults : new.faults ≡ old.faults
  pub misses : old.misses ≤ new.misses
  pub write_faults : old.write_faults ≤ new.write_faults
  pub failed : IsErrOf result Failed → Rose old.write_faults new.write_faults
  pub not_missing : IsErrOf result Missing → ⊥
  pub dropped : OnErr result (new.pending ≡ None)

-- the files after the pending one took its place among them
abbrev pub committed : StoreState → Option Files
committed old = with_file old.files (unwrap_or old.pending []) old.written

-- The first n bytes of a buffer of this room are those of the file from a place on, so that pieces
-- add up to the file; there is none only where the file ends or the buffer is empty.
pub record Piece (bytes : List ℕ) (at n room : ℕ) (buffer : List ℕ) : Type 0 where
  pub joined : take (at + n) bytes ≡ take at bytes ++ take n buffer
  pub ends : n ≡ 0 → 0 < room → length bytes ≤ at
  pub fits : n ≤ room
  pub inside : at ≤ length bytes → at + n ≤ length bytes
