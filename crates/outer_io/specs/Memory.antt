-- A store and a sink in memory as values, and exactly what each call makes of them.
use Rattle.std.specs.Prelude.{◌≡◌, ℕ, ◌+◌, List, [], ◌++◌, Option, Some, None, refl, min, Result, OnOk, IsErrOf, unwrap_or}
use Rattle.std.specs.Coded.{Coded, code_by, coded×, coded_ℕ, coded_list, coded_option}
use Rattle.std.specs.Option.{option_map}
use Rattle.std.specs.FinMap as map
use Rattle.outer_io.specs.declared.faults.StoreFault.{StoreFault}
use Rattle.outer_io.specs.declared.faults.StoreFault.TheVariants as store
use Rattle.outer_io.specs.declared.faults.SinkFault.{SinkFault}
use Rattle.outer_io.specs.declared.faults.SinkFault.TheVariants as sink
use Rattle.outer_io.specs.Store.{Files, StoreState, last_count}
use Rattle.outer_io.specs.Sink.{SinkState}

-- A store in memory.
pub record MemStoreState : Type 0 where
  -- all its files
  pub files : Files
  -- the pending file: its name and its bytes
  pub pending : Option (List ℕ × List ℕ)
  pub faults : ℕ
  pub write_faults : ℕ
  pub misses : ℕ
  -- how many calls of the trait there were
  pub calls : ℕ
  -- the numbers of the calls that fail, counted from 0
  pub noted : List ℕ

-- how a model's value is kept: it is the tuple of its fields
abbrev pub mem_store_code : Coded MemStoreState
mem_store_code =
    code_by
    (Files × (Option (List ℕ × List ℕ) × (ℕ × (ℕ × (ℕ × (ℕ × List ℕ))))))
    (coded× (map.code (coded_list coded_ℕ) (coded_list coded_ℕ)) (coded× (coded_option (coded× (coded_list coded_ℕ) (coded_list coded_ℕ))) (coded× coded_ℕ (coded× coded_ℕ (coded× coded_ℕ (coded× coded_ℕ (coded_list coded_ℕ)))))))
    (λ s. (s.files, (s.pending, (s.faults, (s.write_faults, (s.misses, (s.calls, s.noted)))))))
    (λ p. record { files = p.0; pending = p.1.0; faults = p.1.1.0; write_faults = p.1.1.1.0; misses = p.1.1.1.1.0; calls = p.1.1.1.1.1.0; noted = p.1.1.1.1.1.1 })
    (λ _. refl)

abbrev pub pending_name : Option (List ℕ × List ℕ) → Option (List ℕ)
pending_name None = None
pending_name (Some p) = Some p.0

abbrev pub pending_bytes : Option (List ℕ × List ℕ) → List ℕ
pending_bytes None = []
pending_bytes (Some p) = p.1

-- a store in memory tells all
abbrev pub store_state : MemStoreState → StoreState
store_state s = record {
  files = Some s.files;
  pending = pending_name s.pending;
  written = pending_bytes s.pending;
  faults = s.faults;
  write_faults = s.write_faults;
  misses = s.misses;
}

-- one more, up to the last value
abbrev pub risen : ℕ → ℕ
risen n = min (n + 1) last_count

-- a new store: no file, nothing pending, no faults
abbrev pub empty_store : MemStoreState
empty_store = record { files = map.empty; pending = None; faults = 0; write_faults = 0; misses = 0; calls = 0; noted = [] }

-- the pending file with a piece at its end
abbrev pub longer : Option (List ℕ × List ℕ) → List ℕ → Option (List ℕ × List ℕ)
longer pending piece = option_map (λ p. (p.0, p.1 ++ piece)) pending

-- the store after its pending file took its place
abbrev pub settled : MemStoreState → MemStoreState
settled old = record old { files = map.insert old.files (unwrap_or (pending_name old.pending) []) (pending_bytes old.pending); pending = None }

-- The store after a call that reads: counts differ and nothing else, and want of memory is no
-- answer.
pub record AfterRead {T : Type 0} (old new : MemStoreState) (result : Result T StoreFault) : Type 0 where
  pub ok : OnOk result (new ≡ record old { calls = risen old.calls })
  pub missing : IsErrOf result store.Missing → new ≡ record old { calls = risen old.calls; misses = risen old.misses }
  pub failed : IsErrOf result store.Failed → new ≡ record old { calls = risen old.calls; faults = risen old.faults }
  pub memory : IsErrOf result store.Memory → ⊥

-- The store after a call that writes: at Ok as the call says but for the number of calls, after an
-- Err without the pending file.
pub record AfterWrite {T : Type 0} (old done new : MemStoreState) (result : Result T StoreFault) : Type 0 where
  pub ok : OnOk result (new ≡ record done { calls = risen old.calls })
  pub failed : IsErrOf result store.Failed → new ≡ record old { pending = None; calls = risen old.calls; write_faults = risen old.write_faults }
  pub memory : IsErrOf result store.Memory → new ≡ record old { pending = None; calls = risen old.calls }

-- A sink in memory.
pub record MemSinkState : Type 0 where
  -- all that was put
  pub text : List ℕ
  pub faults : ℕ
  -- how many calls of `put` there were
  pub calls : ℕ
  -- the numbers of the calls that fail, counted from 0
  pub noted : List ℕ

-- a sink in memory tells its text
abbrev pub sink_state : MemSinkState → SinkState
sink_state s = record { text = Some s.text; faults = s.faults }

-- The sink after a call of `put`: a call that doesn't answer Ok puts nothing.
pub record AfterPut {T : Type 0} (old new : MemSinkState) (piece : List ℕ) (result : Result T SinkFault) : Type 0 where
  pub ok : OnOk result (new ≡ record old { text = old.text ++ piece; calls = risen old.calls })
  pub failed : IsErrOf result sink.Failed → new ≡ record old { calls = risen old.calls; faults = risen old.faults }
  pub memory : IsErrOf result sink.Memory → new ≡ record old { calls = risen old.calls }
