-- The real outside tells nothing of what it holds.
use Rattle.std.specs.Prelude.{ℕ, List, [], Option, Some, None, refl}
use Rattle.std.specs.Coded.{Coded, code_by, coded×, coded_ℕ, coded_list, coded_option}
use Rattle.std.specs.FinMap as map
use Rattle.std.specs.String.{string_bytes}
use Rattle.outer_io.specs.Store.{StoreState, Files}
use Rattle.outer_io.specs.Sink.{SinkState}
use Rattle.outer_io.specs.declared.file_store.draft.Draft.{Draft}

-- how a model's value is kept: it is the tuple of its fields
abbrev pub store_code : Coded StoreState
store_code =
    code_by
    (Option Files × (Option (List ℕ) × (List ℕ × (ℕ × (ℕ × ℕ)))))
    (coded× (coded_option (map.code (coded_list coded_ℕ) (coded_list coded_ℕ))) (coded× (coded_option (coded_list coded_ℕ)) (coded× (coded_list coded_ℕ) (coded× coded_ℕ (coded× coded_ℕ coded_ℕ)))))
    (λ s. (s.files, (s.pending, (s.written, (s.faults, (s.write_faults, s.misses))))))
    (λ p. record { files = p.0; pending = p.1.0; written = p.1.1.0; faults = p.1.1.1.0; write_faults = p.1.1.1.1.0; misses = p.1.1.1.1.1 })
    (λ _. refl)

abbrev pub draft_name : {F : Type 0} → Option (Draft F) → Option (List ℕ)
draft_name None = None
draft_name (Some d) = Some (string_bytes d.name)

-- a new store of real files: nothing pending, no faults
abbrev pub untold_store : StoreState
untold_store = record { files = None; pending = None; written = []; faults = 0; write_faults = 0; misses = 0 }

-- a new sink to standard output: no faults
abbrev pub untold_sink : SinkState
untold_sink = record { text = None; faults = 0 }
