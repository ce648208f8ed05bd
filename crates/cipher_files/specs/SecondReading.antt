-- The words of a file that is read again.
use Rattle.std.specs.Prelude.{◌≡◌, ◌⊎◌, ℕ, ◌+◌, ◌*◌, ◌%◌, ◌<◌, ◌≤◌, List, length, slice_index, Result, OnOk, IfErr}
use Rattle.outer_io.specs.Store.{Files}
use Rattle.file_model.specs.Bytes.{number_from}
use Rattle.file_model.specs.FileText.{row_count, row_moduli}
use Rattle.file_model.specs.Reading.{FileTold}
use Rattle.file_model.specs.declared.head.Head.{Head}
use Rattle.file_model.specs.declared.faults.FileFault.{FileFault}
use Rattle.file_model.specs.declared.faults.FileFault.TheVariants.{Failed, Memory}

-- word k of row i behind the head of a file, whose rows have n words each
abbrev pub file_word : ℕ → List ℕ → ℕ → ℕ → ℕ
file_word n bytes i k = number_from (64 + 8 * (i * n + k)) 8 bytes

-- the n words of row i are there, and each is below q
pub record HoldsRow (n : ℕ) (bytes : List ℕ) (i q : ℕ) : Type 0 where
  pub inside : 64 + 8 * (i * n + n) ≤ length bytes
  pub reduced : (k : ℕ) → k < n → file_word n bytes i k < q

-- so are `count` rows from row `start` on, under moduli that come in turn
abbrev pub HoldsRows : ℕ → List ℕ → ℕ → ℕ → List ℕ → Type 0
HoldsRows n bytes start count moduli = (i : ℕ) → i < count → HoldsRow n bytes (start + i) (slice_index moduli (i % length moduli))

-- the bytes hold all rows that the head states
abbrev pub HoldsRowsOf : ℕ → Head → List ℕ → Type 0
HoldsRowsOf n head bytes = HoldsRows n bytes 0 (row_count head.kind head.set head.parts) (row_moduli head.kind head.set)

-- What a second reading tells of the file: at Ok it is there and holds the rows, and the words that are read are its own; `Changed`
-- says that it is there and doesn't hold them, and `Missing` that it isn't there.
abbrev pub RowsTold : Files → List ℕ → Result (Unit {0}) FileFault → (List ℕ → Type 0) → (List ℕ → Type 0) → Type 0
RowsTold files name result holds words = FileTold files name result (λ bytes _. holds bytes × words bytes) (λ bytes _. holds bytes → ⊥)

-- What a second reading of a file answers: at Ok the words are read, and the file is neither missing nor changed.
pub record ReadsBack (result : Result (Unit {0}) FileFault) (words : Type 0) : Type 0 where
  pub ok : OnOk result words
  pub never : IfErr result (λ fault. (fault ≡ Failed) ⊎ (fault ≡ Memory))
