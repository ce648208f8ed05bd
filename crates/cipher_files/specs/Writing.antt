-- What a writer of a switching key has written.
use Rattle.std.specs.Prelude.{◌≡◌, ℕ, ◌+◌, ◌<◌, List, length, slice_index, Some, IsSome, true}
use Rattle.std.specs.Option.{ForSome}
use Rattle.sha2.specs.Hashers.{Holds256}
use Rattle.outer_io.specs.Store.{StoreState}
use Rattle.set_table.specs.Sets.{degree_of, data_of, key_of}
use Rattle.file_model.specs.Heads.{HeadKeepsRules, wants}
use Rattle.file_model.specs.KeyWords.{digit_words}
use Rattle.cipher_files.specs.Contents.{IsFront}
use Rattle.file_model.specs.declared.head.Head.{Head}
use Rattle.file_model.specs.declared.head.Wanted.TheVariants.{Key}
use Rattle.cipher_files.specs.declared.key_writer.KeyWriter.{KeyWriter}

-- the head of the file that is written
abbrev pub head_of : KeyWriter → Head
head_of writer = writer.head

-- how many digits were put
abbrev pub digits_put : KeyWriter → ℕ
digits_put writer = writer.put

-- A writer of a switching key may go on: a file is pending, and where files are told the writer has hashed its bytes.
pub record IsWriting (writer : KeyWriter) (state : StoreState) : Type 0 where
  pub rules : HeadKeepsRules writer.head
  pub is_key : wants Key writer.head.kind ≡ true
  pub pending : IsSome state.pending
  pub hashed : ForSome state.files (λ _. Holds256 writer.hasher state.written)

-- The pending file has this name, and where files are told its bytes are those of a file up to the digits that were put. Their
-- words, by digit, part, row and place, are reduced.
pub record HasWritten (writer : KeyWriter) (state : StoreState) (name : List ℕ) (word : ℕ → ℕ → ℕ → ℕ → ℕ) : Type 0 where
  pub name_is : state.pending ≡ Some name
  pub bytes : ForSome state.files (λ _. IsFront writer.head (digit_words writer.head.set writer.put word) state.written)
  pub reduced : (i j r k : ℕ) → i < writer.put → j < 2 → r < length (data_of writer.head.set) + 1 → k < degree_of writer.head.set
      → word i j r k < slice_index (key_of writer.head.set) r
