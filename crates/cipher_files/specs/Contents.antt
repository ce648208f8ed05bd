-- The words of files that are written.
use Rattle.std.specs.Prelude.{◌≡◌, ℕ, ℤ, List, ◌++◌, length}
use Rattle.set_table.specs.declared.SetName.{SetName}
use Rattle.set_table.specs.Sets.{data_of}
use Rattle.ring_law.specs.Sums.{values_below}
use Rattle.ring_law.specs.Residues.{residue}
use Rattle.ring_law.specs.Rows.{listed_polynomial}
use Rattle.file_model.specs.Bytes.{word_bytes}
use Rattle.file_model.specs.FileText.{head_text}
use Rattle.bfv_model.specs.Holds.{listed_word, listed_words}
use Rattle.file_model.specs.Heads.{content_with}
use Rattle.file_model.specs.declared.head.Head.{Head}

-- the words of a secret: its coefficients modulo 3, so that 2 stands for -1
abbrev pub secret_words : ℕ → List ℤ → List ℕ
secret_words n small = values_below n (λ k. residue 3 (listed_polynomial small k))

-- the words of the first parts of listed rows, each part with a row for each data modulus
abbrev pub part_words : ℕ → SetName → ℕ → List (List ℕ) → List ℕ
part_words n set parts rows = listed_words n (length (data_of set)) parts (listed_word (length (data_of set)) rows)

-- the bytes are those of a file with this head, up to and with these words
abbrev pub IsFront : Head → List ℕ → List ℕ → Type 0
IsFront head words bytes = (whole : List ℕ) → length whole ≡ head.words → bytes ≡ head_text (content_with head whole) ++ word_bytes words
