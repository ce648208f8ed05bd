-- The words of switching keys, as their files list them.
use Rattle.std.specs.Prelude.{ℕ, ◌+◌, ◌*◌, ◌/◌, ◌%◌, List, length}
use Rattle.set_table.specs.declared.SetName.{SetName}
use Rattle.set_table.specs.Sets.{degree_of, data_of}
use Rattle.bfv_model.specs.Holds.{listed_words}

-- the words of the first digits of a switching key, digit after digit and in each part after part; they are given by digit,
-- part, row and place
abbrev pub digit_words : SetName → ℕ → (ℕ → ℕ → ℕ → ℕ → ℕ) → List ℕ
digit_words set digits word = listed_words (degree_of set) (length (data_of set) + 1) (digits * 2) (λ part. word (part / 2) (part % 2))

-- the words of a whole switching key
abbrev pub key_words : SetName → (ℕ → ℕ → ℕ → ℕ → ℕ) → List ℕ
key_words set word = digit_words set (length (data_of set)) word
