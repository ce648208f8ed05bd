-- Bytes and the numbers in them, the lowest byte first.
use Rattle.std.specs.Prelude.{ℕ, ◌+◌, ◌*◌, ◌<◌, List, flat_map, take, drop, slice_index}
use Rattle.ring_law.specs.Sums.{values_below}
use Rattle.byteorder.specs.Endian.{little_bytes, little_number}

-- each number is a byte
abbrev pub IsBytes : List ℕ → Type 0
IsBytes bytes = (i : ℕ) → slice_index bytes i < 256

-- the bytes of words, eight for each
unfoldable pub word_bytes : List ℕ → List ℕ
word_bytes words = flat_map (little_bytes 8) words

-- `count` bytes from the place `from` on
unfoldable pub bytes_from : ℕ → ℕ → List ℕ → List ℕ
bytes_from from count bytes = take count (drop from bytes)

-- the number in the `count` bytes from the place `from` on
unfoldable pub number_from : ℕ → ℕ → List ℕ → ℕ
number_from from count bytes = little_number count (drop from bytes)

-- the `count` words in the bytes from the place `from` on
unfoldable pub words_from : ℕ → ℕ → List ℕ → List ℕ
words_from from count bytes = values_below count (λ i. number_from (from + 8 * i) 8 bytes)
