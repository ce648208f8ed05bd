-- Sums of products, each kept in two words, and reduced only once. Private contracts alone speak of them.
use Rattle.std.specs.Prelude.{◌≡◌, ℕ, ◌+◌, ◌-◌, ◌*◌, ◌^◌, ◌<◌, ◌≤◌, pos, ◌*ℤ◌, List, [], length, nat_lt, slice_index, slice_index_or, if◌then◌else◌}
use Rattle.set_table.specs.Sets.{data_of, log_degree_of}
use Rattle.ring_law.specs.Sums.{sum_below}
use Rattle.ring_law.specs.Rows.{row_polynomial}
use Rattle.ring_law.specs.Transform.{transform_entry}
use Rattle.bfv_params.specs.Moduli.{key_at}
use Rattle.bfv_params.specs.Transforms.{transform_of}
use Rattle.bfv_params.specs.Values.{ContextValue}

-- the number whose upper word is at place k of one row, and whose lower word is at that place of another
abbrev pub two_words : List ℕ → List ℕ → ℕ → ℕ
two_words high low k = slice_index high k * 2 ^ 64 + slice_index low k

-- sum k of row r where `count` rows of upper words begin at the row `from`, and as many of lower words stand after them
abbrev pub sum_word : ℕ → List (List ℕ) → ℕ → ℕ → ℕ → ℕ
sum_word count rows from r k = two_words (slice_index_or rows (from + r) []) (slice_index_or rows (from + (count + r)) []) k

-- the row of a digit's part for row r of so many: the last one of a part is that of the special modulus
abbrev pub digit_row : ℕ → ℕ → ℕ → ℕ
digit_row count rows r = if nat_lt (r + 1) count then r else (rows - 1)

-- the moduli of keys at the level of a context: its data moduli, and then the special one
abbrev pub key_in : ContextValue → List ℕ
key_in ctx = key_at ctx.set ctx.level

-- entry k of the transform under key modulus r of digit i of a part
abbrev pub digit_entry : ContextValue → List (List ℕ) → ℕ → ℕ → ℕ → ℕ
digit_entry ctx part i r k =
    let p = slice_index (key_in ctx) r in
    transform_entry p (log_degree_of ctx.set) (transform_of ctx.set p).root (row_polynomial (slice_index_or part i [])) k

-- the sums over the first digits of a part, each times the words of the digit of a key: by part of the key, row and place
abbrev pub AreDigitSums : ℕ → ContextValue → List (List ℕ) → (ℕ → ℕ → ℕ → ℕ → ℕ) → ℕ → List (List ℕ) → Type 0
AreDigitSums n ctx part word digits sums = (j r k : ℕ) → j < 2 → r < ctx.level + 1 → k < n
    → pos (sum_word (ctx.level + 1) sums (j * (2 * (ctx.level + 1))) r k)
    ≡ sum_below digits (λ i. pos (digit_entry ctx part i r k) *ℤ pos (word i j (digit_row (ctx.level + 1) (length (data_of ctx.set) + 1) r) k))

-- no sum is greater than that many products of two words below 2^61
abbrev pub AreSumsOf : ℕ → ℕ → ℕ → List (List ℕ) → Type 0
AreSumsOf n count digits sums = (j r k : ℕ) → j < 2 → r < count → k < n → sum_word count sums (j * (2 * count)) r k ≤ digits * 2 ^ 122
