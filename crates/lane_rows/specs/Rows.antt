use Rattle.std.specs.Prelude.{ℕ, ◌<◌, List, length, slice_index}

-- each word of the row is below the bound
abbrev pub RowBelow : ℕ → List ℕ → Type 0
RowBelow bound row = (i : ℕ) → i < length row → slice_index row i < bound
