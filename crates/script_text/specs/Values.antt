-- Lists of values as text.
use Rattle.std.specs.Prelude.{ℕ, ◌/◌, List, [], ◌∷◌, ◌++◌, length, take, drop, map, decimal}
use Rattle.std.specs.List.{join_with_byte}

-- one row: the values in decimal with a space between each two, and a line feed
abbrev pub printed_row : List ℕ → List ℕ
printed_row row = join_with_byte 32 (map decimal row) ++ 10 ∷ []

-- the text of a list of values: the first half as one row, the others as a second
abbrev pub printed_values : List ℕ → List ℕ
printed_values values = printed_row (take (length values / 2) values) ++ printed_row (drop (length values / 2) values)
