-- What a text of values says.
use Rattle.std.specs.Prelude.{ℕ, ◌+◌, ◌-◌, min, Bool, ◌||◌, not, nat_lt, nat_le, ◌==◌, if◌then◌else◌, List, [], ◌∷◌, ◌++◌, length, take, map, filter, position, replicate, Option, Some, None, option_map, Result, Ok, Err}
use Rattle.std.specs.List.{list_all, slice_split}
use Rattle.std.specs.Option.{option_or}
use Rattle.std.specs.Char.{is_ascii_digit}
use Rattle.line_text.specs.Names.{written_number}
use Rattle.script_text.specs.Limits.{max_values_bytes}
use Rattle.script_text.specs.declared.faults.ValuePlace.{ValuePlace}
use Rattle.script_text.specs.declared.faults.ValuePlace.TheVariants.{BadText, TooLarge, TooMany, TooLong}

-- space, tab, carriage return and line feed
abbrev pub is_blank : ℕ → Bool
is_blank byte = (byte == 32) || (byte == 9) || (byte == 13) || (byte == 10)

-- the numbers of a text, which blanks separate
abbrev pub numbers : List ℕ → List ℕ
numbers text = map written_number (filter (λ word. nat_lt 0 (length word)) (slice_split is_blank text))

-- the stretches of n bytes that begin at each place of a text, as far as it has n
abbrev pub stretches : ℕ → List ℕ → List (List ℕ)
stretches n [] = []
stretches n (byte ∷ bytes) = if nat_le n (length (byte ∷ bytes)) then take n (byte ∷ bytes) ∷ stretches n bytes else []

-- the place of the first byte that is neither digit nor blank
abbrev pub first_stray : List ℕ → Option ℕ
first_stray text = position (λ byte. not (is_ascii_digit byte || is_blank byte)) text

-- the place of the twenty-first digit of the first run of digits that has so many
abbrev pub first_surplus : List ℕ → Option ℕ
first_surplus text = option_map (λ start. start + 20) (position (list_all is_ascii_digit) (stretches 21 text))

-- the lesser of two places that may be missing
abbrev pub earlier : Option ℕ → Option ℕ → Option ℕ
earlier None b = b
earlier (Some a) None = Some a
earlier (Some a) (Some b) = Some (min a b)

-- what is wrong with a text that is to have at most n values, all below t, in the order in which it is told
abbrev pub fault_of_text : List ℕ → ℕ → ℕ → Option ValuePlace
fault_of_text text n t =
    option_or (if nat_lt max_values_bytes (length text) then Some TooLong else None)
    (option_or (option_map BadText (earlier (first_stray text) (first_surplus text)))
    (option_or (if nat_lt n (length (numbers text)) then Some TooMany else None)
    (option_map TooLarge (position (λ value. nat_le t value) (numbers text)))))

-- values, unless something is wrong
abbrev pub values_unless : Option ValuePlace → List ℕ → Result (List ℕ) ValuePlace
values_unless None values = Ok values
values_unless (Some place) values = Err place

-- the n values of a text, 0 for those that are missing; or what is wrong with it
abbrev pub values_of : List ℕ → ℕ → ℕ → Result (List ℕ) ValuePlace
values_of text n t = values_unless (fault_of_text text n t) (numbers text ++ replicate (n - length (numbers text)) 0)
