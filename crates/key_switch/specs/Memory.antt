-- Switching keys in memory.
use Rattle.std.specs.Prelude.{◌≡◌, ℕ, ◌+◌, ◌*◌, Bool, true, false, ◌&&◌, ◌==◌, List, [], length, map, Option, Some, None}
use Rattle.std.specs.List.{All, find}
use Rattle.set_table.specs.declared.SetName.{SetName}
use Rattle.set_table.specs.declared.KeyKind.{KeyKind}
use Rattle.set_table.specs.declared.KeyKind.TheVariants.{Relin, Turn}
use Rattle.set_table.specs.Sets.{data_of}
use Rattle.bfv_model.specs.Holds.{listed_word}
use Rattle.bfv_params.specs.Values.{SwitchKeyValue}
use Rattle.key_switch.specs.Providers.{KeysState, Digits}

-- a set, and keys in the order in which they were added
pub record MemKeysValue : Type 0 where
  pub set : SetName
  pub keys : List SwitchKeyValue

-- each key is of the set
abbrev pub AreOfSet : SetName → List SwitchKeyValue → Type 0
AreOfSet set keys = All (λ key. key.set ≡ set) keys

-- the kind and the Galois element of a key
abbrev pub pair_of : SwitchKeyValue → KeyKind × ℕ
pair_of key = (key.kind, key.element)

-- what is known of a provider of keys in memory: it never has a fault
abbrev pub memory_state : MemKeysValue → KeysState
memory_state held = record { set = held.set; pairs = map pair_of held.keys; faults = 0; last = None }

-- whether two kinds are the same
abbrev pub same_kind : KeyKind → KeyKind → Bool
same_kind Relin Relin = true
same_kind Relin Turn = false
same_kind Turn Relin = false
same_kind Turn Turn = true

-- whether a key is of this kind and Galois element
abbrev pub is_for : KeyKind → ℕ → SwitchKeyValue → Bool
is_for kind element key = same_kind key.kind kind && (key.element == element)

-- the rows of a key that was looked for, none where it wasn't found
abbrev pub found_rows : Option SwitchKeyValue → List (List ℕ)
found_rows None = []
found_rows (Some key) = key.rows

-- the words of a key whose rows are listed, with `count` rows in each of the two parts of a digit
abbrev pub key_word : ℕ → List (List ℕ) → ℕ → ℕ → ℕ → ℕ → ℕ
key_word count rows i part row k = listed_word count rows (i * 2 + part) row k

-- the words of all keys, those of a kind and Galois element being the words of the first key that has them
abbrev pub digits_of : SetName → List SwitchKeyValue → Digits
digits_of set keys = λ kind element. key_word (length (data_of set) + 1) (found_rows (find (is_for kind element) keys))
