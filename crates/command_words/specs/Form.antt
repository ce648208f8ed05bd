-- The forms of a command's words.
use Rattle.std.specs.Prelude.{◌≡◌, ◌⊎◌, ℕ, ◌<◌, ◌≤◌, Bool, false, ◌&&◌, nat_lt, nat_le, List, [], ◌∷◌, Option, Some, None, is_some, length, ◌==◌, codes, if◌then◌else◌}
use Rattle.std.specs.Str.{bytes_eq}
use Rattle.std.specs.List.{list_any, list_all, before_first, after_first}
use Rattle.line_text.specs.Names.{is_name}
use Rattle.set_table.specs.Sets.{set_named}
use Rattle.command_words.specs.Step.{step_named}
use Rattle.command_words.specs.declared.form.Form.{Form}
use Rattle.command_words.specs.declared.form.Form.TheVariants.{Secret, Public, Relin, Turn, Encrypt, Run, Decrypt, Check, Report, Batch}

-- one of the words is empty
abbrev pub has_empty_word : List (List ℕ) → Bool
has_empty_word words = list_any (λ word. length word == 0) words

-- the form of one word behind a command's name
abbrev pub form_of_one : List ℕ → Option Form
form_of_one command = if bytes_eq command (codes "check") then Some Check else (if bytes_eq command (codes "batch") then Some Batch else None)

-- the form of two words behind a command's name
abbrev pub form_of_two : List ℕ → Option Form
form_of_two command = if bytes_eq command (codes "report") then Some Report else None

-- the form of three words behind a command's name. A secret is made for a set that is named.
unfoldable pub form_of_three : List ℕ → List ℕ → Option Form
form_of_three command first =
    if bytes_eq command (codes "secret") then (if is_some (set_named first) then Some Secret else None)
    else (if bytes_eq command (codes "public") then Some Public
    else (if bytes_eq command (codes "relin") then Some Relin
    else (if bytes_eq command (codes "decrypt") then Some Decrypt else None)))

-- the form of four words behind a command's name. A turn goes by a step that is named.
unfoldable pub form_of_four : List ℕ → List ℕ → Option Form
form_of_four command second =
    if bytes_eq command (codes "encrypt") then Some Encrypt
    else (if bytes_eq command (codes "turn") then (if is_some (step_named second) then Some Turn else None) else None)

-- the form that words have by the first of them and by their number, where none is empty
abbrev pub form_of_full_words : List (List ℕ) → Option Form
form_of_full_words (command ∷ first ∷ []) = form_of_one command
form_of_full_words (command ∷ first ∷ second ∷ []) = form_of_two command
form_of_full_words (command ∷ first ∷ second ∷ third ∷ []) = form_of_three command first
form_of_full_words (command ∷ first ∷ second ∷ third ∷ fourth ∷ []) = form_of_four command second
form_of_full_words _ = None

-- the sign between the name of an input and that of a file
abbrev pub is_equals : ℕ → Bool
is_equals byte = byte == 61

-- what stands before the first `=` of a binding NAME=FILE: the name of a script's input
abbrev pub binding_name : List ℕ → List ℕ
binding_name word = before_first is_equals word

-- what stands behind the first `=` of a binding NAME=FILE: the name of a file
abbrev pub binding_file : List ℕ → List ℕ
binding_file word = after_first is_equals word

-- a word that binds an input to a file
abbrev pub is_binding : List ℕ → Bool
is_binding word = is_name (binding_name word) && nat_lt 0 (length (binding_file word))

-- the words of `run`: a script, the file OUT, and bindings; at most 1,000 words in all
abbrev pub is_run : List (List ℕ) → Bool
is_run (command ∷ script ∷ out ∷ bindings) = bytes_eq command (codes "run") && (nat_le (length bindings) 997 && list_all is_binding bindings)
is_run _ = false

-- the form of words
abbrev pub form_of : List (List ℕ) → Option Form
form_of words = if has_empty_word words then None else (if is_run words then Some Run else form_of_full_words words)

-- a form may have so many words
abbrev pub HasCount : Form → ℕ → Type 0
HasCount Encrypt count = count ≡ 5
HasCount Turn count = count ≡ 5
HasCount Check count = count ≡ 2
HasCount Report count = count ≡ 3
HasCount Batch count = count ≡ 2
HasCount Run count = (3 ≤ count) × (count ≤ 1000)
HasCount _ count = count ≡ 4

-- the numbers of the words that name the files a form reads, where there are so many words
abbrev pub IsOperand : Form → ℕ → ℕ → Type 0
IsOperand Secret count word = word ≡ 2
IsOperand Public count word = (word ≡ 1) ⊎ (word ≡ 2)
IsOperand Relin count word = (word ≡ 1) ⊎ (word ≡ 2)
IsOperand Turn count word = (word ≡ 1) ⊎ (word ≡ 3)
IsOperand Encrypt count word = (word ≡ 1) ⊎ (word ≡ 2) ⊎ (word ≡ 3)
IsOperand Run count word = (word ≡ 1) ⊎ ((3 ≤ word) × (word < count))
IsOperand Decrypt count word = (word ≡ 1) ⊎ (word ≡ 2)
IsOperand Check count word = word ≡ 1
IsOperand Report count word = word ≡ 1
IsOperand Batch count word = word ≡ 1

-- the number of the word that names the file OUT, where a form writes one
abbrev pub out_word : Form → Option ℕ
out_word Encrypt = Some 4
out_word Turn = Some 4
out_word Run = Some 2
out_word Report = Some 2
out_word Check = None
out_word Batch = None
out_word _ = Some 3
