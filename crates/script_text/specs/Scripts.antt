-- Scripts: what they consist of, and what holds of every one.
use Rattle.std.specs.Prelude.{◌≡◌, ◌≢◌, ℕ, ◌+◌, ◌*◌, ◌/◌, ◌%◌, ◌^◌, ◌-◌, ◌<◌, ◌≤◌, ◌==◌, max, Bool, true, false, List, [], ◌∷◌, ◌++◌, length, map, fold, filter, replicate, slice_index_or, All, IsTrue, Option, Some, None, IfSome}
use Rattle.std.specs.List.{flat_map, list_all, AllPairs, AllByRecursion}
use Rattle.std.specs.Option.{option_or}
use Rattle.set_table.specs.declared.SetName.{SetName}
use Rattle.set_table.specs.declared.KeyKind.{KeyKind}
use Rattle.set_table.specs.declared.KeyKind.TheVariants as key
use Rattle.set_table.specs.Sets.{degree_of, plain_of}
use Rattle.line_text.specs.Names.{is_name}
use Rattle.script_text.specs.Limits.{max_inputs, max_steps}
use Rattle.script_text.specs.declared.script.InputKind.TheVariants.{Cipher, Plain}
use Rattle.script_text.specs.declared.script.Op.{Op}
use Rattle.script_text.specs.declared.script.Op.TheVariants.{Add, Sub, Neg, AddPlain, SubPlain, MulPlain, MulConst, Mul, Relin, Turn, Swap}
use Rattle.script_text.specs.declared.script.Input.{Input}
use Rattle.script_text.specs.declared.script.Shape.{Shape}
use Rattle.script_text.specs.declared.script.Step.{Step}

-- A script: its parameter set, its inputs and steps in order, and the number of the register that it puts out. The cipher inputs and
-- then the steps are the registers, numbered from 0; the plain inputs are numbered from 0 by themselves.
pub record Script : Type 0 where
  pub set : SetName
  pub inputs : List Input
  pub steps : List Step
  pub output : ℕ

abbrev pub is_cipher : Input → Bool
is_cipher input = elim input.kind as (λ _. Bool) [ Cipher ↦ true | Plain ↦ false ]

abbrev pub is_plain : Input → Bool
is_plain input = elim input.kind as (λ _. Bool) [ Cipher ↦ false | Plain ↦ true ]

abbrev pub cipher_inputs : List Input → List Input
cipher_inputs = filter is_cipher

abbrev pub plain_inputs : List Input → List Input
plain_inputs = filter is_plain

-- what all registers hold, if the cipher inputs hold these and each operation makes one more of what the registers before it hold
abbrev pub registers : {A : Type 0} → (List A → Op → A) → List A → List Step → List A
registers made inputs steps = fold (λ so_far step. so_far ++ made so_far step.op ∷ []) inputs steps

-- the registers that an operation reads, in order
abbrev pub operands_of : Op → List ℕ
operands_of (Add a b) = a ∷ b ∷ []
operands_of (Sub a b) = a ∷ b ∷ []
operands_of (Neg a) = a ∷ []
operands_of (AddPlain a p) = a ∷ []
operands_of (SubPlain a p) = a ∷ []
operands_of (MulPlain a p) = a ∷ []
operands_of (MulConst a k) = a ∷ []
operands_of (Mul a b) = a ∷ b ∷ []
operands_of (Relin a) = a ∷ []
operands_of (Turn a k) = a ∷ []
operands_of (Swap a) = a ∷ []

-- the plain input that an operation reads, if it reads one
abbrev pub plain_operand_of : Op → Option ℕ
plain_operand_of (AddPlain a p) = Some p
plain_operand_of (SubPlain a p) = Some p
plain_operand_of (MulPlain a p) = Some p
plain_operand_of op = None

-- the number that an operation multiplies by
abbrev pub factor_of : Op → Option ℕ
factor_of (MulConst a k) = Some k
factor_of op = None

-- how far an operation turns the rows
abbrev pub distance_of : Op → Option ℕ
distance_of (Turn a k) = Some k
distance_of op = None

-- the number that stands among an operation's operands
abbrev pub number_operand_of : Op → Option ℕ
number_operand_of op = option_or (factor_of op) (distance_of op)

-- the shape of a cipher input
abbrev pub input_shape : Shape
input_shape = record { parts = 2 }

-- the shape of a register; one that isn't there has no parts
abbrev pub shape_at : List Shape → ℕ → Shape
shape_at shapes register = slice_index_or shapes register (record { parts = 0 })

-- the shape of an operation's result, by those of the registers before it
abbrev pub shape_made : List Shape → Op → Shape
shape_made shapes (Add a b) = record { parts = max (shape_at shapes a).parts (shape_at shapes b).parts }
shape_made shapes (Sub a b) = record { parts = max (shape_at shapes a).parts (shape_at shapes b).parts }
shape_made shapes (Neg a) = shape_at shapes a
shape_made shapes (AddPlain a p) = shape_at shapes a
shape_made shapes (SubPlain a p) = shape_at shapes a
shape_made shapes (MulPlain a p) = shape_at shapes a
shape_made shapes (MulConst a k) = shape_at shapes a
shape_made shapes (Mul a b) = record { parts = 3 }
shape_made shapes (Relin a) = record { parts = 2 }
shape_made shapes (Turn a k) = record { parts = 2 }
shape_made shapes (Swap a) = record { parts = 2 }

-- the shapes of the registers
abbrev pub shapes_of : List Input → List Step → List Shape
shapes_of inputs steps = registers shape_made (replicate (length (cipher_inputs inputs)) input_shape) steps

-- how many parts an operation takes of each register that it reads, where it doesn't take any number
abbrev pub parts_taken : Op → Option ℕ
parts_taken (Mul a b) = Some 2
parts_taken (Relin a) = Some 3
parts_taken (Turn a k) = Some 2
parts_taken (Swap a) = Some 2
parts_taken op = None

-- each of these registers has so many parts, where a number is asked for
abbrev pub have_parts : List Shape → Option ℕ → List ℕ → Bool
have_parts shapes None registers = true
have_parts shapes (Some n) registers = list_all (λ register. (shape_at shapes register).parts == n) registers

-- the registers that an operation reads have the parts that it takes
unfoldable pub has_shape : List Shape → Op → Bool
has_shape shapes op = have_parts shapes (parts_taken op) (operands_of op)

-- An operation that may follow these registers: it reads registers among them and plain inputs among so many, a factor is below t, rows
-- of n / 2 slots are turned by less than their length but not by 0, and the registers have the parts that it takes.
pub record Fits (set : SetName) (plains : ℕ) (shapes : List Shape) (op : Op) : Type 0 where
  pub operands : AllByRecursion (λ register. register < length shapes) (operands_of op)
  pub plain : IfSome (plain_operand_of op) (λ plain. plain < plains)
  pub factor : IfSome (factor_of op) (λ factor. factor < plain_of set)
  pub distance : IfSome (distance_of op) (λ distance. (0 < distance) × (distance < degree_of set / 2))
  pub taken : IfSome (parts_taken op) (λ n. AllByRecursion (λ register. (shape_at shapes register).parts ≡ n) (operands_of op))

-- the names that are defined, in order
abbrev pub names_of : List Input → List Step → List (List ℕ)
names_of inputs steps = map (λ input. input.name) inputs ++ map (λ step. step.name) steps

-- every operation fits the registers before it
abbrev pub AllFit : SetName → ℕ → List Shape → List Step → Type 0
AllFit set plains shapes [] = Unit {0}
AllFit set plains shapes (step ∷ steps) = Fits set plains shapes step.op × AllFit set plains (shapes ++ shape_made shapes step.op ∷ []) steps

-- what holds of every script
pub record IsSound (script : Script) : Type 0 where
  pub few_inputs : length script.inputs ≤ max_inputs
  pub few_steps : length script.steps ≤ max_steps
  pub names : All (λ name. IsTrue (is_name name)) (names_of script.inputs script.steps)
  pub distinct : AllPairs (λ name later. name ≢ later) (names_of script.inputs script.steps)
  pub fit : AllFit script.set (length (plain_inputs script.inputs)) (replicate (length (cipher_inputs script.inputs)) input_shape) script.steps
  pub output : script.output < length (cipher_inputs script.inputs) + length script.steps

-- A register: its name, the line that defines it, and the shape of its cipher.
pub record Register : Type 0 where
  pub name : List ℕ
  pub line : ℕ
  pub shape : Shape

-- registers with these names, lines and shapes, one of each in turn
abbrev pub registers_with : List (List ℕ) → List ℕ → List Shape → List Register
registers_with (name ∷ names) (line ∷ lines) (shape ∷ shapes) = record { name = name; line = line; shape = shape } ∷ registers_with names lines shapes
registers_with names lines shapes = []

abbrev pub register_names : Script → List (List ℕ)
register_names script = names_of (cipher_inputs script.inputs) script.steps

abbrev pub register_lines : Script → List ℕ
register_lines script = map (λ input. input.line) (cipher_inputs script.inputs) ++ map (λ step. step.line) script.steps

-- the registers of a script: those that its cipher inputs and then those that its steps define
abbrev pub registers_of : Script → List Register
registers_of script = registers_with (register_names script) (register_lines script) (shapes_of script.inputs script.steps)

-- whether an operation is linear: none but these switches keys or multiplies two ciphers
abbrev pub is_linear : Op → Bool
is_linear (Add a b) = true
is_linear (Sub a b) = true
is_linear (Neg a) = true
is_linear (AddPlain a p) = true
is_linear (SubPlain a p) = true
is_linear (MulPlain a p) = true
is_linear (MulConst a k) = true
is_linear op = false

-- the switching keys that an operation needs, each with its Galois element, where n is the degree
abbrev pub keys_needed : ℕ → Op → List (KeyKind × ℕ)
keys_needed n (Relin a) = (key.Relin, 0) ∷ []
keys_needed n (Turn a k) = (key.Turn, 3 ^ k % (2 * n)) ∷ []
keys_needed n (Swap a) = (key.Turn, 2 * n - 1) ∷ []
keys_needed n op = []

-- the keys that a script needs, step by step
abbrev pub needs_of : Script → List (KeyKind × ℕ)
needs_of script = flat_map (λ step. keys_needed (degree_of script.set) step.op) script.steps
