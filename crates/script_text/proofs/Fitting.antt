-- The operation that a step's line gives fits the registers before it.
use Rattle.std.proofs.Common.{[], ◌∷◌, refl, Some, ◌≡◌, ◌<◌, ◌==◌, ℕ, ◌/◌, List, length, true, arith}
use Rattle.std.proofs.lemmas.Bool.{and_parts, and_from}
use Rattle.std.proofs.lemmas.Bool.Decides.{nat_tests}
use Rattle.std.specs.List.{AllByRecursion}
use Rattle.set_table.specs.declared.SetName.{SetName}
use Rattle.set_table.specs.Sets.{degree_of, plain_of}
use Rattle.script_text.specs.declared.keyword.Keyword.{Keyword}
use Rattle.script_text.specs.declared.keyword.Keyword.TheVariants as keyword
use Rattle.script_text.specs.declared.keyword.Second.{Second}
use Rattle.script_text.specs.declared.keyword.Second.TheVariants.{Nothing, Register, Plain, Factor, Distance}
use Rattle.script_text.specs.Keywords.{second_of, operation}
use Rattle.script_text.specs.declared.script.Shape.{Shape}
use Rattle.script_text.specs.Scripts.{Fits, shape_at, have_parts, has_shape}

-- a number that may stand as the second operand
abbrev pub SecondFits : SetName → ℕ → List Shape → Second → ℕ → Type 0
SecondFits set plains shapes Nothing b = Unit {0}
SecondFits set plains shapes Register b = b < length shapes
SecondFits set plains shapes Plain b = b < plains
SecondFits set plains shapes Factor b = b < plain_of set
SecondFits set plains shapes Distance b = (0 < b) × (b < degree_of set / 2)

same_number : (x n : ℕ) → (x == n) ≡ true → x ≡ n
same_number x n is = grind (arith, nat_tests)

number_same : (x n : ℕ) → x ≡ n → (x == n) ≡ true
number_same x n is = grind (arith, nat_tests)

-- registers that passed the test have so many parts
pub taken_from : (shapes : List Shape) (n : ℕ) (registers : List ℕ) → have_parts shapes (Some n) registers ≡ true → AllByRecursion (λ register. (shape_at shapes register).parts ≡ n) registers
taken_from shapes n [] test = tt
taken_from shapes n (register ∷ registers) test =
    let both = and_parts ((shape_at shapes register).parts == n) (have_parts shapes (Some n) registers) test in
    (same_number _ n both.0, taken_from shapes n registers both.1)

-- registers with so many parts pass the test
pub parts_tested : (shapes : List Shape) (n : ℕ) (registers : List ℕ) → AllByRecursion (λ register. (shape_at shapes register).parts ≡ n) registers → have_parts shapes (Some n) registers ≡ true
parts_tested shapes n [] taken = refl
parts_tested shapes n (register ∷ registers) taken =
    and_from ((shape_at shapes register).parts == n) (have_parts shapes (Some n) registers) (number_same _ n taken.0) (parts_tested shapes n registers taken.1)

pub operation_fits : (set : SetName) (plains : ℕ) (shapes : List Shape) (k : Keyword) (a b : ℕ) → a < length shapes → SecondFits set plains shapes (second_of k) b
    → has_shape shapes (operation k a b) ≡ true → Fits set plains shapes (operation k a b)
unfolding has_shape
operation_fits set plains shapes keyword.Add a b first second shape = record { operands = (first, (second, tt)); plain = tt; factor = tt; distance = tt; taken = tt }
operation_fits set plains shapes keyword.Sub a b first second shape = record { operands = (first, (second, tt)); plain = tt; factor = tt; distance = tt; taken = tt }
operation_fits set plains shapes keyword.Neg a b first second shape = record { operands = (first, tt); plain = tt; factor = tt; distance = tt; taken = tt }
operation_fits set plains shapes keyword.AddPlain a b first second shape = record { operands = (first, tt); plain = second; factor = tt; distance = tt; taken = tt }
operation_fits set plains shapes keyword.SubPlain a b first second shape = record { operands = (first, tt); plain = second; factor = tt; distance = tt; taken = tt }
operation_fits set plains shapes keyword.MulPlain a b first second shape = record { operands = (first, tt); plain = second; factor = tt; distance = tt; taken = tt }
operation_fits set plains shapes keyword.MulConst a b first second shape = record { operands = (first, tt); plain = tt; factor = second; distance = tt; taken = tt }
operation_fits set plains shapes keyword.Mul a b first second shape =
    record { operands = (first, (second, tt)); plain = tt; factor = tt; distance = tt; taken = taken_from shapes 2 (a ∷ b ∷ []) shape }
operation_fits set plains shapes keyword.Relin a b first second shape = record { operands = (first, tt); plain = tt; factor = tt; distance = tt; taken = taken_from shapes 3 (a ∷ []) shape }
operation_fits set plains shapes keyword.Turn a b first second shape = record { operands = (first, tt); plain = tt; factor = tt; distance = second; taken = taken_from shapes 2 (a ∷ []) shape }
operation_fits set plains shapes keyword.Swap a b first second shape = record { operands = (first, tt); plain = tt; factor = tt; distance = tt; taken = taken_from shapes 2 (a ∷ []) shape }
