-- The keywords of steps.
use Rattle.std.specs.Prelude.{ℕ, List, [], ◌∷◌, Option, codes}
use Rattle.std.specs.List.{find}
use Rattle.std.specs.Str.{bytes_eq}
use Rattle.script_text.specs.declared.keyword.Keyword.{Keyword}
use Rattle.script_text.specs.declared.keyword.Keyword.TheVariants as keyword
use Rattle.script_text.specs.declared.keyword.Second.{Second}
use Rattle.script_text.specs.declared.keyword.Second.TheVariants.{Nothing, Register, Plain, Factor, Distance}
use Rattle.script_text.specs.declared.script.Op.{Op}
use Rattle.script_text.specs.declared.script.Op.TheVariants.{Add, Sub, Neg, AddPlain, SubPlain, MulPlain, MulConst, Mul, Relin, Turn, Swap}

abbrev pub keyword_text : Keyword → List ℕ
keyword_text keyword.Add = codes "add"
keyword_text keyword.Sub = codes "sub"
keyword_text keyword.Neg = codes "neg"
keyword_text keyword.AddPlain = codes "addp"
keyword_text keyword.SubPlain = codes "subp"
keyword_text keyword.MulPlain = codes "mulp"
keyword_text keyword.MulConst = codes "mulk"
keyword_text keyword.Mul = codes "mul"
keyword_text keyword.Relin = codes "relin"
keyword_text keyword.Turn = codes "turn"
keyword_text keyword.Swap = codes "swap"

abbrev pub keywords : List Keyword
keywords =
    keyword.Add ∷ keyword.Sub ∷ keyword.Neg ∷ keyword.AddPlain ∷ keyword.SubPlain ∷ keyword.MulPlain
    ∷ keyword.MulConst ∷ keyword.Mul ∷ keyword.Relin ∷ keyword.Turn ∷ keyword.Swap ∷ []

abbrev pub keyword_named : List ℕ → Option Keyword
keyword_named word = find (λ keyword. bytes_eq (keyword_text keyword) word) keywords

-- what a step has as second operand: nothing, a register, a plain input, a factor or how far it turns
abbrev pub second_of : Keyword → Second
second_of keyword.Add = Register
second_of keyword.Sub = Register
second_of keyword.Neg = Nothing
second_of keyword.AddPlain = Plain
second_of keyword.SubPlain = Plain
second_of keyword.MulPlain = Plain
second_of keyword.MulConst = Factor
second_of keyword.Mul = Register
second_of keyword.Relin = Nothing
second_of keyword.Turn = Distance
second_of keyword.Swap = Nothing

-- the operation with these operands
abbrev pub operation : Keyword → ℕ → ℕ → Op
operation keyword.Add a b = Add a b
operation keyword.Sub a b = Sub a b
operation keyword.Neg a b = Neg a
operation keyword.AddPlain a b = AddPlain a b
operation keyword.SubPlain a b = SubPlain a b
operation keyword.MulPlain a b = MulPlain a b
operation keyword.MulConst a b = MulConst a b
operation keyword.Mul a b = Mul a b
operation keyword.Relin a b = Relin a
operation keyword.Turn a b = Turn a b
operation keyword.Swap a b = Swap a
