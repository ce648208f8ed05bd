-- What an operation may name.
use Rattle.std.specs.Prelude.{ℕ, ◌<◌, IfSome}
use Rattle.std.specs.List.{AllByRecursion}
use Rattle.set_table.specs.declared.SetName.{SetName}
use Rattle.set_table.specs.Sets.{plain_of}
use Rattle.script_text.specs.declared.script.Op.{Op}
use Rattle.script_text.specs.Scripts.{operands_of, factor_of}

-- its registers are among the first so many, and its constant is a residue modulo t
abbrev pub HasOperands : SetName → ℕ → Op → Type 0
HasOperands set count op = AllByRecursion (λ register. register < count) (operands_of op) × IfSome (factor_of op) (λ factor. factor < plain_of set)
