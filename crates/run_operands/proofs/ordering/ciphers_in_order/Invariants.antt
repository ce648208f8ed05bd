use Rattle.std.proofs.Common.{take, map}
use Rattle.std.specs.List.{AllZip}
use Rattle.std.specs.String.{string_bytes}
use Rattle.script_text.specs.Scripts.{cipher_inputs}
use Rattle.run_operands.specs.Ordered.{IsCipherOf}
use Rattle.run_operands.proofs.ordering.ciphers_in_order.Given as goal

abbrev pub invariant-loop-input : goal.invariant-loop-input
invariant-loop-input l = AllZip (IsCipherOf l.script (map string_bytes l.words) l.operands) (cipher_inputs (take l.input l.script.inputs)) l.ciphers.items
