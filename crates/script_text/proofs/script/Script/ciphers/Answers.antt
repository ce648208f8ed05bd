use Rattle.std.proofs.Common.{length, ap, arith}
use Rattle.script_text.specs.Scripts.{Script, cipher_inputs}
use Rattle.script_text.proofs.Registers.{length-shapes_of}
use Rattle.script_text.proofs.script.Script.ciphers.Goals as goal

pub overflow_sub-result : goal.overflow_sub-result
overflow_sub-result c =
    let count = length-shapes_of c.self.inside.inputs.items c.self.inside.steps.items in
    let same = ap length c.self.invariant.1 in
    omega arith

pub returns : goal.returns
returns c =
    let count = length-shapes_of c.self.inside.inputs.items c.self.inside.steps.items in
    let same = ap length c.self.invariant.1 in
    let inputs = ap (λ (s : Script). length (cipher_inputs s.inputs)) c.self.view_is in
    omega arith
