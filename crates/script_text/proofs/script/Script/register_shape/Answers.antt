use Rattle.std.proofs.Common.{◌≡◌, ◌<◌, List, length, ap, sym, ◌∙◌, subst, arith}
use Rattle.std.specs.Prelude.{IfSome, slice_get}
use Rattle.std.proofs.lemmas.List.{get_or_read}
use Rattle.script_text.specs.declared.script.Shape.{Shape}
use Rattle.script_text.specs.Scripts.{Script, shape_at, shapes_of, cipher_inputs, register_names, register_lines, registers_of}
use Rattle.script_text.proofs.Registers.{length-shapes_of, shape_listed}
use Rattle.script_text.proofs.script.Script.register_shape.Goals as goal

pub index-requires : goal.index-requires
index-requires c =
    let count = length-shapes_of c.self.inside.inputs.items c.self.inside.steps.items in
    let same = ap length c.self.invariant.1 in
    let inputs = ap (λ (s : Script). length (cipher_inputs s.inputs)) c.self.view_is in
    let steps = ap (λ (s : Script). length s.steps) c.self.view_is in
    omega (arith, c.self.inside.shapes.ok.0)

pub returns-clause-value : goal.returns-clause-value
returns-clause-value c =
    let count = length-shapes_of c.self.inside.inputs.items c.self.inside.steps.items in
    let same = ap length c.self.invariant.1 in
    let inputs = ap (λ (s : Script). length (cipher_inputs s.inputs)) c.self.view_is in
    let steps = ap (λ (s : Script). length s.steps) c.self.view_is in
    let within : c.args.register < length c.self.inside.shapes.items = omega arith in
    get_or_read c.self.inside.shapes.items c.args.register c.index.result.now within c.index.ensures (record { parts = 0 })
    ∙ ap (λ (shapes : List Shape). shape_at shapes c.args.register) c.self.invariant.1
    ∙ ap (λ (s : Script). shape_at (shapes_of s.inputs s.steps) c.args.register) c.self.view_is

pub returns-clause-listed : goal.returns-clause-listed
returns-clause-listed c =
    let script = c.args.self.now in
    subst (λ (shape : Shape). IfSome (slice_get (registers_of script) c.args.register) (λ listed. shape ≡ listed.shape)) (sym (returns-clause-value c))
    (shape_listed (register_names script) (register_lines script) (shapes_of script.inputs script.steps) c.args.register)
