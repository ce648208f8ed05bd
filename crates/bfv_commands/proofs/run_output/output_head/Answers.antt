use Rattle.std.proofs.Common.{ℕ, ap, sym, subst, ◌∙◌}
use Rattle.std.specs.Prelude.{IsTrue}
use Rattle.set_table.specs.declared.SetName.{SetName}
use Rattle.file_model.specs.FileText.{bound_fits}
use Rattle.file_model.specs.Heads.{made_head}
use Rattle.file_model.specs.declared.file_kind.FileKind.TheVariants as kind
use Rattle.script_text.specs.declared.script.Shape.{Shape}
use Rattle.script_text.specs.Scripts.{shape_at, shapes_of}
use Rattle.bfv_commands.proofs.RunOutputs.{output_parts_fit}
use Rattle.bfv_commands.proofs.run_output.output_head.Goals as goal

pub of_cipher-requires : goal.of_cipher-requires
of_cipher-requires c =
    let script = c.args.script.now in
    let parts_is = ap (λ (shape : Shape). shape.parts) c.register_shape-parts.ensures.value
    ∙ ap (λ (r : ℕ). (shape_at (shapes_of script.inputs script.steps) r).parts) c.output.ensures.value in
    record {
      parts = output_parts_fit script c.register_shape-parts.result.parts c.set.ensures.sound parts_is;
      bound = subst (λ (set : SetName). IsTrue (bound_fits kind.Cipher set c.args.bound.m c.args.bound.e)) (sym c.set.ensures.value) c.requires;
    }

pub returns-clause-is : goal.returns-clause-is
returns-clause-is c =
    let script = c.args.script.now in
    let parts_is = ap (λ (shape : Shape). shape.parts) c.register_shape-parts.ensures.value
    ∙ ap (λ (r : ℕ). (shape_at (shapes_of script.inputs script.steps) r).parts) c.output.ensures.value in
    c.of_cipher.ensures.is
    ∙ ap (λ (set : SetName). made_head kind.Cipher set c.register_shape-parts.result.parts 0 c.args.id c.args.bound) c.set.ensures.value
    ∙ ap (λ (parts : ℕ). made_head kind.Cipher script.set parts 0 c.args.id c.args.bound) parts_is
