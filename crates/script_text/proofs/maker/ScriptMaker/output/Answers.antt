use Rattle.std.proofs.Common.{◌<◌, ◌≤◌, length, ap, ◌∙◌, arith}
use Rattle.script_text.specs.Drafts.{draft_seen}
use Rattle.script_text.specs.Grammar.{Draft}
use Rattle.script_text.specs.Making.{register_count, with_output}
use Rattle.script_text.proofs.Registers.{length-shapes_of}
use Rattle.script_text.proofs.Making.{open_output, output_made, output_missing}
use Rattle.script_text.proofs.maker.ScriptMaker.output.Goals as goal

pub returns-then-register-len-clause-value : goal.returns-then-register-len-clause-value
returns-then-register-len-clause-value c =
    let draft = c.self.inside.draft in
    let count = length-shapes_of draft.inputs.items draft.steps.items in
    let same = ap length c.self.invariant.1 in
    let gone : register_count (draft_seen draft) ≤ c.args.register = omega (arith, draft.shapes.ok.0) in
    output_missing (draft_seen draft) c.args.register gone ∙ ap (λ (d : Draft). with_output d c.args.register) c.self.view_is

pub invariant_of-result : goal.invariant_of-result
invariant_of-result c =
    let draft = c.self.inside.draft in
    let count = length-shapes_of draft.inputs.items draft.steps.items in
    let same = ap length c.self.invariant.1 in
    let there : c.args.register < register_count (draft_seen draft) = omega (arith, draft.shapes.ok.0) in
    (open_output (draft_seen draft) c.args.register c.self.invariant.0 there, c.self.invariant.1)

pub returns-clause-value : goal.returns-clause-value
returns-clause-value c =
    let draft = c.self.inside.draft in
    let count = length-shapes_of draft.inputs.items draft.steps.items in
    let same = ap length c.self.invariant.1 in
    let there : c.args.register < register_count (draft_seen draft) = omega (arith, draft.shapes.ok.0) in
    output_made (draft_seen draft) c.args.register there ∙ ap (λ (d : Draft). with_output d c.args.register) c.self.view_is

pub returns-clause-sound : goal.returns-clause-sound
returns-clause-sound c =
    let draft = c.self.inside.draft in
    let count = length-shapes_of draft.inputs.items draft.steps.items in
    let same = ap length c.self.invariant.1 in
    let there : c.args.register < register_count (draft_seen draft) = omega (arith, draft.shapes.ok.0) in
    open_output (draft_seen draft) c.args.register c.self.invariant.0 there
