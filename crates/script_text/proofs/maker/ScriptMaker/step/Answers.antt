use Rattle.std.proofs.Common.{◌≡◌, ◌<◌, length, true, sym, subst, arith, rules, tests}
use Rattle.line_text.specs.Names.{is_name}
use Rattle.script_text.specs.Drafts.{draft_seen}
use Rattle.script_text.specs.Limits.{max_steps}
use Rattle.script_text.specs.Scripts.{has_shape, shapes_of}
use Rattle.script_text.specs.Grammar.{is_new}
use Rattle.script_text.specs.Making.{has_operands, has_number, IsOpen}
use Rattle.script_text.proofs.Making.{open_step}
use Rattle.script_text.proofs.maker.ScriptMaker.step.Goals as goal

pub invariant_of-result : goal.invariant_of-result
invariant_of-result c =
    let draft = c.self.inside.draft in
    let few : length draft.steps.items < max_steps = omega (arith, c.if-len-ge-MAX_STEPS.false, c.len.ensures, draft.steps.ok.0) in
    let is : is_name c.as_bytes-name.result.now ≡ true = search (rules, tests) in
    let new : is_new (draft_seen draft) c.as_bytes-name.result.now ≡ true = search (rules, tests) in
    let operands : has_operands (draft_seen draft) c.args.op ≡ true = search (rules, tests) in
    let number : has_number draft.set c.args.op ≡ true = search (rules, tests) in
    let shape : has_shape (shapes_of draft.inputs.items draft.steps.items) c.args.op ≡ true = search (rules, tests) in (
      subst IsOpen (sym c.in_ok-draft.ensures.value) (open_step (draft_seen draft) _ c.as_bytes-name.result.now c.args.op c.self.invariant.0 few is new operands number shape),
      c.in_ok-draft.ensures.kept.shapes,
    )
