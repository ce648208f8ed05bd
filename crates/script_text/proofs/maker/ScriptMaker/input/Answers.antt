use Rattle.std.proofs.Common.{◌≡◌, ◌==◌, ◌<◌, length, true, sym, subst, arith, rules, tests}
use Rattle.line_text.specs.Names.{is_name}
use Rattle.script_text.specs.Drafts.{draft_seen}
use Rattle.script_text.specs.Limits.{max_inputs}
use Rattle.script_text.specs.Grammar.{is_new}
use Rattle.script_text.specs.Making.{IsOpen}
use Rattle.script_text.proofs.Making.{open_input}
use Rattle.script_text.proofs.maker.ScriptMaker.input.Goals as goal

pub invariant_of-result : goal.invariant_of-result
invariant_of-result c =
    let draft = c.self.inside.draft in
    let few : length draft.inputs.items < max_inputs = omega (arith, c.if-len-ge-MAX_INPUTS.false, c.len.ensures, draft.inputs.ok.0) in
    let none : (length draft.steps.items == 0) ≡ true = search (rules, tests) in
    let is : is_name c.as_bytes-name.result.now ≡ true = search (rules, tests) in
    let new : is_new (draft_seen draft) c.as_bytes-name.result.now ≡ true = search (rules, tests) in (
      subst IsOpen (sym c.in_ok-draft.ensures.value) (open_input (draft_seen draft) _ c.args.kind c.as_bytes-name.result.now c.self.invariant.0 few none is new),
      c.in_ok-draft.ensures.kept.shapes,
    )
