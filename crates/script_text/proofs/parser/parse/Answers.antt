use Rattle.std.proofs.Common.{◌≡◌, Option, Ok, arith, sym, ap, subst, ◌∙◌}
use Rattle.std.specs.Prelude.{IfSome}
use Rattle.std.specs.Option.{option_map}
use Rattle.script_text.specs.declared.draft.Draft.{Draft}
use Rattle.script_text.specs.Drafts.{draft_seen}
use Rattle.script_text.specs.Scripts.{shapes_of}
use Rattle.line_text.proofs.Pieces.{lines_few}
use Rattle.script_text.proofs.Sound.{draft_sound, bytes_few}
use Rattle.script_text.proofs.parser.parse.Goals as goal

pub overflow_cast-missed : goal.overflow_cast-missed
overflow_cast-missed c =
    let few = lines_few c.args.text.now in
    let bytes = bytes_few c.args.text.now (sym c.is_too_long.ensures ∙ c.if-is_too_long.false) in
    omega arith

pub overflow_add-missed : goal.overflow_add-missed
overflow_add-missed c =
    let few = lines_few c.args.text.now in
    let bytes = bytes_few c.args.text.now (sym c.is_too_long.ensures ∙ c.if-is_too_long.false) in
    omega arith

pub invariant_of-result : goal.invariant_of-result
invariant_of-result c = (
  draft_sound c.args.text.now (draft_seen c.in-Some.draft) c.in-Some-output.output (sym c.is_too_long.ensures ∙ c.if-is_too_long.false)
      (c.in_ok-draft.ensures.value ∙ ap (λ (o : Option Draft). Ok (option_map draft_seen o)) c.in-Some.is) c.in-Some-output.is,
  subst (λ (o : Option Draft). IfSome o (λ draft. draft.shapes.items ≡ shapes_of draft.inputs.items draft.steps.items)) c.in-Some.is c.in_ok-draft.ensures.shapes,
)

pub returns-in-Some-output-clause-sound : goal.returns-in-Some-output-clause-sound
returns-in-Some-output-clause-sound c =
    draft_sound c.args.text.now (draft_seen c.in-Some.draft) c.in-Some-output.output (sym c.is_too_long.ensures ∙ c.if-is_too_long.false)
    (c.in_ok-draft.ensures.value ∙ ap (λ (o : Option Draft). Ok (option_map draft_seen o)) c.in-Some.is) c.in-Some-output.is
