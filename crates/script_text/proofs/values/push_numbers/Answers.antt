use Rattle.script_text.proofs.Joined.{pushed-joined}
use Rattle.script_text.proofs.values.push_numbers.Goals as goal

pub returns : goal.returns
returns c = pushed-joined _ c.push_number.new.text.items _ _ _ _ c.others.value-index c.in-Some.ensures.cases.0 c.others-test.false c.in_ok-push_number.ensures c.others.invariant
