use Rattle.std.proofs.Common.{◌≡◌, ℕ, Some, sym, ap, ◌∙◌, arith}
use Rattle.line_text.specs.Names.{written_number}
use Rattle.script_text.specs.Drafts.{draft_seen}
use Rattle.script_text.proofs.SecondOperand.{second_small, second_is_number}
use Rattle.script_text.proofs.draft.Draft.second_value.Goals as goal

pub overflow_cast-result : goal.overflow_cast-result
overflow_cast-result c =
    let small = second_small c.args.self.now.set c.args.second c.args.word.now c.in-Factor.is c.requires.second in
    omega arith

pub returns-in-Factor : goal.returns-in-Factor
returns-in-Factor c =
    let small = second_small c.args.self.now.set c.args.second c.args.word.now c.in-Factor.is c.requires.second in
    let number : c.read_number.result ≡ written_number c.args.word.now = omega arith in
    ap (λ (n : ℕ). Some n) number ∙ sym (second_is_number (draft_seen c.args.self.now) c.args.second c.args.word.now c.in-Factor.is)
