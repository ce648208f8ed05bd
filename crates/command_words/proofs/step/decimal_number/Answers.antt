use Rattle.std.proofs.Common.{true, false, ◌∙◌, ap, rules}
use Rattle.std.specs.Prelude.{Some}
use Rattle.std.specs.Io.Iter.{u64_saturate}
use Rattle.line_text.specs.Names.{written_number}
use Rattle.command_words.proofs.Decimals.{decimal_is}
use Rattle.command_words.proofs.step.decimal_number.Goals as goal

pub returns-then-eq : goal.returns-then-eq
returns-then-eq c =
    let number = c.read_number-number.ensures ∙ ap (λ word. u64_saturate (written_number word)) c.as_bytes.ensures.value in
    ap Some number ∙ decimal_is c.args.word.now true (search rules)

pub returns-else-eq : goal.returns-else-eq
returns-else-eq c = decimal_is c.args.word.now false (search rules)
