use Rattle.script_text.proofs.PrintedValues.{read_printed_values}
use Rattle.script_text.proofs.laws.law_of_printed_values.Goals as goal

pub returns : goal.returns
returns c = read_printed_values
