use Rattle.script_text.proofs.PrintedAgain.{read_again}
use Rattle.script_text.proofs.laws.law_of_printing.Goals as goal

pub returns : goal.returns
returns c = read_again
