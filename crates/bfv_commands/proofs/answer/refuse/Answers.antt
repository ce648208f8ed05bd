use Rattle.bfv_commands.proofs.Answering.{printed_whole}
use Rattle.bfv_commands.proofs.answer.refuse.Goals as goal

pub returns-in-Ok-clause-printed : goal.returns-in-Ok-clause-printed
returns-in-Ok-clause-printed g c = λ before. printed_whole _ before _ _ _ c.requires.refused c.in-Ok.ensures.ok
