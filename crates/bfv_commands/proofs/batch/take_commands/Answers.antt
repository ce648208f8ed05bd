use Rattle.batch_text.specs.Reading.{texts}
use Rattle.bfv_commands.proofs.BatchForms.{commands_single}
use Rattle.bfv_commands.proofs.batch.take_commands.Goals as goal

pub returns-in-Ok-clause-single : goal.returns-in-Ok-clause-single
returns-in-Ok-clause-single c = commands_single c.args.text.now (texts c.in-Ok.commands.items) c.in-Ok.ensures.commands
