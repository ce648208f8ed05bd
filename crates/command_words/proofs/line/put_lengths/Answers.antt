use Rattle.outer_io.proofs.Sinking.{Puts_stop, Puts_then}
use Rattle.command_words.proofs.line.put_lengths.Goals as goal

pub returns-in-Ok : goal.returns-in-Ok
returns-in-Ok g c = Puts_then _ _ _ _ _ _ _ c.in-Ok.ensures c.put_number-in-Ok.ensures

pub returns-in-Err : goal.returns-in-Err
returns-in-Err g c = Puts_stop _ _ _ _ _ c.in-Err.ensures
