use Rattle.command_words.proofs.line.put_place.Goals as goal

pub returns-in-TooLarge : goal.returns-in-TooLarge
returns-in-TooLarge g c = rw c.in-TooLarge.is c.put_number-in-TooLarge.ensures
