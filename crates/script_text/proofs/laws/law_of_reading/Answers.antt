use Rattle.script_text.proofs.ReadScripts.{words_read, numbers_read}
use Rattle.script_text.proofs.ReadWhole.{read_by_words}
use Rattle.script_text.proofs.laws.law_of_reading.Goals as goal

pub returns-clause-words : goal.returns-clause-words
returns-clause-words c = words_read

pub returns-clause-lines : goal.returns-clause-lines
returns-clause-lines c = numbers_read

pub returns-clause-only : goal.returns-clause-only
returns-clause-only c = read_by_words
