use Rattle.file_model.proofs.Files.{file_content-once, file_length}
use Rattle.file_model.proofs.Laws.{scanned-sound, scanned-complete}
use Rattle.file_model.proofs.file_laws.law_of_files.Goals as goal

pub returns-clause-read : goal.returns-clause-read
returns-clause-read c bytes content fits = (
  scanned-sound c.args.wanted bytes content fits,
  λ (file, wanted). scanned-complete c.args.wanted bytes content file wanted,
)

pub returns-clause-one_content : goal.returns-clause-one_content
returns-clause-one_content c = file_content-once

pub returns-clause-size : goal.returns-clause-size
returns-clause-size c = file_length
