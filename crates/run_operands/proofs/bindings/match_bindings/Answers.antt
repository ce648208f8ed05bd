use Rattle.std.proofs.Common.{length, map, sym}
use Rattle.std.specs.String.{string_bytes}
use Rattle.std.proofs.lemmas.List.{length-map}
use Rattle.run_operands.proofs.BoundWords.{caused_by_binding}
use Rattle.run_operands.proofs.bindings.match_bindings.Goals as goal

pub returns-in-Some-clause-cause : goal.returns-in-Some-clause-cause
returns-in-Some-clause-cause c = λ old new.
    caused_by_binding c.args.script.now (map string_bytes c.args.words.now) (length c.args.words.now) old new c.in-Some.fault c.requires.count
    (length-map c.args.words.now string_bytes) (sym c.in-Some.ensures)
