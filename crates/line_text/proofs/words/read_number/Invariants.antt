use Rattle.std.proofs.Common.{◌≡◌, take}
use Rattle.std.specs.Io.Iter.{u64_saturate}
use Rattle.line_text.specs.Names.{written_number}
use Rattle.line_text.proofs.words.read_number.Given as goal

abbrev pub invariant-loop-digit : goal.invariant-loop-digit
invariant-loop-digit l = l.number ≡ u64_saturate (written_number (take l.digit-index l.digits))
