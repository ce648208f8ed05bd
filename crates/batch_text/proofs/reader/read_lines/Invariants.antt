use Rattle.std.proofs.Common.{◌≡◌, ◌+◌, ◌≤◌, length, drop}
use Rattle.line_text.specs.Lines.{counted_from}
use Rattle.line_text.proofs.Pieces.{pieces_of}
use Rattle.batch_text.specs.Reading.{texts, commands_in, behind}
use Rattle.batch_text.proofs.reader.read_lines.Given as goal

abbrev pub invariant-lines : goal.invariant-lines
invariant-lines l =
    (goal.iterator-lines).can_next l.line-iterator
    × (goal.iterator-lines).is_finite l.line-iterator
    × (l.at ≡ length l.yielded + 1)
    × (l.at ≤ length l.text + 2)
    × (commands_in (counted_from 1 (pieces_of l.text)) ≡ behind (texts l.commands.items) (commands_in (counted_from l.at (drop (length l.yielded) (pieces_of l.text)))))
