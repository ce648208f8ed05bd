use Rattle.std.proofs.Common.{◌≡◌, ◌+◌, ◌≤◌, length, drop, None}
use Rattle.std.specs.Prelude.{IfSome}
use Rattle.std.specs.Option.{option_map}
use Rattle.line_text.proofs.Pieces.{pieces_of}
use Rattle.script_text.specs.Drafts.{draft_seen, IsKept}
use Rattle.line_text.specs.Lines.{counted_from}
use Rattle.script_text.specs.Grammar.{after_lines}
use Rattle.script_text.proofs.parser.read_lines.Given as goal

abbrev pub invariant-lines : goal.invariant-lines
invariant-lines l =
    (goal.iterator-lines).can_next l.line-iterator
    × (goal.iterator-lines).is_finite l.line-iterator
    × (l.at ≡ length l.yielded + 1)
    × (l.at ≤ length l.text + 2)
    × IfSome l.draft (λ draft. IsKept draft l.at)
    × (after_lines None (counted_from 1 (pieces_of l.text))
    ≡ after_lines (option_map draft_seen l.draft) (counted_from l.at (drop (length l.yielded) (pieces_of l.text))))
