use Rattle.std.proofs.Common.{◌≡◌, map}
use Rattle.std.specs.String.{string_bytes}
use Rattle.batch_text.proofs.words.words_of.Given as goal

abbrev pub invariant-words : goal.invariant-words
invariant-words l =
    (goal.iterator-words).can_next l.word-iterator
    × (goal.iterator-words).is_finite l.word-iterator
    × (map string_bytes l.words.items ≡ map (λ word. word.now) l.yielded)
