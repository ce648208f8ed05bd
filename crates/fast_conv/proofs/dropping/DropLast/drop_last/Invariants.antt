use Rattle.std.proofs.Common.{◌≡◌, ℕ, ◌<◌, ◌≤◌, [], length, get_or}
use Rattle.ring_law.specs.Rows.{word_at}
use Rattle.fast_conv.specs.Rows.{kept_word, no_kept, shifted_word}
use Rattle.fast_conv.proofs.dropping.DropLast.drop_last.Given as goal

abbrev pub invariant-loop-k : goal.invariant-loop-k
invariant-loop-k g l = record {
  done : (i m : ℕ) → i < length l.self-inside.kept.items → m < l.k
      → word_at l.rows i m ≡ kept_word (get_or l.self-inside.kept.items i no_kept) (word_at l.fn.rows i m) (shifted_word l.self-inside.dropped (word_at l.fn.rows (length l.self-inside.kept.items) m));
  rest : (i m : ℕ) → l.k ≤ m → word_at l.rows i m ≡ word_at l.fn.rows i m;
  last : get_or l.rows (length l.self-inside.kept.items) [] ≡ get_or l.fn.rows (length l.self-inside.kept.items) [];
}
