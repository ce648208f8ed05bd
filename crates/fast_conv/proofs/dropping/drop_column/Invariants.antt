use Rattle.std.proofs.Common.{◌≡◌, ◌≢◌, ℕ, ◌<◌, ◌≤◌, [], length, get_or}
use Rattle.ring_law.specs.Rows.{word_at}
use Rattle.fast_conv.specs.Rows.{kept_word, no_kept, shifted_word}
use Rattle.fast_conv.proofs.dropping.drop_column.Given as goal

abbrev pub invariant-loop-i : goal.invariant-loop-i
invariant-loop-i g l = record {
  set : (i : ℕ) → i < l.i → word_at l.rows i l.k ≡ kept_word (get_or l.kept i no_kept) (word_at l.fn.rows i l.k) (shifted_word l.fn.dropped (word_at l.fn.rows (length l.kept) l.k));
  rest : (i m : ℕ) → m ≢ l.k → word_at l.rows i m ≡ word_at l.fn.rows i m;
  later : (i : ℕ) → l.i ≤ i → get_or l.rows i [] ≡ get_or l.fn.rows i [];
}
