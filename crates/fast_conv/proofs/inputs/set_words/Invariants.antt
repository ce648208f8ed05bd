use Rattle.std.proofs.Common.{◌≡◌, ℕ, ◌^◌, ◌<◌, length, get_or}
use Rattle.ring_law.specs.Rows.{word_at}
use Rattle.fast_conv.specs.Rows.{input_word}
use Rattle.fast_conv.proofs.inputs.set_words.Given as goal

abbrev pub invariant-loop-i : goal.invariant-loop-i
invariant-loop-i g l = record {
  count : length l.words ≡ 32;
  value : (i : ℕ) → i < l.i → get_or l.words i 0 ≡ input_word l.inputs i (word_at l.from i l.k);
  below : (i : ℕ) → i < l.i → get_or l.words i 0 < 2 ^ 61;
}
