-- Each half of the id is a word of the stream.
use Rattle.std.proofs.Common.{ℕ, ◌≡◌, ◌++◌, List, drop, take, replicate, sym, refl}
use Rattle.bfv_model.specs.Drawn.{stream_word}
use borrow.Rule.Slice.PartMut.{put_mid}
use Rattle.byteorder.specs.Endian.{little_bytes}
use Rattle.rand_words.proofs.WordLemmas.{after_words-zero, word_taken}
use Rattle.rand_words.proofs.key_id.Goals as goal

two_words : (first second : List ℕ) (a b low high : ℕ) → first ≡ little_bytes 8 a
    → second ≡ little_bytes 8 b ++ drop 8 (take 8 (drop 8 (first ++ replicate 8 0))) → a ≡ low → b ≡ high
    → put_mid 8 8 (first ++ replicate 8 0) second ≡ little_bytes 8 low ++ little_bytes 8 high
two_words first second a b low high wrote_low wrote_high is_low is_high = rw (wrote_high, wrote_low, is_low, is_high) refl

pub returns-clause-id : goal.returns-clause-id
returns-clause-id g c =
    let stream = g.R.Rng.stream c.args.rng.now in
    let first = word_taken 0 stream stream (g.R.Rng.stream c.next_u64.new.self) c.next_u64.result (sym (after_words-zero stream)) c.next_u64.ensures in
    let second = word_taken 1 stream (g.R.Rng.stream c.next_u64.new.self) (g.R.Rng.stream c.next_u64-2.new.self) c.next_u64-2.result first.1 c.next_u64-2.ensures in
    two_words c.write_u64.new.buf c.write_u64-2.new.buf c.next_u64.result c.next_u64-2.result (stream_word stream 0) (stream_word stream 1)
    c.write_u64.ensures c.write_u64-2.ensures first.0 second.0

pub returns-clause-rest : goal.returns-clause-rest
returns-clause-rest g c =
    let stream = g.R.Rng.stream c.args.rng.now in
    let first = word_taken 0 stream stream (g.R.Rng.stream c.next_u64.new.self) c.next_u64.result (sym (after_words-zero stream)) c.next_u64.ensures in
    (word_taken 1 stream (g.R.Rng.stream c.next_u64.new.self) (g.R.Rng.stream c.next_u64-2.new.self) c.next_u64-2.result first.1 c.next_u64-2.ensures).1
