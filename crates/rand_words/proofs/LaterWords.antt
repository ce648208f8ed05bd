-- Samples that are drawn once words of a stream were taken, at their places in the whole stream.
use Rattle.std.proofs.Common.{◌≡◌, ℕ, ◌+◌, ◌<◌, ◌∙◌, ap, ap₂, arith, ℤ, pos, List}
use Rattle.rand_core.specs.Stream.{Stream}
use Rattle.ring_law.specs.Sums.{values_below}
use Rattle.ring_law.specs.Rows.{listed_polynomial}
use Rattle.ring_law.proofs.Values.{get_or-values_below}
use Rattle.bfv_model.specs.Drawn.{drawn_error, error_sample, stream_word, uniform_at, uniform_sample}
use Rattle.rand_words.specs.Words.{after_words}
use Rattle.rand_words.proofs.WordLemmas.{stream_word-after_words}

-- a word, once n were taken
pub word_later : (n place : ℕ) (first later : Stream) → later ≡ after_words n first → stream_word later place ≡ stream_word first (n + place)
word_later n place first later is = ap (λ (s : Stream). stream_word s place) is ∙ stream_word-after_words n place first

-- a uniform sample
pub uniform_later : (n p place whole : ℕ) (first later : Stream) → later ≡ after_words n first → n + place ≡ whole
    → uniform_at (stream_word later) p place ≡ uniform_at (stream_word first) p whole
uniform_later n p place whole first later is at =
    let next : n + (place + 1) ≡ whole + 1 = omega arith in
    ap₂ (uniform_sample p) (word_later n place first later is ∙ ap (stream_word first) at) (word_later n (place + 1) first later is ∙ ap (stream_word first) next)

-- the errors of a row
pub errors_later : (count n : ℕ) (first later : Stream) (errors : List ℤ) → later ≡ after_words n first → errors ≡ values_below count (λ k. error_sample (stream_word later k))
    → (k : ℕ) → k < count → listed_polynomial errors k ≡ drawn_error (stream_word first) n k
errors_later count n first later errors is drawn k below =
    ap (λ (e : List ℤ). listed_polynomial e k) drawn ∙ get_or-values_below count (λ z. error_sample (stream_word later z)) k (pos 0) below
    ∙ ap error_sample (word_later n k first later is)
