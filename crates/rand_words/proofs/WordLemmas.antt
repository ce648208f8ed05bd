-- The words that are left of a stream.
use Rattle.std.proofs.Common.{ℕ, zero, suc, ◌+◌, ◌≡◌, List, [], ◌∷◌, ◌++◌, replicate, refl, ap, ap₂, ◌∙◌, add-one, add-zero, add-suc}
use Rattle.std.proofs.lemmas.List.{append-nil, replicate-append-replicate}
use Rattle.rand_core.specs.Stream.{Call, Stream, u64_call, after, next_u64}
use Rattle.bfv_model.specs.Drawn.{stream_word}
use Rattle.rand_words.specs.Words.{after_words}

-- what comes after words and then more words comes after all of them
pub after_words-after_words : (n m : ℕ) (stream : Stream) → after_words m (after_words n stream) ≡ after_words (n + m) stream
unfolding after_words
after_words-after_words n zero stream = rw add-zero refl
after_words-after_words n (suc m) stream = rw add-suc (ap (after u64_call) (after_words-after_words n m stream))

-- no words taken
pub after_words-zero : (stream : Stream) → after_words 0 stream ≡ stream
unfolding after_words
after_words-zero stream = refl

-- one word more
pub after_words-more : (n : ℕ) (stream : Stream) → after u64_call (after_words n stream) ≡ after_words (n + 1) stream
unfolding after_words
after_words-more n stream = rw add-one refl

-- the answer to a call that words and then calls go before
u64_after-after_words : (n : ℕ) (stream : Stream) (calls : List Call)
    → (after_words n stream).u64_after calls ≡ stream.u64_after (replicate n u64_call ++ calls)
unfolding after_words
u64_after-after_words zero stream calls = refl
u64_after-after_words (suc n) stream calls =
    u64_after-after_words n stream (u64_call ∷ calls) ∙ ap stream.u64_after (moved n)
  where
    moved : (n : ℕ) → replicate n u64_call ++ u64_call ∷ calls ≡ u64_call ∷ (replicate n u64_call ++ calls)
    moved zero = refl
    moved (suc n) = ap (λ rest. u64_call ∷ rest) (moved n)

-- the words that are left begin where those that were taken end
pub stream_word-after_words : (n place : ℕ) (stream : Stream) → stream_word (after_words n stream) place ≡ stream_word stream (n + place)
unfolding stream_word
stream_word-after_words n place stream =
    u64_after-after_words n stream (replicate place u64_call) ∙ ap stream.u64_after (replicate-append-replicate n place u64_call)

-- the next word is the one at the place that counts the words before it, and one word more is then taken
pub next_u64-after_words : (n : ℕ) (stream : Stream) → next_u64 (after_words n stream) ≡ (stream_word stream n, after_words (n + 1) stream)
unfolding next_u64 stream_word
next_u64-after_words n stream =
    ap₂ (λ word rest. (word, rest)) (u64_after-after_words n stream [] ∙ ap stream.u64_after (append-nil (replicate n u64_call))) (after_words-more n stream)

-- what a call gives and leaves once n words were taken
pub word_taken : (n : ℕ) (first before rest : Stream) (word : ℕ) → before ≡ after_words n first → (word, rest) ≡ next_u64 before
    → (word ≡ stream_word first n) × (rest ≡ after_words (n + 1) first)
word_taken n first before rest word reached call =
    let both : (word, rest) ≡ (stream_word first n, after_words (n + 1) first) = call ∙ ap next_u64 reached ∙ next_u64-after_words n first in
    (ap (λ (p : ℕ × Stream). p.0) both, ap (λ (p : ℕ × Stream). p.1) both)
