-- What is left of a stream of random words once some of them were taken.
use Rattle.std.specs.Prelude.{ℕ, zero, suc}
use Rattle.rand_core.specs.Stream.{Stream, u64_call, after}

-- the stream that is left after its next n words of 64 bits
unfoldable pub after_words : ℕ → Stream → Stream
after_words zero stream = stream
after_words (suc n) stream = after u64_call (after_words n stream)
