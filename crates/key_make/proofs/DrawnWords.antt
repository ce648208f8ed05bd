-- The coefficients of a secret, which are drawn after the two words of its id.
use Rattle.std.proofs.Common.{◌≡◌, ℕ, ap}
use Rattle.rand_core.specs.Stream.{Stream}
use Rattle.ring_law.specs.Sums.{values_below}
use Rattle.ring_law.proofs.Values.{values_below_ext}
use Rattle.bfv_model.specs.Drawn.{drawn_secret, drawn_ternary, stream_word, ternary_sample}
use Rattle.bfv_model.specs.Holds.{ternary_coefficient}
use Rattle.rand_words.specs.Words.{after_words}
use Rattle.rand_words.proofs.LaterWords.{word_later}

pub secret_later : (n : ℕ) (first later : Stream) → later ≡ after_words 2 first
    → values_below n (drawn_ternary (stream_word later)) ≡ values_below n (λ k. ternary_coefficient (drawn_secret (stream_word first) k))
secret_later n first later is =
    values_below_ext n (drawn_ternary (stream_word later)) (λ k. ternary_coefficient (drawn_secret (stream_word first) k))
    (λ k below. ap (λ word. ternary_coefficient (ternary_sample word)) (word_later 2 k first later is))
