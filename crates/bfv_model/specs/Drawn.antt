-- What is drawn from a stream of random words, each sample being a function of the places of its words. n is the degree, and
-- `words` gives the word at a place.
use Rattle.std.specs.Prelude.{ℕ, zero, suc, ◌+◌, ◌*◌, ◌/◌, ◌%◌, ◌^◌, ℤ, pos, neg_ℤ, ◌+ℤ◌, ◌-ℤ◌, ◌*ℤ◌, List, ◌∷◌, [], ◌++◌, length, take, replicate, slice_index, count_ones, ◌==◌, if◌then◌else◌}
use Rattle.rand_core.specs.Stream.{Stream, u64_call}
use Rattle.rand_core.specs.Steps.{stream_of, steps_u32}
use Rattle.rand_chacha.specs.ChaCha.{next_word, of_seed}
use Rattle.byteorder.specs.Endian.{little_bytes}
use Rattle.ring_law.specs.Residues.{residue}
use Rattle.ring_law.specs.Polynomials.{ring_product}
use Rattle.ring_law.specs.Transform.{transform_entry}
use Rattle.bfv_model.specs.Holds.{ternary_coefficient}
use Rattle.bfv_model.specs.Plaintexts.{scaled_plain}

-- the word at a place of a stream, counted in words of 64 bits
unfoldable pub stream_word : Stream → ℕ → ℕ
stream_word stream place = stream.u64_after (replicate place u64_call)

-- the stream of the generator that the first 32 bytes seed: ChaCha with twenty rounds
unfoldable pub seed_stream : List ℕ → Stream
seed_stream bytes = stream_of (steps_u32 (next_word 10)) (of_seed (take 32 bytes))

-- ---- samples
-- the word of a ternary sample, 2 standing for -1
abbrev pub ternary_sample : ℕ → ℕ
ternary_sample word = word % 3

-- the number of ones in the lowest 21 bits, less that in the next 21
unfoldable pub error_sample : ℕ → ℤ
error_sample word = pos (count_ones (word % 2 ^ 21)) -ℤ pos (count_ones (word / 2 ^ 21 % 2 ^ 21))

-- the greatest absolute value of an error that is drawn: 21 bits less 21 bits
abbrev pub greatest_error : ℕ
greatest_error = 21

-- that of a ternary sample
abbrev pub greatest_ternary : ℕ
greatest_ternary = 1

-- two words as one number, the first one high, modulo p
abbrev pub uniform_sample : ℕ → ℕ → ℕ → ℕ
uniform_sample p high low = (high * 2 ^ 64 + low) % p

-- the uniform sample modulo p of the two words from a place on
abbrev pub uniform_at : (ℕ → ℕ) → ℕ → ℕ → ℕ
uniform_at words p place = uniform_sample p (words place) (words (place + 1))

-- ---- the secret: two words for its id, and then a word for each coefficient
abbrev pub drawn_key_id : (ℕ → ℕ) → List ℕ
drawn_key_id words = little_bytes 8 (words 0) ++ little_bytes 8 (words 1)

-- the word of coefficient k
abbrev pub drawn_secret : (ℕ → ℕ) → ℕ → ℕ
drawn_secret words k = ternary_sample (words (2 + k))

-- ---- the public key (-(a*s + e), a): n words for e, and then for each modulus two words for each coefficient of a
abbrev pub drawn_error : (ℕ → ℕ) → ℕ → ℕ → ℤ
drawn_error words from k = error_sample (words (from + k))

-- word k of row i of a
abbrev pub drawn_mask : ℕ → List ℕ → (ℕ → ℕ) → ℕ → ℕ → ℕ
drawn_mask n moduli words i k = uniform_at words (slice_index moduli i) (n + 2 * (i * n + k))

-- word k of row i of each part
abbrev pub drawn_public : ℕ → List ℕ → (ℕ → ℤ) → (ℕ → ℕ) → ℕ → ℕ → ℕ → ℕ
drawn_public n moduli s words zero i k =
    residue (slice_index moduli i) (neg_ℤ (ring_product n (λ z. pos (drawn_mask n moduli words i z)) s k +ℤ drawn_error words 0 k))
drawn_public n moduli s words (suc part) i k = drawn_mask n moduli words i k

-- ---- digit i of a switching key from `source` to s: its words begin at this place, n of them for the error e, and then for
-- each data modulus and for P two words for each entry of the transform of the mask
abbrev pub digit_place : ℕ → List ℕ → ℕ → ℕ
digit_place n moduli i = i * (n + 2 * n * (length moduli + 1))

-- entry k of row r of the mask
abbrev pub drawn_digit_mask : ℕ → List ℕ → ℕ → (ℕ → ℕ) → ℕ → ℕ → ℕ → ℕ
drawn_digit_mask n moduli P words i r k = uniform_at words (slice_index (moduli ++ P ∷ []) r) (digit_place n moduli i + n + 2 * (r * n + k))

-- entry k of row r of the transform of e - mask*s + P*g_i*source, where n is 2^log, g_i is 1 modulo modulus i and 0 modulo the
-- others, and each row has its root
abbrev pub drawn_digit : ℕ → List ℕ → ℕ → List ℕ → (ℕ → ℤ) → (ℕ → ℤ) → (ℕ → ℕ) → ℕ → ℕ → ℕ → ℕ
drawn_digit log moduli P roots source s words i r k =
    let p = slice_index (moduli ++ P ∷ []) r in
    let root = slice_index roots r in
    residue p (pos (transform_entry p log root (drawn_error words (digit_place (2 ^ log) moduli i)) k)
    -ℤ pos (drawn_digit_mask (2 ^ log) moduli P words i r k) *ℤ pos (transform_entry p log root s k)
    +ℤ (if r == i then pos P *ℤ pos (transform_entry p log root source k) else pos 0))

-- entry k of row r of each part of digit i
abbrev pub drawn_switch : ℕ → List ℕ → ℕ → List ℕ → (ℕ → ℤ) → (ℕ → ℤ) → (ℕ → ℕ) → ℕ → ℕ → ℕ → ℕ → ℕ
drawn_switch log moduli P roots source s words i zero r k = drawn_digit log moduli P roots source s words i r k
drawn_switch log moduli P roots source s words i (suc part) r k = drawn_digit_mask (2 ^ log) moduli P words i r k

-- ---- a cipher of m under the public key p, (p0*u + e1 + scaled m, p1*u + e2): n words each for u, e1 and e2
abbrev pub drawn_ternary : (ℕ → ℕ) → ℕ → ℤ
drawn_ternary words k = ternary_coefficient (ternary_sample (words k))

-- word k of row i of each part, from those of the public key
abbrev pub drawn_cipher : ℕ → List ℕ → ℕ → ℕ → (ℕ → ℕ → ℕ → ℕ) → (ℕ → ℕ) → (ℕ → ℕ) → ℕ → ℕ → ℕ → ℕ
drawn_cipher n moduli q t p m words zero i k =
    residue (slice_index moduli i) (ring_product n (λ z. pos (p 0 i z)) (drawn_ternary words) k +ℤ drawn_error words n k +ℤ pos (scaled_plain q t (m k)))
drawn_cipher n moduli q t p m words (suc zero) i k =
    residue (slice_index moduli i) (ring_product n (λ z. pos (p 1 i z)) (drawn_ternary words) k +ℤ drawn_error words (2 * n) k)
drawn_cipher n moduli q t p m words (suc (suc part)) i k = 0
