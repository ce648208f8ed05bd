use Rattle.std.proofs.Common.{◌≡◌, ℕ, ℤ, ◌+◌, ◌*◌, ◌<◌, ◌∙◌, subst, ap, ap₂, arith, List, length, map, take, slice_index, pos}
use Rattle.std.proofs.Math.Seq.{take-length}
use Rattle.rand_core.specs.Stream.{Stream}
use Rattle.set_table.specs.declared.SetName.{SetName}
use Rattle.set_table.specs.Sets.{data_of, plain_of}
use Rattle.ring_law.specs.Moduli.{product}
use Rattle.ring_law.specs.Polynomials.{ring_product, ring_sum}
use Rattle.ring_law.specs.Rows.{listed_polynomial, natural_polynomial}
use Rattle.ring_law.proofs.Moduli.{PairwiseInvertible-from_coprime}
use Rattle.rns_poly.specs.Rows.{EachRepresents}
use Rattle.rns_poly.specs.Transforms.{AreTransforms}
use Rattle.res_base.proofs.Bases.{AllAboveOne-from_IsBase}
use Rattle.res_base.proofs.Sizes.{IsBase-data_of}
use Rattle.bfv_model.specs.Drawn.{greatest_error, greatest_ternary, stream_word}
use Rattle.bfv_model.specs.Holds.{listed_word}
use Rattle.bfv_model.specs.NoiseBounds.{fresh_bound_under}
use Rattle.bfv_model.specs.Plaintexts.{scaled_plain}
use Rattle.bfv_model.proofs.FreshNoise.{fresh_bound-ternary}
use Rattle.bfv_params.specs.Ciphers.{HoldsIn}
use Rattle.bfv_params.specs.Moduli.{data_at}
use Rattle.bfv_params.specs.Transforms.{transform_of}
use Rattle.bfv_params.proofs.Products.{degree_of-least}
use Rattle.bfv_params.specs.Rows.{ArePartlyWritten}
use Rattle.rand_words.specs.Words.{after_words}
use Rattle.rand_words.proofs.WordLemmas.{after_words-after_words}
use Rattle.rand_words.proofs.LaterWords.{errors_later}
use Rattle.bfv_encrypt.proofs.CipherWords.{CipherHolds-at_level, cipher_words, drawn_words-CipherHolds, key_represents}
use Rattle.bfv_encrypt.proofs.fresh_cipher.encrypt.Goals as goal

-- after n words, n more and n more
twice_later : (n : ℕ) (first middle last : Stream) → middle ≡ after_words n first → last ≡ after_words n middle → last ≡ after_words (2 * n) first
twice_later n first middle last is then =
    let twice : n + n ≡ 2 * n = omega arith in
    then ∙ ap (after_words n) is ∙ after_words-after_words n n first ∙ ap (λ (m : ℕ). after_words m first) twice

pub returns-clause-words : goal.returns-clause-words
returns-clause-words g c =
    let n : ℕ = g.row.N in
    let set = c.args.ctx.now.set in
    let moduli = data_of set in
    let L = length moduli in
    let q = product moduli in
    let t = plain_of set in
    let m = slice_index c.args.plain.now in
    let key = c.args.public.now.rows in
    let p = listed_word L key in
    let stream = g.R.Rng.stream c.args.rng.now in
    let words = stream_word stream in
    let whole : data_at set c.args.ctx.now.level ≡ moduli = ap (λ (l : ℕ). take l moduli) c.requires.level ∙ take-length moduli in
    let u : ℕ → ℕ → ℤ = λ i. listed_polynomial c.ternary_row.new.out in
    let transforms : AreTransforms (map (transform_of set) moduli) c.transform_small_into.new.out u =
    subst (λ (qs : List ℕ). AreTransforms (map (transform_of set) qs) c.transform_small_into.new.out u) whole c.transform_small_into.ensures.transforms in
    let Part : ℕ → List (List ℕ) → SetName → Type 0 = λ part rows s. EachRepresents n (data_of s) rows (λ i z. pos (listed_word (length (data_of s)) key part i z)) in
    let first_key : Part 0 c.part-first.result.rows.now set = subst (Part 0 c.part-first.result.rows.now) c.requires.public_set
    (key_represents n (data_of c.args.public.now.set) key c.part-first.result.rows.now 0 c.part-first.ensures.value c.part-first.ensures.reduced) in
    let second_key : Part 1 c.part-second.result.rows.now set = subst (Part 1 c.part-second.result.rows.now) c.requires.public_set
    (key_represents n (data_of c.args.public.now.set) key c.part-second.result.rows.now 1 c.part-second.ensures.value c.part-second.ensures.reduced) in
    let First : List ℕ → Type 0 = λ qs. EachRepresents n qs c.part-first.result.rows.now (λ i z. pos (p 0 i z)) → AreTransforms (map (transform_of set) qs) c.transform_small_into.new.out u
    → EachRepresents n qs c.plain_part.new.out (λ i. ring_sum (ring_sum (ring_product n (λ z. pos (p 0 i z)) (u i)) (listed_polynomial c.error_row.new.out))
    (natural_polynomial (λ k. scaled_plain (product qs) t (m k)))) in
    let Second : List ℕ → Type 0 = λ qs. EachRepresents n qs c.part-second.result.rows.now (λ i z. pos (p 1 i z)) → AreTransforms (map (transform_of set) qs) c.transform_small_into.new.out u
    → EachRepresents n qs c.masked_part.new.out (λ i. ring_sum (ring_product n (λ z. pos (p 1 i z)) (u i)) (listed_polynomial c.error_row-2.new.out)) in
    let cleared = c.set_parts.ensures in
    let level : c.set_parts.new.self.level ≡ L = cleared.level ∙ c.requires.out_of.level ∙ c.requires.level in
    let start : c.set_parts.new.self.parts * c.set_parts.new.self.level ≡ 2 * L = ap₂ (λ (a b : ℕ). a * b) cleared.parts level in
    let rows_are : length c.set_parts.new.self.rows ≡ 3 * L = cleared.kept.size ∙ ap (λ (a : ℕ). 3 * a) level in
    cipher_words n moduli q t p m words c.plain_part.new.out c.masked_part.new.out c.set_parts.new.self.rows c.set_part.new.self.rows c.set_part-2.new.self.rows
    c.ternary_row.new.out c.error_row.new.out c.error_row-2.new.out c.ternary_row.ensures.samples
    (subst First whole (c.plain_part.ensures.represents (λ i z. pos (p 0 i z)) u) first_key transforms)
    (subst Second whole (c.masked_part.ensures.represents (λ i z. pos (p 1 i z)) u) second_key transforms)
    (errors_later n n stream (g.R.Rng.stream c.ternary_row.new.rng) c.error_row.new.out c.ternary_row.ensures.rest c.error_row.ensures.samples)
    (errors_later n (2 * n) stream (g.R.Rng.stream c.error_row.new.rng) c.error_row-2.new.out
    (twice_later n stream (g.R.Rng.stream c.ternary_row.new.rng) (g.R.Rng.stream c.error_row.new.rng) c.ternary_row.ensures.rest c.error_row.ensures.rest) c.error_row-2.ensures.samples)
    (λ i k within below. cleared.kept.rest (2 * L + i) k (omega (arith, start)) (omega (arith, rows_are)) below)
    (subst (λ (l : ℕ). ArePartlyWritten (0 * l) l c.plain_part.new.out c.set_parts.new.self.rows c.set_part.new.self.rows) level c.set_part.ensures.written)
    (subst (λ (l : ℕ). ArePartlyWritten (1 * l) l c.masked_part.new.out c.set_part.new.self.rows c.set_part-2.new.self.rows) (c.set_part.ensures.level ∙ level) c.set_part-2.ensures.written)

pub returns-clause-holds : goal.returns-clause-holds
returns-clause-holds g c = λ K S s small is_key.
    let n : ℕ = g.row.N in
    let set = c.args.ctx.now.set in
    let base = IsBase-data_of set in
    let pos_n : 0 < n = omega (arith, c.data_moduli-count.ensures.degree, degree_of-least set) in
    let pos_t : 0 < plain_of set = omega (arith, c.requires.plain 0 pos_n) in
    CipherHolds-at_level n c.args.ctx.now.level (plain_of set) (data_of set) c.set_part-2.new.self.rows s (slice_index c.args.plain.now)
    (fresh_bound_under n (plain_of set) greatest_error K S) c.requires.level
    (drawn_words-CipherHolds n (plain_of set) K S (data_of set) (listed_word (length (data_of set)) c.args.public.now.rows) (slice_index c.args.plain.now)
    (stream_word (g.R.Rng.stream c.args.rng.now)) _ pos_n pos_t (PairwiseInvertible-from_coprime (data_of set) base.coprime) (AllAboveOne-from_IsBase (data_of set) base)
    c.requires.plain (returns-clause-words g c) s small is_key)

pub returns-clause-ternary : goal.returns-clause-ternary
returns-clause-ternary g c = λ s ternary is_key.
    subst (λ (bound : ℕ). HoldsIn g.row.N c.args.ctx.now c.set_part-2.new.self s (slice_index c.args.plain.now) bound)
    (fresh_bound-ternary g.row.N (plain_of c.args.ctx.now.set) greatest_error) (returns-clause-holds g c greatest_error greatest_ternary s ternary is_key)

pub returns-clause-rest : goal.returns-clause-rest
returns-clause-rest g c =
    let n : ℕ = g.row.N in
    let stream = g.R.Rng.stream c.args.rng.now in
    let twice = twice_later n stream (g.R.Rng.stream c.ternary_row.new.rng) (g.R.Rng.stream c.error_row.new.rng) c.ternary_row.ensures.rest c.error_row.ensures.rest in
    let more : 2 * n + n ≡ 3 * n = omega arith in
    c.error_row-2.ensures.rest ∙ ap (after_words n) twice ∙ after_words-after_words (2 * n) n stream ∙ ap (λ (j : ℕ). after_words j stream) more
