use Rattle.std.proofs.Common.{◌≡◌, ℕ, ℤ, ◌+◌, ◌*◌, ◌<◌, ◌∙◌, refl, sym, subst, ap, List, length, take, slice_index, pos}
use Rattle.std.proofs.Math.Seq.{take-length}
use Rattle.rand_core.specs.Stream.{Stream}
use Rattle.set_table.specs.declared.SetName.{SetName}
use Rattle.set_table.specs.Sets.{data_of}
use Rattle.ring_law.specs.Polynomials.{ring_negative, ring_product, ring_sum}
use Rattle.ring_law.specs.Rows.{listed_polynomial, word_at}
use Rattle.ring_law.proofs.Moduli.{PairwiseInvertible-from_coprime}
use Rattle.rns_poly.specs.Rows.{EachRepresents}
use Rattle.res_base.proofs.Bases.{AllAboveOne-from_IsBase}
use Rattle.res_base.proofs.Sizes.{IsBase-data_of}
use Rattle.bfv_model.specs.Drawn.{drawn_mask, stream_word, uniform_at}
use Rattle.bfv_params.specs.Moduli.{data_at}
use Rattle.bfv_params.specs.Rows.{ArePartlyWritten}
use Rattle.rand_words.specs.Words.{after_words}
use Rattle.rand_words.proofs.WordLemmas.{after_words-after_words, after_words-zero}
use Rattle.rand_words.proofs.LaterWords.{errors_later, uniform_later}
use Rattle.key_make.proofs.PublicWords.{drawn_words-WordsArePublicKeyOf, mask_represents, public_words}
use Rattle.key_make.proofs.public_key.public.Goals as goal

pub returns-clause-words : goal.returns-clause-words
returns-clause-words g c =
    let n : ℕ = g.row.N in
    let set = c.args.ctx.now.set in
    let moduli = data_of set in
    let s = listed_polynomial c.args.secret.now.small in
    let stream = g.R.Rng.stream c.args.rng.now in
    let words = stream_word stream in
    let whole : data_at set c.args.ctx.now.level ≡ moduli = ap (λ (l : ℕ). take l moduli) c.requires.level ∙ take-length moduli in
    let named = c.data_moduli-moduli.ensures.value ∙ whole in
    let mask = c.uniform_rows.new.rows in
    let Drawn : List ℕ → Type 0 = λ qs. (i k : ℕ) → i < length qs → k < n → word_at mask i k ≡ uniform_at words (slice_index qs i) (n + 2 * (i * n + k)) in
    let drawn : Drawn moduli = subst Drawn named (λ i k within below. c.uniform_rows.ensures.samples i k within below
    ∙ uniform_later n (slice_index c.data_moduli-moduli.result.now i) (2 * (i * n + k)) (n + 2 * (i * n + k)) stream (g.R.Rng.stream c.error_row.new.rng) c.error_row.ensures.rest refl) in
    let a : ℕ → ℕ → ℤ = λ i z. pos (drawn_mask n moduli words i z) in
    let computed : EachRepresents n moduli c.mask_error.new.out (λ i. ring_negative (ring_sum (ring_product n (a i) s) (listed_polynomial c.error_row.new.out))) =
    subst (λ (qs : List ℕ). EachRepresents n qs mask a → EachRepresents n qs c.mask_error.new.out (λ i. ring_negative (ring_sum (ring_product n (a i) s) (listed_polynomial c.error_row.new.out))))
    whole (c.mask_error.ensures.represents a) (mask_represents n moduli words mask drawn) in
    public_words n moduli s words mask c.mask_error.new.out c.args.out.now.rows c.set_part.new.self.rows c.set_part-2.new.self.rows c.error_row.new.out drawn computed
    (errors_later n 0 stream stream c.error_row.new.out (sym (after_words-zero stream)) c.error_row.ensures.samples)
    (subst (λ (q : SetName). ArePartlyWritten (1 * length (data_of q)) (length (data_of q)) mask c.args.out.now.rows c.set_part.new.self.rows) c.requires.out_set c.set_part.ensures.written)
    (subst (λ (q : SetName). ArePartlyWritten (0 * length (data_of q)) (length (data_of q)) c.mask_error.new.out c.set_part.new.self.rows c.set_part-2.new.self.rows)
    (c.set_part.ensures.set ∙ c.requires.out_set) c.set_part-2.ensures.written)

pub returns-clause-relation : goal.returns-clause-relation
returns-clause-relation g c =
    let set = c.args.ctx.now.set in
    let base = IsBase-data_of set in
    drawn_words-WordsArePublicKeyOf g.row.N (data_of set) (listed_polynomial c.args.secret.now.small) (stream_word (g.R.Rng.stream c.args.rng.now)) _
    (PairwiseInvertible-from_coprime (data_of set) base.coprime) (AllAboveOne-from_IsBase (data_of set) base) (returns-clause-words g c)

pub returns-clause-rest : goal.returns-clause-rest
returns-clause-rest g c =
    let n : ℕ = g.row.N in
    let stream = g.R.Rng.stream c.args.rng.now in
    let count : length c.data_moduli-moduli.result.now ≡ length (data_of c.args.ctx.now.set) = c.data_moduli-moduli.ensures.count ∙ c.requires.level in
    c.uniform_rows.ensures.rest ∙ ap (λ (s : Stream). after_words (2 * n * length c.data_moduli-moduli.result.now) s) c.error_row.ensures.rest
    ∙ after_words-after_words n (2 * n * length c.data_moduli-moduli.result.now) stream ∙ ap (λ (m : ℕ). after_words (n + 2 * n * m) stream) count
