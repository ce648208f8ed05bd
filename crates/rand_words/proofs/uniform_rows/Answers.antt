use Rattle.std.proofs.Common.{◌≡◌, ◌≢◌, ℕ, ◌+◌, ◌*◌, ◌<◌, ◌∙◌, sym, ap, arith, subst, below_more, List, [], set, slice_index, length, get_or-set_other, get_or-set_same}
use Rattle.std.proofs.lemmas.List.{get_or_default}
use Rattle.rand_core.specs.Stream.{Stream}
use Rattle.ring_law.specs.Rows.{IsReduced, word_at}
use Rattle.ring_law.proofs.Values.{get_or-values_below}
use Rattle.bfv_model.specs.Drawn.{stream_word, uniform_at}
use Rattle.rand_words.specs.Words.{after_words}
use Rattle.rand_words.proofs.RowLemmas.{samples-each}
use Rattle.rand_words.proofs.WordLemmas.{after_words-after_words, after_words-zero}
use Rattle.rand_words.proofs.LaterWords.{uniform_later}
use Rattle.rand_words.proofs.uniform_rows.Goals as goal

pub loop-i-init : goal.loop-i-init
loop-i-init g c =
    let stream = g.R.Rng.stream c.args.rng.now in
    let none : 0 ≡ 2 * g.row.N * 0 = omega arith in
    record {
      samples = λ j k less below. absurd (omega arith);
      reduced = λ j less. absurd (omega arith);
      rest = sym (after_words-zero stream) ∙ ap (λ (m : ℕ). after_words m stream) none;
    }

pub loop-i-preserved : goal.loop-i-preserved
loop-i-preserved g c =
    let n : ℕ = g.row.N in
    let stream = g.R.Rng.stream c.args.rng.now in
    let now = g.R.Rng.stream c.loop-i.rng in
    let i = c.loop-i.i in
    let before = c.loop-i.invariant in
    let row = c.uniform_row.new.out in
    let q = c.index-moduli-i.result in
    let q_is : q ≡ slice_index c.args.moduli.now i = c.index-moduli-i.is ∙ get_or_default c.args.moduli.now i q 0 (omega (arith, c.loop-i-test.true)) in
    let within : i < length c.loop-i.rows = omega (arith, c.loop-i-test.true, c.loop-i.auto.rows, c.requires.length) in
    let Words : ℕ → Type 0 = λ j. (k : ℕ) → k < n → word_at (set c.loop-i.rows i row) j k ≡ uniform_at (stream_word stream) (slice_index c.args.moduli.now j) (2 * (j * n + k)) in
    let all : (j : ℕ) → j < i + 1 → Words j = below_more Words i
    (λ j less k below. let other : j ≢ i = omega arith in
    ap (λ (r : List ℕ). slice_index r k) (get_or-set_other c.loop-i.rows i j row [] other) ∙ before.samples j k less below)
    (λ k below. ap (λ (r : List ℕ). slice_index r k) (get_or-set_same c.loop-i.rows i row [] within ∙ c.uniform_row.ensures.samples)
    ∙ get_or-values_below n (λ z. uniform_at (stream_word now) q (2 * z)) k 0 below
    ∙ uniform_later (2 * n * i) q (2 * k) (2 * (i * n + k)) stream now before.rest (omega arith)
    ∙ ap (λ p. uniform_at (stream_word stream) p (2 * (i * n + k))) q_is) in
    let more : 2 * n * i + 2 * n ≡ 2 * n * (i + 1) = omega arith in
    record {
      samples = λ j k less below. all j less k below;
      reduced = samples-each (λ j row. IsReduced n (slice_index c.args.moduli.now j) row) c.loop-i.rows i row [] within
          (subst (λ (p : ℕ). IsReduced n p row) q_is c.uniform_row.ensures.reduced) before.reduced;
      rest = c.uniform_row.ensures.rest ∙ ap (λ (s : Stream). after_words (2 * n) s) before.rest ∙ after_words-after_words (2 * n * i) (2 * n) stream
          ∙ ap (λ (m : ℕ). after_words m stream) more;
    }
