use Rattle.std.proofs.Common.{◌≡◌, ℕ, ◌≤◌, ◌∙◌, ap, arith, subst, sym, pos, rules, List, ℤ}
use Rattle.std.specs.Prelude.{nat_abs}
use Rattle.ring_law.specs.Polynomials.{AllWithin}
use Rattle.ring_law.specs.Sums.{values_below}
use Rattle.ring_law.specs.Rows.{listed_polynomial}
use Rattle.ring_law.proofs.Values.{get_or-values_below}
use Rattle.bfv_model.specs.Drawn.{drawn_ternary, stream_word}
use Rattle.bfv_model.proofs.DrawnSamples.{drawn_ternary_within}
use Rattle.bfv_params.specs.Values.{SecretValue}
use Rattle.bfv_params.proofs.Tables.{degree_of-limit}
use Rattle.rand_words.specs.Words.{after_words}
use Rattle.rand_words.proofs.WordLemmas.{after_words-after_words}
use Rattle.rand_core.specs.Stream.{Stream}
use Rattle.key_make.proofs.DrawnWords.{secret_later}
use Rattle.key_make.proofs.secret_key.secret.Goals as goal

-- listed ternary samples are within 1
ternary_listed : (n : ℕ) (small : List ℤ) (words : ℕ → ℕ) → small ≡ values_below n (drawn_ternary words) → AllWithin n 1 (listed_polynomial small)
ternary_listed n small words is k below =
    subst (λ (x : ℤ). nat_abs x ≤ 1) (sym (ap (λ (xs : List ℤ). listed_polynomial xs k) is ∙ get_or-values_below n (drawn_ternary words) k (pos 0) below))
    (drawn_ternary_within n words k below)

pub set-requires : goal.set-requires
set-requires g c =
    let words = stream_word (g.R.Rng.stream c.key_id-id.new.rng) in
    let degree : g.row.N ≤ 32768 = subst (λ n. n ≤ 32768) (sym c.set-degree.ensures.degree) (degree_of-limit c.args.ctx.now.set) in
    (search rules, (omega (arith, degree), ternary_listed g.row.N c.ternary_row.new.out words c.ternary_row.ensures.samples))

pub returns-clause-coefficients : goal.returns-clause-coefficients
returns-clause-coefficients g c =
    ap (λ (s : SecretValue). s.small) c.set.ensures ∙ c.ternary_row.ensures.samples
    ∙ secret_later g.row.N (g.R.Rng.stream c.args.rng.now) (g.R.Rng.stream c.key_id-id.new.rng) c.key_id-id.ensures.rest

pub returns-clause-ternary : goal.returns-clause-ternary
returns-clause-ternary g c =
    ternary_listed g.row.N c.set.new.self.small (stream_word (g.R.Rng.stream c.key_id-id.new.rng))
    (ap (λ (s : SecretValue). s.small) c.set.ensures ∙ c.ternary_row.ensures.samples)

pub returns-clause-rest : goal.returns-clause-rest
returns-clause-rest g c =
    c.ternary_row.ensures.rest ∙ ap (λ (s : Stream). after_words g.row.N s) c.key_id-id.ensures.rest
    ∙ after_words-after_words 2 g.row.N (g.R.Rng.stream c.args.rng.now)
