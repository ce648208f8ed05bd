use Rattle.std.proofs.Common.{◌≡◌, ℕ, sym, subst, ◌∙◌}
use Rattle.std.specs.Int.{IsGcd}
use Rattle.set_table.specs.Sets.{aux_of, m_sk}
use Rattle.ring_law.specs.Moduli.{PairwiseCoprime, product}
use Rattle.bfv_params.proofs.Coprimality.{aux_coprime, aux_product_coprime, first_wide, last_wide}
use Rattle.bfv_params.proofs.converters.way_back.Goals as goal

pub coprime_base-requires-clause-coprime : goal.coprime_base-requires-clause-coprime
coprime_base-requires-clause-coprime c =
    subst PairwiseCoprime (sym (first_wide c.args.set c.aux_count-count.result c.args.wide.now c.requires c.aux_count-count.ensures.listed)) (aux_coprime c.args.set)

pub new-requires-clause-coprime : goal.new-requires-clause-coprime
new-requires-clause-coprime c =
    let count : ℕ = c.aux_count-count.result in
    let base : c.in_ok-base.base ≡ aux_of c.args.set = c.in_ok-base.ensures ∙ first_wide c.args.set count c.args.wide.now c.requires c.aux_count-count.ensures.listed in
    let last : c.index-wide-count.result ≡ m_sk = c.index-wide-count.is ∙ last_wide c.args.set count c.index-wide-count.result c.args.wide.now c.requires c.aux_count-count.ensures.listed in
    subst (λ b. IsGcd (product b) c.index-wide-count.result 1) (sym base) (subst (λ p. IsGcd (product (aux_of c.args.set)) p 1) (sym last) (aux_product_coprime c.args.set))
