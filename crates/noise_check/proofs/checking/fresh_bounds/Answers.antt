use Rattle.std.proofs.Common.{ap, ap₂, ◌∙◌, replicate}
use Rattle.set_table.specs.Sets.{degree_of, plain_of}
use Rattle.bound_num.specs.Bound.{up}
use Rattle.bfv_model.specs.Drawn.{greatest_error}
use Rattle.bfv_model.specs.NoiseBounds.{fresh_bound}
use Rattle.noise_check.specs.Numbers.{numbers}
use Rattle.noise_check.proofs.BoundLists.{numbers-replicate}
use Rattle.noise_check.proofs.checking.fresh_bounds.Goals as goal

pub returns-clause-values : goal.returns-clause-values
returns-clause-values c =
    ap numbers (c.in_ok-vec.ensures.items_if_clones_equal (λ y same. same))
    ∙ numbers-replicate c.ciphers.result c.fresh.result
    ∙ ap₂ replicate c.ciphers.ensures
    (c.fresh.ensures.value ∙ ap (λ set. up (fresh_bound (degree_of set) (plain_of set) greatest_error)) c.set.ensures.value)
