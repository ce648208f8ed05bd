use Rattle.std.proofs.Common.{ap₂, ◌∙◌}
use Rattle.std.specs.Ordering.{ordering_then}
use Rattle.bound_num.proofs.Operations.{ordering_then-bound_value}
use Rattle.bound_num.proofs.Bound.cmp.Goals as goal

pub returns : goal.returns
returns c = c.then.ensures ∙ ap₂ ordering_then c.cmp.ensures c.cmp-2.ensures ∙ ordering_then-bound_value _ _ _ _ c.requires.canonical c.requires.other_canonical
