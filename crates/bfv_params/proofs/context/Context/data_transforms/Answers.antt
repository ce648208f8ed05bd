use Rattle.std.proofs.Common.{◌∙◌, ap, length}
use Rattle.bfv_params.proofs.Parts.{moduli_of_first}
use Rattle.bfv_params.proofs.context.Context.data_transforms.Goals as goal

pub returns-clause-moduli : goal.returns-clause-moduli
returns-clause-moduli g c =
    let s = c.self.inside in
    rw (← c.self.view_is) (moduli_of_first s.set (length s.moduli.base) c.len.result c.deref.result.now (c.deref.ensures.value ∙ c.self.invariant.2.keys_are)
    (c.len.ensures.value ∙ ap length c.self.invariant.1.base_is))
