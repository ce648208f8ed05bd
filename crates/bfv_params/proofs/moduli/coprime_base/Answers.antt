use Rattle.std.proofs.Common.{ap, ◌∙◌, Err}
use Rattle.bfv_params.proofs.moduli.coprime_base.Goals as goal

pub unreachable-requires : goal.unreachable-requires
unreachable-requires c =
    let first = c.new.ensures.not_coprime c.in-Err-NotCoprime.field-0-0 c.in-Err-NotCoprime.field-0-1 (c.in-Err-NotCoprime.is ∙ ap Err c.in-Err-NotCoprime.field-0-is) in
    first.next.not_coprime (c.requires.coprime _ _ 0 first.next.ordered first.next.in_list)
